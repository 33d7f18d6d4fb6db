-- The questions in order.
use Rattle.session.proofs.Memory.Merging.{lit_named, equating, equate_early, equate_missing, equate_other, equate_merged}
use Rattle.session.proofs.merging.equate_line.Goals as goal

pub returns-then-not-closed : goal.returns-then-not-closed
returns-then-not-closed c = search equate_early

pub returns-then-not-var_exists : goal.returns-then-not-var_exists
returns-then-not-var_exists c = search equate_missing

pub equation-requires : goal.equation-requires
equation-requires c = search lit_named

pub returns-then-not-equation : goal.returns-then-not-equation
returns-then-not-equation c = search equate_other

pub merge_sides-requires : goal.merge_sides-requires
merge_sides-requires c = search equating

pub returns : goal.returns
returns c = search equate_merged
