-- One class stays as it is; two are joined under the label.
use Rattle.theory.proofs.Memory.Joining.{merged_one, joinable_label, merged_label}
use Rattle.theory.proofs.eq_engine.merge.Goals as goal

pub returns-then-are_equal : goal.returns-then-are_equal
returns-then-are_equal c = search merged_one

pub join-requires : goal.join-requires
join-requires c = joinable_label c.args.j _ c.from.ensures c.are_equal.ensures c.if-are_equal.false c.requires

pub returns : goal.returns
returns c = merged_label c.args.j _ c.from.ensures c.are_equal.ensures c.if-are_equal.false c.join.ensures
