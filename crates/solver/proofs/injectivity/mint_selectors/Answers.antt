-- By the two constructors.
use Rattle.shinri_core.proofs.Kit.{rules}
use Rattle.solver.proofs.Memory.Injecting.{lower_within, higher_within, same_asked, other_skipped, same_selected}
use Rattle.solver.proofs.injectivity.mint_selectors.Goals as goal

pub symbol_of-c-requires : goal.symbol_of-c-requires
symbol_of-c-requires c = (search rules, search lower_within)

pub symbol_of-requires : goal.symbol_of-requires
symbol_of-requires c = (search rules, search higher_within)

pub returns-then-symbol_of-c : goal.returns-then-symbol_of-c
returns-then-symbol_of-c c = other_skipped c.requires c.symbol_of-c.ensures c.symbol_of.ensures c.if-symbol_of-c.true

pub select_both-requires : goal.select_both-requires
select_both-requires c = same_asked c.requires c.symbol_of-c.ensures c.symbol_of.ensures c.if-symbol_of-c.false

pub returns : goal.returns
returns c =
    same_selected c.requires c.symbol_of-c.ensures c.symbol_of.ensures c.if-symbol_of-c.false c.select_both.ensures
