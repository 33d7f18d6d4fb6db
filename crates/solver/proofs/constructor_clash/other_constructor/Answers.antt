use Rattle.shinri_core.proofs.Kit.{ap, rules}
use Rattle.solver.specs.Memory.Work.{term_word}
use Rattle.solver.proofs.Memory.ConstructorClash.{walk_first, walk_next, walk_less, walk_within, walk_place, walked_within, walked_place, walk_found}
use Rattle.solver.proofs.constructor_clash.other_constructor.Goals as goal

pub symbol_of-f-requires : goal.symbol_of-f-requires
symbol_of-f-requires c = (search rules, search walked_within)

pub next_of_class-next-requires : goal.next_of_class-next-requires
next_of_class-next-requires c = walked_place c.requires

pub loop-next-init : goal.loop-next-init
loop-next-init c = walk_first c.requires c.symbol_of-f.ensures c.next_of_class-next.ensures

pub symbol_of-requires : goal.symbol_of-requires
symbol_of-requires c = (search rules, walk_within c.loop-next.invariant (ap term_word c.in-Some.is))

pub returns-then-symbol_of-f : goal.returns-then-symbol_of-f
returns-then-symbol_of-f c = walk_found c.loop-next.invariant (ap term_word c.in-Some.is) c.symbol_of.ensures c.if-symbol_of-f.true

pub next_of_class-next-requires-in-Some : goal.next_of_class-next-requires-in-Some
next_of_class-next-requires-in-Some c = walk_place c.loop-next.invariant (ap term_word c.in-Some.is)

pub loop-next-smaller : goal.loop-next-smaller
loop-next-smaller c = walk_less c.loop-next.invariant (ap term_word c.in-Some.is) c.next_of_class-next-in-Some.ensures

pub loop-next-preserved : goal.loop-next-preserved
loop-next-preserved c =
    walk_next c.loop-next.invariant (ap term_word c.in-Some.is) c.symbol_of.ensures c.if-symbol_of-f.false
    c.next_of_class-next-in-Some.ensures

pub returns : goal.returns
returns c = λ m. c.loop-next.invariant.done (ap term_word c.in_default.is)
