use Rattle.shinri_core.proofs.Kit.{refl, rules, arith, ap}
use Rattle.solver.specs.Memory.Work.{term_word}
use Rattle.solver.proofs.Memory.Injecting.{along_first, along_asked, along_terms, along_place, along_next, along_less, along_stop, along_done}
use Rattle.solver.proofs.Memory.NoRooms.{no_room}
use Rattle.solver.proofs.injectivity.select_class.Goals as goal

pub loop-next-init : goal.loop-next-init
loop-next-init c = (along_first c.requires c.next_of_class-next.ensures, search rules, search rules)

pub mint_selectors-requires : goal.mint_selectors-requires
mint_selectors-requires c = along_asked c.loop-next.invariant.0 (ap term_word c.in-Some.is)

pub returns-in_err-mint_selectors : goal.returns-in_err-mint_selectors
returns-in_err-mint_selectors c =
    rw (no_room c.from_residual.result c.from_residual.ensures.0)
    (along_stop c.loop-next.invariant.0 (ap term_word c.in-Some.is) c.in_err-mint_selectors.ensures refl)

pub known_after-known-requires : goal.known_after-known-requires
known_after-known-requires c = along_terms c.loop-next.invariant.0 (ap term_word c.in-Some.is) c.in_ok-mint_selectors.ensures refl

pub next_of_class-next-requires-in-Some : goal.next_of_class-next-requires-in-Some
next_of_class-next-requires-in-Some c =
    let place = along_place c.loop-next.invariant.0 (ap term_word c.in-Some.is) in
    omega arith

pub loop-next-smaller : goal.loop-next-smaller
loop-next-smaller c =
    along_less c.loop-next.invariant.0 (ap term_word c.in-Some.is) c.in_ok-mint_selectors.ensures refl
    c.next_of_class-next-in-Some.ensures

pub loop-next-preserved : goal.loop-next-preserved
loop-next-preserved c = (
  along_next c.loop-next.invariant.0 (ap term_word c.in-Some.is) c.in_ok-mint_selectors.ensures refl
      c.known_after-known.ensures c.next_of_class-next-in-Some.ensures,
  search rules,
  search rules,
)

pub returns : goal.returns
returns c = along_done c.loop-next.invariant.0 (ap term_word c.in_default.is)
