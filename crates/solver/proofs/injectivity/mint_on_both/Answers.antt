-- The higher one alone where the lower one has it, else one after the other.
use Rattle.shinri_core.proofs.Kit.{refl}
use Rattle.solver.proofs.Memory.Injecting.{both_first, both_last, both_second, both_known, both_done, both_full}
use Rattle.solver.proofs.Memory.NoRooms.{no_room}
use Rattle.solver.proofs.injectivity.mint_on_both.Goals as goal
use Rattle.solver.proofs.injectivity.mint_on_both.Goals.{then-not-known+in_ok-mint_selector, else-not-known}

pub mint_selector-requires : goal.mint_selector-requires
mint_selector-requires c = search both_first

pub returns-in_err-mint_selector : goal.returns-in_err-mint_selector
returns-in_err-mint_selector c =
    rw (no_room c.from_residual.result c.from_residual.ensures.0) (both_full c.requires c.in_err-mint_selector.ensures refl)

pub mint_selector-requires-2 : goal.mint_selector-requires-2
mint_selector-requires-2 c =
    elim c.if-not-known.branch [
      | then-not-known+in_ok-mint_selector w ↦ rw (w.t-is, w.w-is) (both_second c.requires w.in_ok-mint_selector.ensures)
      | else-not-known w ↦ rw (w.t-is, w.w-is) (both_last c.requires)
    ]

pub returns : goal.returns
returns c =
    elim c.if-not-known.branch [
      | then-not-known+in_ok-mint_selector w ↦
          both_done c.requires w.in_ok-mint_selector.ensures refl (rw (w.t-is, w.w-is) at c.mint_selector-2.ensures)
      | else-not-known w ↦ both_known c.requires w.if-not-known.false (rw (w.t-is, w.w-is) at c.mint_selector-2.ensures)
    ]
