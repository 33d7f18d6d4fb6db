-- The term made is a selector application, so the marked constructor applications stay.
use Rattle.shinri_core.proofs.Kit.{refl, arith}
use Rattle.solver.proofs.Memory.Injecting.{selector_no_function, selector_makeable, selector_small, mint_fits, mint_full}
use Rattle.solver.proofs.Memory.NoRooms.{no_room}
use Rattle.solver.proofs.injectivity.mint_selector.Goals as goal

pub overflow_cast-f : goal.overflow_cast-f
overflow_cast-f c = omega (arith, selector_small c.requires)

pub mint-requires : goal.mint-requires
mint-requires c = (search selector_makeable, search selector_no_function)

pub returns-in_err-mint : goal.returns-in_err-mint
returns-in_err-mint c =
    rw (no_room c.from_residual.result c.from_residual.ensures.0) (mint_full c.requires c.in_err-mint.ensures refl)

pub returns : goal.returns
returns c = mint_fits c.requires c.in_ok-mint.ensures refl
