-- The next rule is tried, as the first only passes.
use Rattle.shinri_core.proofs.Kit.{[], refl, rules}
use Rattle.solver.specs.Rules.{pass, instantiate_injectivity_selectors}
use Rattle.solver.specs.Memory.Checks.{from_collapse}
use Rattle.solver.proofs.Memory.NoRooms.{no_room}
use Rattle.solver.proofs.Memory.Trying.{err_not_sat}
use Rattle.solver.proofs.Memory.Unfitting.{from_collapse_onward}
use Rattle.solver.proofs.Memory.Checking.{then_on, then_stop}
use Rattle.solver.proofs.check.from_injectivity.Goals as goal

pub returns-in_err-instantiate_injectivity_selectors : goal.returns-in_err-instantiate_injectivity_selectors
returns-in_err-instantiate_injectivity_selectors c =
    rw (no_room c.from_residual.result c.from_residual.ensures.0)
    (then_stop (λ S. pass (instantiate_injectivity_selectors S)) from_collapse (err_not_sat refl) from_collapse_onward
    (c.in_err-instantiate_injectivity_selectors.ensures.tried _ _ c.requires.check))

pub from_collapse-requires : goal.from_collapse-requires
from_collapse-requires c =
    record {
      check = (c.in_ok-instantiate_injectivity_selectors.ensures.tried _ [] c.requires.check).sound;
      chain = c.in_ok-instantiate_injectivity_selectors.ensures.chain;
      long = search rules;
    }

pub returns : goal.returns
returns c =
    then_on (λ S. pass (instantiate_injectivity_selectors S)) from_collapse refl
    (c.in_ok-instantiate_injectivity_selectors.ensures.tried _ [] c.requires.check) c.from_collapse.ensures
