use Rattle.shinri_core.proofs.Kit.{refl, rules, arith}
use Rattle.solver.proofs.Memory.Injecting.{applies_declared, applies_small, each_first, each_asked, each_next, each_stop, each_done}
use Rattle.solver.proofs.Memory.NoRooms.{no_room}
use Rattle.solver.proofs.injectivity.select_both.Goals as goal

pub overflow_cast-c : goal.overflow_cast-c
overflow_cast-c c = omega (arith, applies_small c.requires)

pub arity-n-requires : goal.arity-n-requires
arity-n-requires c = (search rules, search applies_declared)

pub loop-i-init : goal.loop-i-init
loop-i-init c = (search each_first, search rules, search rules)

pub overflow_add-c : goal.overflow_add-c
overflow_add-c c = omega (arith, applies_small c.requires)

pub overflow_add-c-in-loop-i : goal.overflow_add-c-in-loop-i
overflow_add-c-in-loop-i c = omega (arith, applies_small c.requires)

pub mint_on_both-requires : goal.mint_on_both-requires
mint_on_both-requires c = search each_asked

pub returns-in_err-mint_on_both : goal.returns-in_err-mint_on_both
returns-in_err-mint_on_both c =
    rw (no_room c.from_residual.result c.from_residual.ensures.0)
    (each_stop c.loop-i.invariant.0 (omega arith) c.in_err-mint_on_both.ensures refl)

pub loop-i-preserved : goal.loop-i-preserved
loop-i-preserved c = (
  each_next c.loop-i.invariant.0 (omega arith) c.in_ok-mint_on_both.ensures refl,
  search rules,
  search rules,
)

pub returns : goal.returns
returns c = search each_done
