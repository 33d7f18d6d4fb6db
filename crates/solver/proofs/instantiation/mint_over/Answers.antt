use Rattle.shinri_core.proofs.Kit.{rules, refl, sym, ◌∙◌, arith, length-take-le}
use Rattle.solver.proofs.Memory.Instantiating.{cover_declared, cover_small, cover_first, field_makeable, field_role, cover_next, cover_lacks, over_makeable, over_role, cover_done}
use Rattle.solver.proofs.Memory.NoRooms.{no_room}
use Rattle.solver.proofs.instantiation.mint_over.Goals as goal

pub arity-n-requires : goal.arity-n-requires
arity-n-requires c = (search rules, search cover_declared)

pub loop-i-init : goal.loop-i-init
loop-i-init c = cover_first c.requires c.arity-n.ensures.0 refl

pub overflow_add-f : goal.overflow_add-f
overflow_add-f c = omega (arith, cover_small c.requires)

pub overflow_add-f-in-loop-i : goal.overflow_add-f-in-loop-i
overflow_add-f-in-loop-i c = omega (arith, cover_small c.requires)

pub mint-requires : goal.mint-requires
mint-requires c =
    let z = c.requires in (
      field_makeable z c.arity-n.ensures.0 c.arity-n.ensures.1 c.loop-i.invariant (omega arith),
      field_role z
          c.arity-n.ensures.0 c.arity-n.ensures.1 c.loop-i.invariant (omega arith),
    )

pub shape_of-t-in_err-y : goal.shape_of-t-in_err-y
shape_of-t-in_err-y c = c.mint.auto.t ∙ c.loop-i.invariant.long

pub shape_of-w-in_err-y : goal.shape_of-w-in_err-y
shape_of-w-in_err-y c = c.mint.auto.w ∙ c.loop-i.invariant.work_long

pub returns-in_err-y : goal.returns-in_err-y
returns-in_err-y c =
    rw (no_room c.from_residual.result c.from_residual.ensures.0)
    (cover_lacks c.requires c.arity-n.ensures.0 c.arity-n.ensures.1
    c.loop-i.invariant (omega arith) c.in_err-y.ensures refl)

pub loop-i-preserved : goal.loop-i-preserved
loop-i-preserved c =
    cover_next c.requires c.arity-n.ensures.0 c.arity-n.ensures.1
    c.loop-i.invariant (omega arith) c.in_ok-y.ensures refl c.mint.auto.t
    c.mint.auto.w

pub slice_bounds-ids-end : goal.slice_bounds-ids-end
slice_bounds-ids-end c = let k = c.loop-i.invariant.room in search rules

pub slice_bounds-mint-end-2 : goal.slice_bounds-mint-end-2
slice_bounds-mint-end-2 c =
    let k = c.loop-i.invariant.room in
    let n = c.arity-n.ensures.1 in
    sym (length-take-le _ _ (omega arith))

pub mint-requires-2 : goal.mint-requires-2
mint-requires-2 c =
    let z = c.requires in (
      over_makeable z c.arity-n.ensures.0 c.arity-n.ensures.1 c.loop-i.invariant (omega arith),
      over_role z
          c.arity-n.ensures.0 c.arity-n.ensures.1 c.loop-i.invariant (omega arith),
    )

pub shape_of-t : goal.shape_of-t
shape_of-t c = c.mint-2.auto.t ∙ c.loop-i.invariant.long

pub shape_of-w : goal.shape_of-w
shape_of-w c = c.mint-2.auto.w ∙ c.loop-i.invariant.work_long

pub returns : goal.returns
returns c =
    cover_done c.requires c.arity-n.ensures.0 c.arity-n.ensures.1
    c.loop-i.invariant (omega arith) c.mint-2.ensures
