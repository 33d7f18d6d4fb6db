-- An application of another constructor lets the rule pass; on one of its own the selector is made and equated with the field.
use Rattle.shinri_core.proofs.Kit.{rules, arith, length, subst⁻¹, ◌<◌, sym, ◌∙◌, ap, get_or, List, ℕ, ◌≡◌, refl}
use Rattle.solver.proofs.Memory.Growing.{may_apply}
use Rattle.solver.proofs.Memory.Collapsing.{app_is_term, no_equation, its_ctor, index_small, collapse_other, field_within, makeable, field_equatable, collapse_none, collapse_some}
use Rattle.solver.proofs.Compared.{same_unless, other_unless}
use Rattle.solver.proofs.Memory.NoRooms.{no_room}
use Rattle.solver.proofs.collapse.collapse_at.Goals as goal

pub op-requires : goal.op-requires
op-requires c = let pre = c.requires in (pre.check.state.core, app_is_term _ pre.a pre.is_app)

pub returns-then-ne : goal.returns-then-ne
returns-then-ne c =
    let pre = c.requires in
    collapse_other pre
    (λ q. other_unless c.ne.ensures c.if-ne.true (sym (its_ctor _ pre.a pre.is_app c.op.ensures c.in-Uninterpreted.is) ∙ q))

pub children-requires : goal.children-requires
children-requires c = let pre = c.requires in (pre.check.state.core, app_is_term _ pre.a pre.is_app)

pub offset_bounds-children-x : goal.offset_bounds-children-x
offset_bounds-children-x c =
    let l = index_small c.requires in
    record { fits = omega arith }

pub bounds-children-x : goal.bounds-children-x
bounds-children-x c =
    -- the test of the constructor holds
    let own : c.requires.a.ctor ≡ c.args.x.ctor.0 =
    its_ctor _ c.requires.a c.requires.is_app c.op.ensures c.in-Uninterpreted.is ∙ same_unless c.ne.ensures c.if-ne.false in
    subst⁻¹ (λ (xs : List ℕ). c.args.x.index < length xs) c.children.ensures
    (field_within c.requires own)

pub mk_app-requires : goal.mk_app-requires
mk_app-requires c =
    -- the test of the constructor holds
    let own : c.requires.a.ctor ≡ c.args.x.ctor.0 =
    its_ctor _ c.requires.a c.requires.is_app c.op.ensures c.in-Uninterpreted.is ∙ same_unless c.ne.ensures c.if-ne.false in
    may_apply (makeable c.requires own)

pub equate_field-requires : goal.equate_field-requires
equate_field-requires c =
    -- the test of the constructor holds
    let own : c.requires.a.ctor ≡ c.args.x.ctor.0 =
    its_ctor _ c.requires.a c.requires.is_app c.op.ensures c.in-Uninterpreted.is ∙ same_unless c.ne.ensures c.if-ne.false in
    let pre = c.requires in
    field_equatable pre own c.in_ok-made-in-Uninterpreted.ensures refl
    (ap (λ (xs : List ℕ). get_or xs c.args.x.index 0) c.children.ensures) (search rules)

pub returns-in-Eq : goal.returns-in-Eq
returns-in-Eq c = let pre = c.requires in absurd (no_equation _ pre.a pre.is_app c.op.ensures c.in-Eq.is)

pub returns-in_err-made-in-Uninterpreted : goal.returns-in_err-made-in-Uninterpreted
returns-in_err-made-in-Uninterpreted c =
    -- the test of the constructor holds
    let own : c.requires.a.ctor ≡ c.args.x.ctor.0 =
    its_ctor _ c.requires.a c.requires.is_app c.op.ensures c.in-Uninterpreted.is ∙ same_unless c.ne.ensures c.if-ne.false in
    rw (no_room c.from_residual.result c.from_residual.ensures.0) (collapse_none c.requires own c.in_err-made-in-Uninterpreted.ensures refl)

pub returns-in_ok-made-in-Uninterpreted : goal.returns-in_ok-made-in-Uninterpreted
returns-in_ok-made-in-Uninterpreted c =
    -- the test of the constructor holds
    let own : c.requires.a.ctor ≡ c.args.x.ctor.0 =
    its_ctor _ c.requires.a c.requires.is_app c.op.ensures c.in-Uninterpreted.is ∙ same_unless c.ne.ensures c.if-ne.false in
    collapse_some c.requires own c.in_ok-made-in-Uninterpreted.ensures refl
    (ap (λ (xs : List ℕ). get_or xs c.args.x.index 0) c.children.ensures) c.equate_field.ensures
