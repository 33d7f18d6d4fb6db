-- An application of another constructor lets the rule pass; on one of its own the tester is made and handed out.
use Rattle.shinri_core.proofs.Kit.{rules, ◌≡◌, sym, ◌∙◌, refl}
use Rattle.solver.proofs.Memory.Collapsing.{app_is_term, no_equation, its_ctor}
use Rattle.solver.proofs.Memory.TesterLemmas.{made_below, may_test, test_other, test_none, test_some}
use Rattle.solver.proofs.Compared.{same_unless, other_unless}
use Rattle.solver.proofs.Memory.NoRooms.{no_room}
use Rattle.solver.proofs.collapse.tester_lemma_at.Goals as goal

pub op-requires : goal.op-requires
op-requires c = let pre = c.requires in (pre.core, app_is_term _ pre.a pre.is_app)

pub returns-then-ne : goal.returns-then-ne
returns-then-ne c e w C =
    let pre = c.requires in
    test_other pre e w C
    (λ q. other_unless c.ne.ensures c.if-ne.true (sym (its_ctor _ pre.a pre.is_app c.op.ensures c.in-Uninterpreted.is) ∙ q))

pub mk_app-requires : goal.mk_app-requires
mk_app-requires c = may_test c.requires

pub hand_out-requires : goal.hand_out-requires
hand_out-requires c =
    let pre = c.requires in
    (pre.solver, made_below c.in_ok-made-in-Uninterpreted.ensures refl, search rules)

pub returns-in-Eq : goal.returns-in-Eq
returns-in-Eq c e w C =
    let pre = c.requires in
    absurd (no_equation _ pre.a pre.is_app c.op.ensures c.in-Eq.is)

pub returns-in_err-made-in-Uninterpreted : goal.returns-in_err-made-in-Uninterpreted
returns-in_err-made-in-Uninterpreted c e w C =
    -- the test of the constructor holds
    let own : c.requires.a.ctor ≡ c.args.x.ctor.0 =
    its_ctor _ c.requires.a c.requires.is_app c.op.ensures c.in-Uninterpreted.is ∙ same_unless c.ne.ensures c.if-ne.false in
    rw (no_room c.from_residual.result c.from_residual.ensures.0) (test_none c.requires e w C own c.in_err-made-in-Uninterpreted.ensures refl)

pub returns-in_ok-made-in-Uninterpreted : goal.returns-in_ok-made-in-Uninterpreted
returns-in_ok-made-in-Uninterpreted c e w C =
    -- the test of the constructor holds
    let own : c.requires.a.ctor ≡ c.args.x.ctor.0 =
    its_ctor _ c.requires.a c.requires.is_app c.op.ensures c.in-Uninterpreted.is ∙ same_unless c.ne.ensures c.if-ne.false in
    test_some c.requires e w C own c.in_ok-made-in-Uninterpreted.ensures refl c.hand_out.ensures
