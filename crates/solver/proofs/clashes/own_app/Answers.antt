-- By the class's lowest application: none, one of its own constructor, or one of another.
use Rattle.shinri_core.proofs.Kit.{refl, sym, ◌∙◌, eqb-true}
use Rattle.solver.proofs.Memory.Owning.{none_of_class, own_of_class}
use Rattle.solver.proofs.clashes.own_app.Goals as goal

pub returns-in_err-f : goal.returns-in_err-f
returns-in_err-f c = rw c.from_residual.ensures (none_of_class _ c.in_err-f.ensures refl)

pub returns-then-eq : goal.returns-then-eq
returns-then-eq c = own_of_class _ c.in_ok-f.ensures refl (eqb-true _ _ (sym c.eq.ensures ∙ c.if-eq.true))
