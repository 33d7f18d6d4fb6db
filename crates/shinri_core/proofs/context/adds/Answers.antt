-- By its role, its datatype and its fields.
use Rattle.shinri_core.proofs.Kit.{rules, ◌∙◌, sym, false≢true}
use Rattle.shinri_core.proofs.Memory.Constructors.{other_adds, ready_adds, fields_add}
use Rattle.shinri_core.proofs.context.adds.Goals as goal
use Rattle.shinri_core.proofs.context.adds.Goals.{then-eq, else-eq}

pub returns-then-not-is_ready : goal.returns-then-not-is_ready
returns-then-not-is_ready c =
    elim c.if-eq.branch [
      | then-eq w ↦ fields_add _ c.dt_role.ensures (search rules) w.result_sort.ensures.0 w.is_ready.ensures
          (sym w.value-is ∙ c.if-not-is_ready.true) c.has_ready_fields.ensures
      | else-eq w ↦ absurd (false≢true (sym w.if-eq.false ∙ sym w.value-is ∙ c.if-not-is_ready.true))
    ]

pub returns-else-not-is_ready : goal.returns-else-not-is_ready
returns-else-not-is_ready c =
    elim c.if-eq.branch [
      | then-eq w ↦ ready_adds _ c.dt_role.ensures (search rules) w.result_sort.ensures.0 w.is_ready.ensures
          (sym w.value-is ∙ c.if-not-is_ready.false) c.if-not-is_ready.false
      | else-eq w ↦ other_adds _ c.dt_role.ensures (search rules) c.if-not-is_ready.false
    ]
