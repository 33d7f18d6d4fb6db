-- The stores, newest first.
use Rattle.shinri_core.proofs.Kit.{rules}
use Rattle.solver.specs.Memory.Walking.{pushed}
use Rattle.solver.proofs.Memory.Rings.{fields_fit}
use Rattle.solver.proofs.ring.push.Goals as goal

pub put_at-requires-4 : goal.put_at-requires-4
put_at-requires-4 c =
    let pre = c.requires in
    (search rules, rw c.children-fields.ensures (fields_fit _ _ pre.core pre.within))

pub returns : goal.returns
unfolding pushed
returns c =
    rw (
      c.put_at-4.ensures,
      c.put_at-3.ensures,
      c.put_at-2.ensures,
      c.put_at.ensures,
      c.children-fields.ensures,
    )
