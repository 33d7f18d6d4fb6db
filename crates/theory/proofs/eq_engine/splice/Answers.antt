-- The tree of a is turned up to its root; then three stores hang it under b.
use Rattle.theory.proofs.Memory.Merging.{root_turnable, spliced}
use Rattle.theory.proofs.eq_engine.splice.Goals as goal

pub reroot_forest-r-requires : goal.reroot_forest-r-requires
reroot_forest-r-requires c = search root_turnable

pub returns : goal.returns
returns c =
    spliced c.requires.0 c.requires.1 c.reroot_forest-r.ensures c.put_at.ensures c.put_at-2.ensures
    c.put_at-3.ensures
