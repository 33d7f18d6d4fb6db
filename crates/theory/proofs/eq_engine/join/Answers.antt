-- The steps of a merge, one after the other; `joined` puts together what they wrote.
use Rattle.shinri_core.proofs.Kit.{rules}
use Rattle.theory.proofs.Memory.Merging.{joined, entry_fits, classes_fit}
use Rattle.theory.proofs.eq_engine.join.Goals as goal

pub union-requires : goal.union-requires
union-requires c =
    classes_fit c.requires.sound c.get_at-i.ensures.0 c.splice.ensures
    c.root-ra.ensures.1 c.root-rb.ensures.1

pub log-requires : goal.log-requires
log-requires c =
    let e = entry_fits c.requires c.label_words-w.ensures c.pairs_in_force.ensures.0 c.get_at-i.ensures.0 (search rules) in
    (search rules, e)

pub returns : goal.returns
returns c =
    joined c.requires c.label_words-w.ensures c.pairs_in_force.ensures.0 c.get_at-i.ensures.0 c.get_at-level.ensures.0 c.root-ra.ensures.0
    c.root-rb.ensures.0 c.splice.ensures c.union.ensures c.log.ensures c.put_at.ensures
