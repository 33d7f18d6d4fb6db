-- A leaf that does not stand there has room; it goes to the head of its bucket, and its words follow.
use Rattle.shinri_core.proofs.Kit.{sym, subst}
use Rattle.theory.specs.Memory.Answer.{Pushed}
use Rattle.theory.proofs.Memory.Leaves.{pushable, linkable, pushed_old, pushed_new}
use Rattle.theory.proofs.types.push_leaf.Goals as goal

pub returns-then-has_leaf : goal.returns-then-has_leaf
returns-then-has_leaf c =
    let h = c.leaf_words-w.ensures in
    subst (Pushed _ _) (sym h.is) (pushed_old _ _ _ _ (pushable c.requires h) c.has_leaf.ensures c.if-has_leaf.true)

pub link_leaf-requires : goal.link_leaf-requires
link_leaf-requires c =
    linkable (pushable c.requires c.leaf_words-w.ensures) c.has_leaf.ensures c.if-has_leaf.false c.get_at-n.ensures.0

pub returns : goal.returns
returns c =
    let h = c.leaf_words-w.ensures in
    subst (Pushed _ _) (sym h.is)
    (pushed_new (pushable c.requires h) c.has_leaf.ensures c.if-has_leaf.false c.get_at-n.ensures.0 c.link_leaf.ensures c.put_at.ensures
    c.put_at-2.ensures c.put_at-3.ensures)
