-- Its place in the index, its arguments at the end of the pool, then the rest of its words.
use Rattle.shinri_core.proofs.Memory.Terms.{append}
use Rattle.shinri_core.proofs.context.append_term.Goals as goal

pub returns : goal.returns
returns c =
    append c.requires c.hash_app-h.ensures.0 c.hash_app-h.ensures.1
    c.get_at-older.ensures.0
    c.put_at.ensures c.put_at-2.ensures c.copy_words.ensures (rw c.from.ensures at c.put_at-3.ensures)
    c.put_at-4.ensures
    c.put_at-5.ensures
