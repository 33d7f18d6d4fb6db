-- Its parameter sorts in four words, then the rest of its words.
use Rattle.shinri_core.proofs.Memory.Declarations.{add_symbol}
use Rattle.shinri_core.proofs.context.add_symbol.Goals as goal

pub returns : goal.returns
returns c =
    add_symbol c.requires c.pack.ensures c.pack-2.ensures
    c.pack-3.ensures
    c.pack-4.ensures c.copy_words.ensures (rw c.owner_word.ensures.0 at c.put_at.ensures) c.put_at-2.ensures c.put_at-3.ensures
    c.put_at-4.ensures
