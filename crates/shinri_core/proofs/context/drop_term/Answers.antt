-- Its bucket begins again with the term before it.
use Rattle.shinri_core.proofs.Kit.{arith}
use Rattle.shinri_core.proofs.Memory.Views.{stored_bucket}
use Rattle.shinri_core.proofs.Memory.Terms.{op_word}
use Rattle.shinri_core.proofs.Memory.Declarations.{last_code, dropped}
use Rattle.shinri_core.proofs.context.drop_term.Goals as goal

pub hash_app-h-requires : goal.hash_app-h-requires
hash_app-h-requires c =
    let n = c.requires.1 in last_code c.args.i c.requires.0 n (op_word c.op.ensures (omega arith))

pub returns : goal.returns
returns c =
    let z = c.requires in
    let h = c.hash_app-h.ensures in
    let b = stored_bucket _ _ (omega arith) (op_word c.op.ensures (omega arith)) c.children.ensures h.0 in
    dropped c.args.i z.0 z.1 b h.1 c.get_at-older.ensures.0 c.put_at.ensures
    c.put_at-2.ensures
