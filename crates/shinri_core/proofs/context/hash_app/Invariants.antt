-- The bucket of the arguments so far, with the others, is that of all.
use Rattle.shinri_core.specs.Memory.Codes.{op_code}
use Rattle.shinri_core.proofs.Memory.Index.{Hashing}
use Rattle.shinri_core.proofs.context.hash_app.Given as goal

abbrev pub invariant-loop-a : goal.invariant-loop-a
invariant-loop-a l = Hashing (op_code l.fn.operation) l.args l.h l.a-index
