-- The terms of the bucket from k on do not fit; each stands there once, so the one that fits is the lowest.
use Rattle.shinri_core.specs.Memory.Codes.{op_code}
use Rattle.shinri_core.proofs.Memory.Terms.{Walking}
use Rattle.shinri_core.proofs.context.find_app.Given as goal

abbrev pub invariant-loop-k : goal.invariant-loop-k
invariant-loop-k l = Walking l.t (op_code l.operation) l.args l.k

abbrev pub decreases-loop-k : goal.decreases-loop-k
decreases-loop-k l = l.k
