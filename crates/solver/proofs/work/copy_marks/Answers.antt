use Rattle.shinri_core.proofs.Kit.{arith}
use Rattle.solver.proofs.Memory.Beginning.{copied}
use Rattle.solver.proofs.work.copy_marks.Goals as goal

pub returns : goal.returns
returns c = copied c.requires c.term_count-n.ensures c.words_at.ensures (omega arith) c.copy_words.ensures
