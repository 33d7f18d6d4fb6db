-- The first i terms of the block were passed.
use Rattle.solver.proofs.Memory.Blocks.{Blockwise}
use Rattle.solver.proofs.work.lowest_in_block.Given as goal

abbrev pub invariant-loop-i : goal.invariant-loop-i
invariant-loop-i l = Blockwise l.e l.w l.b l.root.0 l.i
