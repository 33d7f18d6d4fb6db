-- The cycle of explanation. The measure of each function is five times the age of the part that it is given, and a place in the order
-- explain_rec, expand_pair, expand_pairs, expand_edge, expand_way: a call for a part that is as old goes down in this order, and the ways
-- of a pair are less old than the pair.
use Rattle.shinri_core.proofs.Kit.{◌+◌, ◌*◌, [], ◌∷◌, length}
use Rattle.theory.specs.EqEngine.{way}
use Rattle.theory.specs.Memory.Table.{pair_at, just_at, merges}
use Rattle.theory.specs.Memory.Explaining.{NewPair, Way, Label, Pairs, part_age, up_to, pairs_from}
use Rattle.theory.proofs.Memory.Explaining.{Walking, Pairing}
use Rattle.theory.proofs.eq_engine.+expand_edge_expand_pair_expand_pairs_expand_way_explain_rec.Given as goal

abbrev pub invariant-expand_pairs-loop-k : goal.invariant-expand_pairs-loop-k
invariant-expand_pairs-loop-k l = Pairing l.t l.from l.to l.initial.marks l.initial.out l.marks l.out l.k

abbrev pub invariant-expand_way-loop-n : goal.invariant-expand_way-loop-n
invariant-expand_way-loop-n l = Walking l.t l.node l.top l.initial.marks l.initial.out l.marks l.out l.n

abbrev pub decreases-expand_way-loop-n : goal.decreases-expand_way-loop-n
decreases-expand_way-loop-n l = length (way (merges l.t) l.n)

abbrev pub decreases-expand_edge : goal.decreases-expand_edge
decreases-expand_edge l = part_age (merges l.t.now) (Label (just_at l.t.now l.i)) * 5 + 3

abbrev pub decreases-expand_pair : goal.decreases-expand_pair
decreases-expand_pair l = part_age (merges l.t.now) (Pairs (pair_at l.t.now l.j ∷ [])) * 5 + 1

abbrev pub decreases-expand_pairs : goal.decreases-expand_pairs
decreases-expand_pairs l = part_age (merges l.t.now) (Pairs (pairs_from l.t.now l.from l.to)) * 5 + 2

abbrev pub decreases-expand_way : goal.decreases-expand_way
decreases-expand_way l = part_age (merges l.t.now) (Way (up_to l.t.now l.node l.top)) * 5 + 4

abbrev pub decreases-explain_rec : goal.decreases-explain_rec
decreases-explain_rec l = part_age (merges l.t.now) (NewPair l.a l.b) * 5
