-- Two pairs of equal nodes, again and again, are a list of such pairs, and so are its first k.
use Rattle.std.proofs.Common.{ℕ, zero, suc, inl, inr, List, [], ◌∷◌, arith, take}
use lib.ListN.{length-take}
use Rattle.shinri_core.specs.Lists.{zip}
use Rattle.shinri_core.proofs.Lists.{true_T}
use Rattle.theory.specs.Memory.Explaining.{EqualNodes}
use Rattle.theory.specs.Memory.Replay.{EqualPairs}
use Rattle.theory.specs.Memory.Table.{merges, level}
use Rattle.theory.proofs.Memory.Joining.{room_pairs}
use Rattle.theory_main.proofs.join.Goals as goal

abbrev Equals : List ℕ → List ℕ → List ℕ → Type 0
Equals t [] ys = Unit {0}
Equals t (x ∷ xs) [] = Unit {0}
Equals t (x ∷ xs) (y ∷ ys) = EqualNodes t x y × Equals t xs ys

few : (t : List ℕ) (k : ℕ) (xs ys : List ℕ) → Equals t xs ys → EqualPairs (merges t) (zip (take k xs) (take k ys))
unfolding zip
few t zero xs ys e p i = absurd i
few t (suc k) [] ys e p i = absurd i
few t (suc k) (x ∷ xs) [] e p i = absurd i
few t (suc k) (x ∷ xs) (y ∷ ys) (h, e) p (inl q) = rw q (true_T _ h.equal, h.first, h.second)
few t (suc k) (x ∷ xs) (y ∷ ys) (h, e) p (inr i) = few t k xs ys e p i

abbrev five : ℕ → ℕ → List ℕ
five x y = x ∷ y ∷ x ∷ x ∷ y ∷ []

pub merge_congruence-requires : goal.merge_congruence-requires
merge_congruence-requires c =
    let (nodes, short, room) = c.requires in
    let p = c.twin-y.ensures in
    let q = c.twin-z.ensures in
    record {
      nodes = nodes;
      same_count = simp length-take;
      equal = few _ c.args.k (five _ _) (five _ _) (p, (q, (p, (p, (q, tt)))));
      fit = room_pairs (merges _) (level _) _ _ _ _ (simp length-take) (simp length-take (omega arith));
    }
