-- What each step of an explanation does to the marks and to the answer table.
use Rattle.shinri_core.proofs.Kit.{ℕ, zero, suc, ◌+◌, ◌-◌, ◌≤◌, ◌<◌, ◌≡◌, refl, sym, subst, ap, ap₂, ◌∙◌, ◌⊎◌, inl, inr, Bool, true, false, cond, ◌||◌, or-false, or-true, List, [], ◌∷◌, ◌++◌, map, foldl-append, append-nil, append_assoc, ℕ_discrete, add-one, arith, eq-eqb, ne_eqb, eqb, length, get_or, replicate}
use Rattle.shinri_core.specs.Limits.{max_pairs}
use Rattle.shinri_core.specs.Lists.{any, range}
use Rattle.shinri_core.specs.Memory.Words.{at}
use Rattle.shinri_core.proofs.Lists.{In, T_true, true_T, in_range}
use Rattle.theory.specs.Types.{EqJust, Asserted, Congruence, Interface, EqLeaf, AssertedLeaf, InterfaceLeaf}
use Rattle.theory.specs.EqEngine.{Merge, Step, Explained, are_equal, pairs_of, common, way, same_pair, visit, cite, path, expand_edge, explain_rec, explain, firsts_after}
use Rattle.theory.specs.Memory.Table.{left_word, right_word, first_word, pair_at, is_pair, merges#, label_word, value_word, after_word, fparent_word, fedge_word, label, begins, kind_of, theory_of, just_at, merge_at, pairs_start, merges_below, merges, EngineSound}
use Rattle.shinri_core.specs.declared.ids.Lit.{Lit}
use Rattle.theory.specs.declared.types.TheoryJust.{TheoryJust}
use Rattle.theory.specs.declared.types.EqLeaf as Given
use Rattle.theory.specs.declared.eq_engine.EdgeLabel as EdgeLabel
use Rattle.theory.specs.Memory.Replay.{IsNode, Justified}
use Rattle.theory.specs.Memory.Steps.{Upward, IsLabel}
use Rattle.theory.specs.Memory.Answer.{leaves, leaf_meaning, HasRoom, Pushed, Labels, Cites, AnswerSound}
use Rattle.theory.specs.Memory.Explaining.{MARKS, age, pairs_age, Part, NewPair, Way, Label, Pairs, part_age, NotOlder, up_to, expand_way, expand_new, expand, pairs_from, marked, mark_of, Shows, Explaining, Goes, EqualNodes, EqualPair, PairsEqual, MarksPair, Explains}
use Rattle.theory.proofs.Members.{in_left, in_right}
use Rattle.theory.proofs.Classes.{Same, same_kept, same_equal, equal_same}
use Rattle.theory.proofs.Forest.{Forest, Above, at_root, at_step, before_self, before_step, way_meets}
use Rattle.theory.proofs.Explain.{pairs_before, pushed_firsts}
use Rattle.theory.proofs.Ages.{pairs_age_in, pairs_age_among, steps_age_in, steps_age_among, age_bound, ways_older}
use Rattle.theory.proofs.Memory.Log.{merges_length, sound_joins, after_within, in_force_few}
use Rattle.theory.proofs.Memory.Walks.{sound_forest, Rises, first_edge}
use Rattle.theory.proofs.Memory.Leaves.{push_room, push_sound}

-- the nearest common ancestor of two equal nodes
abbrev nca : List ℕ → ℕ → ℕ → ℕ
nca t a b = common a (way (merges t) a) b (way (merges t) b)

-- an explanation goes on with other marks and leaves
pub on_with : {t m o m₁ o₁ : List ℕ} → Explaining t m o → AnswerSound (merges t) o₁ → length m₁ ≡ length m → Explaining t m₁ o₁
on_with z y e = record { engine = z.engine; answer = y; long = let l = z.long in omega arith }

-- ---- one part after the other, or nothing to do

goes_then : {t m₀ o₀ m₁ o₁ m₂ o₂ : List ℕ} {p q : Part} (r : Part) → NotOlder t p r → NotOlder t q r →
    ((d : ℕ) (e : Explained) → expand (merges t) q d (expand (merges t) p d e) ≡ expand (merges t) r d e) →
    Goes t m₀ o₀ m₁ o₁ p → Goes t m₁ o₁ m₂ o₂ q → Goes t m₀ o₀ m₂ o₂ r
goes_then {t} {p = p} r a b h x y = record {
  answer = y.answer;
  shows = λ d seen e n s. rw (h d e) at (y.shows d seen (expand (merges t) p d e) (omega arith) (x.shows d seen e (omega arith) s));
}

goes_nothing : {t m o : List ℕ} (p : Part) → AnswerSound (merges t) o → ((d : ℕ) (e : Explained) → expand (merges t) p d e ≡ e) →
    Goes t m o m o p
goes_nothing {t} {m} {o} p z h = record { answer = z; shows = λ d seen e n s. subst (Shows t m o seen) (sym (h d e)) s }

way_append : (ms : List Merge) (u w : List Step) (d : ℕ) (e : Explained) →
    expand_way ms w d (expand_way ms u d e) ≡ expand_way ms (u ++ w) d e
unfolding expand_way
way_append ms u w d e = sym (foldl-append (λ (f : Explained) (s : Step). expand_edge (explain_rec d ms) s.just f) e u w)

-- ---- a pair that is new, or has been expanded

module _ (ms : List Merge) (x y : ℕ) (e : Explained) where
  -- a pair of one node, and of two
  expand_one : (d : ℕ) → x ≡ y → expand_new ms x y d e ≡ e
  unfolding expand_new
  expand_one zero q = refl
  expand_one (suc d) q = ap (λ (b : Bool). cond b e (expand_way ms (path ms x y) d (visit x y e))) (eq-eqb x y q)

  expand_two : (d : ℕ) → (x ≡ y → ⊥) → expand_new ms x y (suc d) e ≡ expand_way ms (path ms x y) d (visit x y e)
  unfolding expand_new
  expand_two d q = ap (λ (b : Bool). cond b e (expand_way ms (path ms x y) d (visit x y e))) (ne_eqb x y q)

  new_is : (d : ℕ) → any (same_pair x y) e.visited ≡ false → expand_new ms x y d e ≡ explain_rec d ms x y e
  unfolding expand_new explain_rec expand_way
  new_is zero q = refl
  new_is (suc d) q =
      ap (λ (b : Bool). cond b e (expand_way ms (path ms x y) d (visit x y e)))
      (sym (ap (λ (b : Bool). eqb x y || b) q ∙ or-false (eqb x y)))

  skip_is : (d : ℕ) → any (same_pair x y) e.visited ≡ true → e ≡ explain_rec d ms x y e
  unfolding explain_rec expand_way
  skip_is zero q = refl
  skip_is (suc d) q =
      sym
      (ap (λ (b : Bool). cond b e (expand_way ms (path ms x y) d (visit x y e))) (ap (λ (b : Bool). eqb x y || b) q ∙ or-true (eqb x y)))

-- ---- explain_rec

pub goes_one : {t m o : List ℕ} {a b : ℕ} → Explaining t m o → a ≡ b → Goes t m o m o (NewPair a b)
unfolding expand
goes_one {t} {a = a} {b = b} z q = goes_nothing (NewPair a b) z.answer (λ d e. expand_one (merges t) a b e d q)

visit_shows : {t m m₁ o : List ℕ} {a b : ℕ} {seen : List EqLeaf} {e : Explained} → MarksPair t a b m m₁ → Shows t m o seen e →
    Shows t m₁ o seen (visit a b e)
unfolding visit any
visit_shows {t} {a = a} {b = b} k s =
    record { listed = s.listed; marks_are = λ j h. k.each j h ∙ ap (cond (is_pair t j (a, b)) true) (s.marks_are j h) }

-- n stands above both nodes, and neither way is older than their pair
pub record Met (t : List ℕ) (a b n : ℕ) : Type 0 where
  pub left_up : Upward t a n
  pub right_up : Upward t b n
  pub left_older : part_age (merges t) (Way (up_to t a n)) < part_age (merges t) (NewPair a b)
  pub right_older : part_age (merges t) (Way (up_to t b n)) < part_age (merges t) (NewPair a b)

pub met : {t : List ℕ} {a b n : ℕ} → EngineSound t → EqualNodes t a b → n ≡ nca t a b → Met t a b n
unfolding part_age
met {t} {a} {b} {n} z k q =
    let same = equal_same (merges t) a b (true_T (are_equal (merges t) a b) k.equal) in
    let meet = way_meets (merges t) (sound_joins t z) (sound_forest t z) a b same in
    let older = ways_older (merges t) a b n z.justified same q in
    record {
      left_up = record { sound = z; is_node = k.first; above = subst (λ (v : ℕ). Above (way (merges t)) v a) (sym q) meet.on_x };
      right_up = record { sound = z; is_node = k.second; above = subst (λ (v : ℕ). Above (way (merges t)) v b) (sym q) meet.on_y };
      left_older = omega arith;
      right_older = omega arith;
    }

pub goes_two : {t m o m₁ m₂ o₂ m₃ o₃ : List ℕ} {a b n : ℕ} → EngineSound t → EqualNodes t a b → (a ≡ b → ⊥) → MarksPair t a b m m₁ →
    n ≡ nca t a b → Goes t m₁ o m₂ o₂ (Way (up_to t a n)) → Goes t m₂ o₂ m₃ o₃ (Way (up_to t b n)) → Goes t m o m₃ o₃ (NewPair a b)
unfolding expand expand_way path part_age
goes_two {t} {m} {o} {m₃ = m₃} {o₃ = o₃} {a = a} {b = b} {n = n} z k h marks q x y = record { answer = y.answer; shows = shows }
  where
    first : ℕ → Explained → Explained
    first d e = expand_way (merges t) (up_to t a n) d (visit a b e)

    both : (d : ℕ) (e : Explained) → expand_way (merges t) (up_to t b n) d (first d e) ≡ expand_new (merges t) a b (suc d) e
    both d e =
        way_append (merges t) (up_to t a n) (up_to t b n) d (visit a b e)
        ∙ ap (λ (v : ℕ). expand_way (merges t) (up_to t a v ++ up_to t b v) d (visit a b e)) q
        ∙ sym (expand_two (merges t) a b e d h)

    shows : (d : ℕ) (seen : List EqLeaf) (e : Explained) → suc (age (merges t) a b) ≤ d → Shows t m o seen e →
        Shows t m₃ o₃ seen (expand_new (merges t) a b d e)
    shows zero seen e l s = absurd (omega arith)
    shows (suc d) seen e l s =
        let w = met z k q in
        let v = w.left_older in
        let u = w.right_older in
        subst (Shows t m₃ o₃ seen) (both d e)
        (y.shows d seen (first d e) (omega arith) (x.shows d seen (visit a b e) (omega arith) (visit_shows marks s)))

-- ---- expand_way

-- the steps walked are expanded; those from n up to top are left
pub record Walking (t : List ℕ) (node top : ℕ) (m₀ o₀ m o : List ℕ) (n : ℕ) : Type 0 where
  pub within : IsNode n
  pub ahead : Above (way (merges t)) top n
  pub marks_long : length m ≡ length m₀
  pub out_long : length o ≡ length o₀
  pub walked : List Step
  pub whole : up_to t node top ≡ walked ++ up_to t n top
  pub goes : Goes t m₀ o₀ m o (Way walked)

pub walk_first : {t m o : List ℕ} {node top : ℕ} → Explaining t m o → Upward t node top → Walking t node top m o m o node
unfolding expand expand_way
walk_first z u =
    let goes = goes_nothing (Way []) z.answer (λ d e. refl) in
    record { within = u.is_node; ahead = u.above; marks_long = refl; out_long = refl; walked = []; whole = refl; goes = goes }

-- one step more, from n, which is not top
module _ {t : List ℕ} {node top : ℕ} {m₀ o₀ m o : List ℕ} {n : ℕ} (z : EngineSound t) (c : Walking t node top m₀ o₀ m o n)
    (h : n ≡ top → ⊥) where
  abbrev W : ℕ → List Step
  W = way (merges t)

  F : Forest W
  F = sound_forest t z

  -- n is no root
  pub walk_rises : {p : ℕ} → p ≡ fparent_word t n → Rises t n p
  walk_rises {p} e = go (first_edge t z n p c.within e)
    where
      go : ((W n ≡ []) × (p ≡ n)) ⊎ Rises t n p → Rises t n p
      go (inl (q, r)) = absurd (h (sym (at_root W F top n q c.ahead)))
      go (inr r) = r

  pub walk_edge : {i : ℕ} → i ≡ fedge_word t n → i < merges# t
  walk_edge e = let k = (walk_rises refl).edge in omega arith

  split_off : {p : ℕ} (r : Rises t n p) → up_to t node top ≡ c.walked ++ (r.step ∷ up_to t p top)
  split_off r =
      c.whole
      ∙ ap (λ (w : List Step). c.walked ++ w)
      (before_step W F top n r.step r.rest r.is h ∙ ap (λ (v : ℕ). r.step ∷ up_to t v top) r.up)

  pub walk_older : {i : ℕ} → i ≡ fedge_word t n → NotOlder t (Label (just_at t i)) (Way (up_to t node top))
  unfolding part_age
  walk_older e =
      let r = walk_rises refl in
      let here = in_right r.step c.walked (r.step ∷ up_to t (fparent_word t n) top) (inl refl) in
      let among = subst (λ (w : List Step). In r.step w) (sym (split_off r)) here in
      subst (λ (j : EqJust). NotOlder t (Label j) (Way (up_to t node top))) (sym (ap (just_at t) e ∙ r.label))
      (steps_age_in (merges t) (up_to t node top) r.step among)

  pub walk_next : {i p : ℕ} {m₁ o₁ : List ℕ} → i ≡ fedge_word t n → p ≡ fparent_word t n → Goes t m o m₁ o₁ (Label (just_at t i)) →
      length m₁ ≡ length m → length o₁ ≡ length o → Walking t node top m₀ o₀ m₁ o₁ p
  unfolding expand expand_way part_age
  walk_next {i} {p} {m₁} {o₁} e q g a b =
      let r = walk_rises q in
      let s = r.step in
      let w = c.walked in
      let w' = w ++ (s ∷ []) in
      record {
        within = r.within;
        ahead = subst (λ (v : ℕ). Above W top v) r.up (up (at_step W F top n s r.rest r.is c.ahead));
        marks_long = a ∙ c.marks_long;
        out_long = b ∙ c.out_long;
        walked = w';
        whole = split_off r ∙ sym (append_assoc w (s ∷ []) (up_to t p top));
        goes =
            goes_then (Way w') (steps_age_among (merges t) w w' (λ k. in_left k w (s ∷ [])))
            (steps_age_in (merges t) w' s (in_right s w (s ∷ []) (inl refl)))
            (way_append (merges t) w (s ∷ []))
            c.goes (subst (λ (j : EqJust). Goes t m o m₁ o₁ (Label j)) (ap (just_at t) e ∙ r.label) g);
      }
    where
      up : {v : ℕ} → (top ≡ n) ⊎ Above W top v → Above W top v
      up (inl k) = absurd (h (sym k))
      up (inr k) = k

pub walk_done : {t : List ℕ} {node top : ℕ} {m₀ o₀ m o : List ℕ} {n : ℕ} → EngineSound t → Walking t node top m₀ o₀ m o n → n ≡ top →
    Goes t m₀ o₀ m o (Way (up_to t node top))
walk_done {t} {top = top} {m₀ = m₀} {o₀ = o₀} {m = m} {o = o} z c e =
    let none_left = ap (λ (v : ℕ). up_to t v top) e ∙ before_self (way (merges t)) (sound_forest t z) top in
    subst (λ (w : List Step). Goes t m₀ o₀ m o (Way w))
    (sym (c.whole ∙ ap (λ (w : List Step). c.walked ++ w) none_left ∙ append-nil c.walked)) c.goes

-- ---- expand_pairs

-- the pairs before j are explained
pub record Pairing (t : List ℕ) (from to : ℕ) (m₀ o₀ m o : List ℕ) (j : ℕ) : Type 0 where
  pub after : from ≤ j
  pub within : j ≤ to
  pub marks_long : length m ≡ length m₀
  pub out_long : length o ≡ length o₀
  pub done : List (ℕ × ℕ)
  pub whole : pairs_from t from to ≡ done ++ pairs_from t j to
  pub goes : Goes t m₀ o₀ m o (Pairs done)

pairs_next : (t : List ℕ) (j to : ℕ) → j < to → pairs_from t j to ≡ pair_at t j ∷ pairs_from t (j + 1) to
unfolding pairs_from range
pairs_next t j to h =
    let count : to - j ≡ suc (to - (j + 1)) = omega arith in
    ap (λ (n : ℕ). map (pair_at t) (range j n)) count
    ∙ ap (λ (i : ℕ). pair_at t j ∷ map (pair_at t) (range i (to - (j + 1)))) (sym (add-one j))

pub pair_first : {t m o : List ℕ} {from to : ℕ} → Explaining t m o → from ≤ to → Pairing t from to m o m o from
unfolding expand
pair_first z h =
    let goes = goes_nothing (Pairs []) z.answer (λ d e. refl) in
    record { after = omega arith; within = h; marks_long = refl; out_long = refl; done = []; whole = refl; goes = goes }

module _ {t : List ℕ} {from to : ℕ} {m₀ o₀ m o : List ℕ} {j : ℕ} (c : Pairing t from to m₀ o₀ m o j) (h : j < to) where
  one_off : pairs_from t from to ≡ c.done ++ (pair_at t j ∷ pairs_from t (j + 1) to)
  one_off = c.whole ∙ ap (λ (ps : List (ℕ × ℕ)). c.done ++ ps) (pairs_next t j to h)

  pub pair_older : NotOlder t (Pairs (pair_at t j ∷ [])) (Pairs (pairs_from t from to))
  unfolding part_age
  pair_older = pairs_age_among (merges t) (pair_at t j ∷ []) (pairs_from t from to) go
    where
      go : (p : ℕ × ℕ) → In p (pair_at t j ∷ []) → In p (pairs_from t from to)
      go p (inl e) =
          subst (λ (ps : List (ℕ × ℕ)). In p ps) (sym one_off) (in_right p c.done (pair_at t j ∷ pairs_from t (j + 1) to) (inl e))
      go p (inr i) = absurd i

  pub pair_next : {m₁ o₁ : List ℕ} → Goes t m o m₁ o₁ (Pairs (pair_at t j ∷ [])) → length m₁ ≡ length m → length o₁ ≡ length o →
      Pairing t from to m₀ o₀ m₁ o₁ (j + 1)
  unfolding expand part_age
  pair_next g a b =
      let f = c.after in
      let us = c.done in
      let vs : List (ℕ × ℕ) = pair_at t j ∷ [] in
      record {
        after = omega arith;
        within = omega arith;
        marks_long = a ∙ c.marks_long;
        out_long = b ∙ c.out_long;
        done = us ++ vs;
        whole = one_off ∙ sym (append_assoc us vs (pairs_from t (j + 1) to));
        goes =
            goes_then (Pairs (us ++ vs)) (pairs_age_among (merges t) us (us ++ vs) (λ p. in_left p us vs))
            (pairs_age_among (merges t) vs (us ++ vs) (λ p. in_right p us vs))
            (λ d e. sym (foldl-append (λ (e' : Explained) (p : ℕ × ℕ). explain_rec d (merges t) p.0 p.1 e') e us vs))
            c.goes g;
      }

pub pair_done : {t : List ℕ} {from to : ℕ} {m₀ o₀ m o : List ℕ} {j : ℕ} → Pairing t from to m₀ o₀ m o j → to ≤ j →
    Goes t m₀ o₀ m o (Pairs (pairs_from t from to))
unfolding pairs_from range
pair_done {t} {from} {to} {m₀} {o₀} {m} {o} {j} c h =
    let e : to - j ≡ 0 = omega arith in
    let none_left : pairs_from t j to ≡ [] = ap (λ (n : ℕ). map (pair_at t) (range j n)) e in
    subst (λ (ps : List (ℕ × ℕ)). Goes t m₀ o₀ m o (Pairs ps))
    (sym (c.whole ∙ ap (λ (ps : List (ℕ × ℕ)). c.done ++ ps) none_left ∙ append-nil c.done)) c.goes

-- ---- expand_pair

-- pairs in force have a mark
pub pair_few : {t : List ℕ} {j : ℕ} → EngineSound t → EqualPair t j → j < max_pairs
pair_few {t} z k = let n = in_force_few t z in let l = k.in_force in omega arith

-- x and y are the nodes of argument pair j, and their age bounds what a call for them takes
pub record PairNodes (t : List ℕ) (j x y : ℕ) : Type 0 where
  pub is : (x, y) ≡ pair_at t j
  pub nodes : EqualNodes t x y
  pub as_old : NotOlder t (NewPair x y) (Pairs (pair_at t j ∷ []))

pub pair_nodes : {t : List ℕ} {j x y : ℕ} → EqualPair t j → x ≡ left_word t j → y ≡ right_word t j → PairNodes t j x y
unfolding part_age
pair_nodes {t} {j} {x} {y} k p q =
    let e : (x, y) ≡ pair_at t j = λ i. (p i, q i) in
    record {
      is = e;
      nodes = subst (λ (v : ℕ × ℕ). EqualNodes t v.0 v.1) (sym e) k.nodes;
      as_old = pairs_age_in (merges t) (pair_at t j ∷ []) (x, y) (inl e);
    }

-- whether argument pair j has been expanded
module _ {t m o : List ℕ} {j : ℕ} {w : Bool} (k : EqualPair t j) (r : w ≡ mark_of t m j) where
  marked_as : {seen : List EqLeaf} {f : Explained} → Shows t m o seen f → w ≡ any (is_pair t j) f.visited
  marked_as s = r ∙ s.marks_are j k.in_force

  pub pair_new : {m₁ o₁ : List ℕ} {x y : ℕ} → PairNodes t j x y → w ≡ false → Goes t m o m₁ o₁ (NewPair x y) →
      Goes t m o m₁ o₁ (Pairs (pair_at t j ∷ []))
  unfolding expand
  pair_new {m₁} {o₁} p q g =
      let a = p.as_old in
      record {
        answer = g.answer;
        shows = λ d seen f n s.
            subst (Shows t m₁ o₁ seen)
            (ap (λ (v : ℕ × ℕ). expand_new (merges t) v.0 v.1 d f) p.is
            ∙ new_is (merges t) (pair_at t j).0 (pair_at t j).1 f d (sym (marked_as s) ∙ q))
            (g.shows d seen f (omega arith) s);
      }

  pub pair_known : Explaining t m o → w ≡ true → Goes t m o m o (Pairs (pair_at t j ∷ []))
  unfolding expand
  pair_known z q = record {
    answer = z.answer;
    shows = λ d seen f n s.
        subst (Shows t m o seen) (skip_is (merges t) (pair_at t j).0 (pair_at t j).1 f d (sym (marked_as s) ∙ q)) s;
  }

-- ---- expand_edge

in_merges : (t : List ℕ) (i n : ℕ) → i < n → In (merge_at t i) (merges_below t n)
unfolding merges_below
in_merges t i zero h = absurd (omega arith)
in_merges t i (suc n) h = go (ℕ_discrete i n) (in_merges t i n)
  where
    go : Dec (i ≡ n) → (i < n → In (merge_at t i) (merges_below t n)) → In (merge_at t i) (merge_at t n ∷ merges_below t n)
    go (yes e) f = inl (ap (merge_at t) e)
    go (no k) f = inr (f (omega arith))

-- the leaf of a label is what it makes of an explanation
label_expands : (ms : List Merge) (j : EqJust) (l : EqLeaf) → Labels j l → (d : ℕ) (e : Explained) → cite l e ≡ expand ms (Label j) d e
unfolding expand expand_edge
label_expands ms (Asserted n) l q d e = ap (λ (x : EqLeaf). cite x e) q
label_expands ms (Congruence ps) l q d e = absurd q
label_expands ms (Interface n g) l q d e = ap (λ (x : EqLeaf). cite x e) q

-- merge i is labelled by a leaf, or by the congruence of the pairs from v up to a
pub record LabelLeaf (t m o : List ℕ) (i : ℕ) (l : EqLeaf) : Type 0 where
  pub room : HasRoom o l
  pub goes : {u : List ℕ} → Pushed o u l → Goes t m o m u (Label (just_at t i))

pub record LabelPairs (t : List ℕ) (i v a : ℕ) : Type 0 where
  pub ready : PairsEqual t v a
  pub as_old : part_age (merges t) (Pairs (pairs_from t v a)) ≡ part_age (merges t) (Label (just_at t i))
  pub goes : {m o m₁ o₁ : List ℕ} → Goes t m o m₁ o₁ (Pairs (pairs_from t v a)) → Goes t m o m₁ o₁ (Label (just_at t i))

leaf_goes : {t m o : List ℕ} {i : ℕ} (l : EqLeaf) → Explaining t m o → i < merges# t → Labels (just_at t i) l → LabelLeaf t m o i l
unfolding merges merge_at cite
leaf_goes {t} {m} {o} {i} l z h k =
    let f = z.engine.fewer in
    let n = merges_length t in
    let y = z.answer in
    let cites : Cites (merges t) l = (merge_at t i, in_merges t i (merges# t) h, k) in
    record {
      room = push_room (merges t) o l y (omega arith) cites;
      goes = λ {u} p. record {
        answer = push_sound (merges t) o u l y.other y.apart y.cited (inr cites) p;
        shows = λ d seen e b s.
            subst (Shows t m u seen) (label_expands (merges t) (just_at t i) l k d e)
            (record { listed = pushed_firsts seen e.leaves l s.listed p.listed; marks_are = s.marks_are });
      };
    }

-- the pairs of each label are equal
pairs_same : (ms : List Merge) → Justified ms → (m : Merge) → In m ms → (p : ℕ × ℕ) → In p (pairs_of m.just) → Same ms p.0 p.1
pairs_same [] J m i p j = absurd i
pairs_same (n ∷ r) J m i p j = same_kept n r p.0 p.1 (pairs_before n r J m i p j)

pair_in : (t : List ℕ) (from to j : ℕ) → from ≤ j → j < to → In (pair_at t j) (pairs_from t from to)
unfolding pairs_from
pair_in t from to j h k = go (range from (to - from)) (in_range from (to - from) j h (omega arith))
  where
    go : (xs : List ℕ) → In j xs → In (pair_at t j) (map (pair_at t) xs)
    go [] i = absurd i
    go (x ∷ xs) (inl e) = inl (ap (pair_at t) e)
    go (x ∷ xs) (inr i) = inr (go xs i)

-- merge i by its label
module _ {t m o : List ℕ} {i : ℕ} (z : Explaining t m o) (h : i < merges# t) where
  of_kind : {n v : ℕ} → kind_of (label_word t i) ≡ n → v ≡ value_word t i →
      just_at t i ≡ label t n (theory_of (label_word t i)) v (after_word t i)
  unfolding just_at
  of_kind w q = ap₂ (λ (n y : ℕ). label t n (theory_of (label_word t i)) y (after_word t i)) w (sym q)

  pub edge_literal : (p : Lit) → IsLabel t i (EdgeLabel.TheVariants.Asserted p) →
      LabelLeaf t m o i (leaf_meaning (Given.TheVariants.Asserted p))
  unfolding label leaf_meaning
  edge_literal p (w, q) =
      leaf_goes (AssertedLeaf p.0) z h (subst (λ (j : EqJust). Labels j (AssertedLeaf p.0)) (sym (of_kind w q)) refl)

  pub edge_interface : (k : TheoryJust) → IsLabel t i (EdgeLabel.TheVariants.Interface k) →
      LabelLeaf t m o i (leaf_meaning (Given.TheVariants.Interface k))
  unfolding label leaf_meaning
  edge_interface k (a, b, r, q) =
      leaf_goes l z h (subst (λ (j : EqJust). Labels j l) (sym (of_kind refl q)) (go (kind_of (label_word t i)) a b))
    where
      l : EqLeaf
      l = InterfaceLeaf k.theory k.tag

      go : (n : ℕ) → (n ≡ 0 → ⊥) → (n ≡ 1 → ⊥) → Labels (label t n (theory_of (label_word t i)) k.tag (after_word t i)) l
      go zero a b = absurd (a refl)
      go (suc zero) a b = absurd (b refl)
      go (suc (suc n)) a b = ap (λ (y : ℕ). InterfaceLeaf y k.tag) r

  pub edge_congruence : (v a : ℕ) → IsLabel t i (EdgeLabel.TheVariants.Congruence v a) → LabelPairs t i v a
  unfolding merges merge_at label pairs_from pairs_start begins pairs_of expand expand_edge part_age
  edge_congruence v a (w, q, r) =
      let f = (z.engine.entries i h).fit.0 in
      let s : pairs_start t i ≡ value_word t i = ap (λ (n : ℕ). begins n (value_word t i) (after_word t i)) w in
      let l = after_within t i z.engine h in
      record {
        ready = record { ordered = omega arith; each = λ j b c. record { in_force = omega arith; nodes = nodes j b c } };
        as_old = sym (ap (λ (j : EqJust). pairs_age (merges t) (pairs_of j)) is);
        goes = λ {m} {o} {m₁} {o₁} g. subst (λ (j : EqJust). Goes t m o m₁ o₁ (Label j)) (sym is)
            (record { answer = g.answer; shows = g.shows });
      }
    where
      is : just_at t i ≡ Congruence (pairs_from t v a)
      is = of_kind w q ∙ sym (ap (λ (n : ℕ). Congruence (pairs_from t v n)) r)

      nodes : (j : ℕ) → v ≤ j → j < a → EqualNodes t (pair_at t j).0 (pair_at t j).1
      nodes j b c =
          let p = pair_at t j in
          let here = in_merges t i (merges# t) h in
          let among = subst (λ (x : EqJust). In p (pairs_of x)) (sym is) (pair_in t v a j b c) in
          let within = z.engine.pair_nodes (merge_at t i) here p among in
          let same = pairs_same (merges t) z.engine.justified (merge_at t i) here p among in
          let equal = T_true (are_equal (merges t) p.0 p.1) (same_equal (merges t) p.0 p.1 same) in
          record { first = within.0; second = within.1; equal = equal }

-- ---- explain

-- no pair is marked at first
no_marks : (n j : ℕ) → at (replicate n 0) MARKS j ≡ 0
unfolding at
no_marks n j = go n (MARKS + j)
  where
    go : (n k : ℕ) → get_or {A = ℕ} (replicate n 0) k 0 ≡ 0
    go zero k = refl
    go (suc n) zero = refl
    go (suc n) (suc k) = go n k

pub explained : {t m o m₁ o₁ : List ℕ} {a b : ℕ} (n : ℕ) → m ≡ replicate n 0 → Goes t m o m₁ o₁ (NewPair a b) → Explains t a b o o₁
unfolding expand part_age explain firsts_after any marked
explained {t} {m} {o} {a = a} {b = b} n e g =
    let h = age_bound (merges t) a b in
    let none_yet : Explained = record { visited = []; leaves = [] } in
    let d = suc (length (merges t)) in
    let s = g.shows d (leaves o) none_yet (omega arith) (record {
      listed = sym (append-nil (leaves o));
      marks_are = λ j l. ap marked (ap (λ (u : List ℕ). at u MARKS (first_word t j)) e ∙ no_marks n (first_word t j));
    }) in
    record {
      sound = g.answer;
      listed = s.listed ∙ ap (λ (f : Explained). leaves o ++ firsts_after (leaves o) f.leaves) (new_is (merges t) a b none_yet d refl);
    }
