-- Two classes joined under a given label, or one class left as it is.
use Rattle.shinri_core.proofs.Kit.{ℕ, suc, get_or, ◌+◌, ◌-◌, ◌≤◌, ◌<◌, ◌≡◌, refl, sym, subst, ap, ap₂, ◌∙◌, inl, inr, zero, Bool, true, false, cond, true≢false, List, [], ◌∷◌, map, arith, add-zero, zero-add, lit<, length}
use Rattle.shinri_core.specs.Limits.{max_terms, max_pairs}
use Rattle.shinri_core.specs.Lists.{In, range, zip}
use Rattle.shinri_core.specs.Memory.Words.{at}
use Rattle.theory.specs.Types.{EqJust, Congruence}
use Rattle.theory.specs.declared.types.EqJust as Given
use Rattle.theory.specs.declared.eq_engine.EdgeLabel as EdgeLabel
use Rattle.theory.specs.EqEngine.{Merge, are_equal, merge, pairs_of, pairs_in_force, way}
use Rattle.theory.specs.Memory.Replay.{EqualPairs}
use Rattle.theory.specs.Memory.Table.{COUNTS, MERGES, LEVEL, PARENT, SIZE, merges#, level_word, left_word, right_word, pair_at, label, begins, merges, just_meaning, EngineSound, Engine, TwoNodes, Merges, Congruent}
use Rattle.theory.specs.Memory.Steps.{SameLog, Joins, label_kind, label_theory, label_value, label_after, just_of, LabelOf, PairRoom, Copied}
use Rattle.theory.proofs.Memory.Log.{pairs_more, after_within, in_force_few}
use Rattle.theory.proofs.Memory.SoundTables.{edge_kept, Shortened, shorter_sound, shorter_merges}

-- ---- the list

merge_one : (ms : List Merge) (l a b : ℕ) (j : EqJust) → are_equal ms a b ≡ true → merge ms l a b j ≡ ms
unfolding merge
merge_one ms l a b j e = ap (λ (d : Bool). cond d ms (record { a = a; b = b; just = j; level = l } ∷ ms)) e

merge_two : {ms : List Merge} {a b : ℕ} (l : ℕ) (j : EqJust) → are_equal ms a b ≡ false →
    merge ms l a b j ≡ record { a = a; b = b; just = j; level = l } ∷ ms
unfolding merge
merge_two {ms} {a} {b} l j e = ap (λ (d : Bool). cond d ms (record { a = a; b = b; just = j; level = l } ∷ ms)) e

-- within one class nothing changes
pub merged_one : {t : List ℕ} {a b : ℕ} {r : Bool} (j : EqJust) → TwoNodes t a b → r ≡ are_equal (merges t) a b → r ≡ true →
    Merges t t a b j
merged_one {t} {a} {b} j s p e = record {
  engine = record { sound = s.sound; log = sym (merge_one (merges t) (level_word t) a b j (sym p ∙ e)); at_level = refl };
  unchanged = λ q. refl;
}

-- what a join ensures, as a merge
merged_two : {t u : List ℕ} {a b : ℕ} (i j : EqJust) → are_equal (merges t) a b ≡ false → i ≡ j →
    Engine u (record { a = a; b = b; just = i; level = level_word t } ∷ merges t) (level_word t) → Merges t u a b j
merged_two {t} {u} {a} {b} i j e q g = record {
  engine = record {
    sound = g.sound;
    log =
        g.log ∙ ap (λ (k : EqJust). record { a = a; b = b; just = k; level = level_word t } ∷ merges t) q
        ∙ sym (merge_two (level_word t) j e);
    at_level = g.at_level;
  };
  unchanged = λ r. absurd (true≢false (sym r ∙ e));
}

-- ---- a label without pairs

plain : (j : Given.EqJust) → pairs_of (just_meaning j) ≡ []
unfolding pairs_of just_meaning
plain (Given.TheVariants.Asserted l) = refl
plain (Given.TheVariants.Interface k) = refl

module _ {t : List ℕ} {a b : ℕ} {r : Bool} (j : Given.EqJust) (l : EdgeLabel.EdgeLabel) (h : LabelOf j l)
    (q : r ≡ are_equal (merges t) a b) (two : r ≡ false) where
  pub joinable_label : TwoNodes t a b → Joins t a b l
  joinable_label s =
      let n = pairs_in_force (merges t) in
      let z = s.sound in
      let few = in_force_few t z in
      let c = z.covers in
      let start = (h.no_pairs (label_after l n)).0 in
      let same = (h.no_pairs n).1 in
      record {
        sound = z;
        nodes = (s.first, s.second);
        two = sym q ∙ two;
        known = h.known;
        theory = h.theory;
        value = h.value;
        start = start ∙ same;
        ordered = omega arith;
        fit = omega arith;
        indexed = omega arith;
        pairs = λ x i. absurd (subst (λ (ps : List (ℕ × ℕ)). In x ps) (ap pairs_of (h.is t (label_after l n)) ∙ plain j) i);
      }

  pub merged_label : {u : List ℕ} →
      Engine u (record { a = a; b = b; just = just_of t l; level = level_word t } ∷ merges t) (level_word t) → Merges t u a b
      (just_meaning j)
  merged_label = merged_two (just_of t l) (just_meaning j) (sym q ∙ two) (h.is t (label_after l (pairs_in_force (merges t))))

-- ---- a label of pairs

pub zip_length : (xs ys : List ℕ) → length xs ≡ length ys → length (zip xs ys) ≡ length xs
unfolding zip
zip_length [] ys e = refl
zip_length (x ∷ xs) [] e = absurd (omega arith)
zip_length (x ∷ xs) (y ∷ ys) e = ap suc (zip_length xs ys (omega arith))

at_next : (x : ℕ) (xs : List ℕ) (i : ℕ) → at xs 0 i ≡ at (x ∷ xs) 0 (suc i)
unfolding at
at_next x xs i = ap (λ (k : ℕ). get_or xs k 0) (zero-add i) ∙ ap (λ (k : ℕ). get_or (x ∷ xs) k 0) (sym (zero-add (suc i)))

zip_in : (xs ys : List ℕ) (i : ℕ) → length xs ≡ length ys → i < length xs → In (at xs 0 i, at ys 0 i) (zip xs ys)
unfolding zip at
zip_in [] ys i e h = absurd (omega arith)
zip_in (x ∷ xs) [] i e h = absurd (omega arith)
zip_in (x ∷ xs) (y ∷ ys) zero e h = inl refl
zip_in (x ∷ xs) (y ∷ ys) (suc i) e h =
    inr
    (subst (λ (p : ℕ × ℕ). In p (zip xs ys)) (λ k. (at_next x xs i k, at_next y ys i k))
    (zip_in xs ys i (omega arith) (omega arith)))

-- a merge whose pairs fit leaves room for them
pub pairs_room : {t : List ℕ} {a b start : ℕ} {xs ys : List ℕ} {r : Bool} → Congruent t a b xs ys → r ≡ are_equal (merges t) a b →
    r ≡ false → start ≡ pairs_in_force (merges t) → PairRoom t start xs ys
unfolding pairs_of
pairs_room {t} {a} {b} {start} {xs} {ys} s q two p =
    let j = Congruence (zip xs ys) in
    let l = level_word t in
    let more = ap pairs_in_force (merge_two l j (sym q ∙ two)) ∙ pairs_more (record { a = a; b = b; just = j; level = l }) (merges t) in
    let n = zip_length xs ys s.same_count in
    let f = s.fit in
    let z = s.nodes.sound in
    let c = z.covers in
    record {
      long = z.long;
      same_count = s.same_count;
      fit = omega arith;
      indexed = z.indexed;
      covers = omega arith;
      nodes = λ i h. let e = s.equal (at xs 0 i, at ys 0 i) (zip_in xs ys i s.same_count h) in (e.1, e.2);
    }

-- and pairs for which there is room fit
pub room_pairs : (ms : List Merge) (l a b : ℕ) (xs ys : List ℕ) → length xs ≡ length ys → pairs_in_force ms + length xs ≤ max_pairs →
    pairs_in_force (merge ms l a b (Congruence (zip xs ys))) ≤ max_pairs
unfolding merge pairs_of
room_pairs ms l a b xs ys e f = go (are_equal ms a b)
  where
    go : (d : Bool) → pairs_in_force (cond d ms (record { a = a; b = b; just = Congruence (zip xs ys); level = l } ∷ ms)) ≤ max_pairs
    go true = omega arith
    go false = omega (arith, zip_length xs ys e, pairs_more (record { a = a; b = b; just = Congruence (zip xs ys); level = l }) ms)

-- pairs by their places
zip_words : (f g : ℕ → ℕ) (xs ys : List ℕ) (k : ℕ) → length xs ≡ length ys →
    ((j : ℕ) → j < length xs → (f (k + j) ≡ at xs 0 j) × (g (k + j) ≡ at ys 0 j)) → map (λ j. (f j, g j)) (range k (length xs)) ≡ zip xs ys
unfolding zip range at
zip_words f g [] ys k e h = refl
zip_words f g (x ∷ xs) [] k e h = absurd (omega arith)
zip_words f g (x ∷ xs) (y ∷ ys) k e h =
    let a = h 0 (omega arith) in
    ap₂ (λ (p : ℕ × ℕ) (ps : List (ℕ × ℕ)). p ∷ ps)
    (ap₂ (λ (p q : ℕ). (p, q)) (ap f (sym (add-zero k)) ∙ a.0) (ap g (sym (add-zero k)) ∙ a.1))
    (zip_words f g xs ys (suc k) (omega arith) (λ j l.
    let q : suc k + j ≡ k + suc j = omega arith in
    let b = h (suc j) (omega arith) in
    (ap f q ∙ b.0 ∙ shift x xs j, ap g q ∙ b.1 ∙ shift y ys j)))
  where
    shift : (x : ℕ) (xs : List ℕ) (j : ℕ) → at (x ∷ xs) 0 (suc j) ≡ at xs 0 j
    shift x xs j = rw (zero-add (suc j), zero-add j)

module _ {t u : List ℕ} {start : ℕ} {xs ys : List ℕ} {a b : ℕ} {r : Bool} (s : Congruent t a b xs ys)
    (p : start ≡ pairs_in_force (merges t)) (c : Copied t u start xs ys) (q : r ≡ are_equal (merges t) a b) (two : r ≡ false) where
  z : EngineSound t
  z = s.nodes.sound

  same_log : SameLog t u (merges# t)
  unfolding z
  same_log = record {
    entries = λ i h. let f = z.fewer in let w : i < max_terms = omega arith in search (c.kept.rest, tt);
    pairs = λ i h j l. let n = after_within t i z h in c.older j (omega arith);
  }

  level_kept : level_word u ≡ level_word t
  level_kept = c.kept.rest COUNTS LEVEL tt (lit< tt)

  shortened : Shortened t u (merges# t)
  unfolding merges z
  shortened =
      let count : merges# u ≡ merges# t = c.kept.rest COUNTS MERGES tt (lit< tt) in
      let l = level_kept in
      record {
        long = let k = c.kept.long in let m = z.long in omega arith;
        fewer = omega arith;
        count = count;
        log = same_log;
        levels_fit = let f = z.levels_fit in omega arith;
        levels = λ i h. let f = z.levels i h in omega arith;
        parents = λ x h. c.kept.rest PARENT x tt h ∙ z.parents x h;
        sizes = λ x h. c.kept.rest SIZE x tt h ∙ z.sizes x h;
        forest = λ x h. edge_kept (way (merges t) x) same_log (omega arith) (search (c.kept.rest, tt)) (z.forest x h);
        indexed = c.indexed;
        covers = let n = c.count in omega arith;
      }

  -- more pairs behind those in force change nothing
  copied_merges : merges u ≡ merges t
  unfolding merges z
  copied_merges = shorter_merges z shortened

  label_is : (n : ℕ) → n ≡ start + length xs → label u 1 0 start n ≡ Congruence (zip xs ys)
  unfolding label
  label_is n e =
      let d : n - start ≡ length xs = omega arith in
      ap Congruence
      (ap (λ (k : ℕ). map (pair_at u) (range start k)) d ∙ zip_words (left_word u) (right_word u) xs ys start s.same_count c.new)

  -- their label in the log
  abbrev Range : ℕ → EdgeLabel.EdgeLabel
  Range n = EdgeLabel.TheVariants.Congruence start n

  pub joinable_pairs : {n : ℕ} → n ≡ start + length xs → PairRoom t start xs ys → Joins u a b (Range n)
  unfolding begins pairs_of z label_kind label_theory label_value label_after
  joinable_pairs {n} e room =
      let f = room.fit in
      record {
        sound = shorter_sound z shortened;
        nodes = (s.nodes.first, s.nodes.second);
        two = ap (λ (ms : List Merge). are_equal ms a b) copied_merges ∙ sym q ∙ two;
        known = omega arith;
        theory = omega arith;
        value = omega arith;
        start = p ∙ ap pairs_in_force (sym copied_merges);
        ordered = omega arith;
        fit = omega arith;
        indexed = let k = c.count in omega arith;
        pairs = subst (λ (j : EqJust). EqualPairs (merges u) (pairs_of j)) (sym (label_is n e))
            (subst (λ (ms : List Merge). EqualPairs ms (zip xs ys)) (sym copied_merges) s.equal);
      }

  pub merged_pairs : {v : List ℕ} {n : ℕ} → n ≡ start + length xs →
      Engine v (record { a = a; b = b; just = just_of u (Range n); level = level_word u } ∷ merges u) (level_word u) → Merges t v a b
      (Congruence (zip xs ys))
  unfolding label_kind label_theory label_value label_after
  merged_pairs {v} {n} e g =
      merged_two (label u 1 0 start n) (Congruence (zip xs ys)) (sym q ∙ two) (label_is n e) (record {
        sound = g.sound;
        log = g.log ∙ ap₂ (λ (l : ℕ) (ms : List Merge). record { a = a; b = b; just = label u 1 0 start n; level = l } ∷ ms) level_kept
            copied_merges;
        at_level = g.at_level ∙ level_kept;
      })
