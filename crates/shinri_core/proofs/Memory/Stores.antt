-- Stores by region: what stands in a table after words of a region were written. `room` gives the room of each region, `size` is
-- how many words the table has at least. Whether two regions lie apart is computed, so at named regions `tt` proves it.
use Rattle.shinri_core.proofs.Kit.{ℕ, ◌+◌, ◌≤◌, ◌<◌, ◌≡◌, refl, sym, add-zero, ap, ◌∙◌, subst, ◌⊎◌, inl, inr, Bool, true, false, cond, ◌||◌, List, [], ◌∷◌, ℕ_discrete, arith, eq-eqb, ne_eqb, eqb-true, T, eqb, leb, leb→le, length, get_or, length-set, get_or-set_same, get_or-set_other, length-sets, sets, append_assoc, take, drop}
use borrow.Rule.Slice.PartMut.{put_mid}
use Rattle.std.proofs.lemmas.List.Edits.{sets-eq, paste_all}
use Rattle.std.proofs.lemmas.Slice.{put_mid-paste}
use Rattle.shinri_core.specs.Memory.Words.{at, put, put_all, apart, clear_of, one_of, among, Kept}
use Rattle.shinri_core.proofs.Lists.{T_and, T-both, getD_sets_in, getD_sets_out}

pub length_put : (t : List ℕ) (b x v : ℕ) → length (put t b x v) ≡ length t
unfolding put
length_put t b x v = length-set t (b + x) v

pub length_put_all : (t : List ℕ) (b x : ℕ) (vs : List ℕ) → length (put_all t b x vs) ≡ length t
unfolding put_all
length_put_all t b x vs = length-sets t (b + x) vs

pub other_place : (t : List ℕ) (b x y v : ℕ) → (y ≡ x → ⊥) → at (put t b x v) b y ≡ at t b y
unfolding at put
other_place t b x y v d = get_or-set_other t (b + x) (b + y) v 0 (λ e. d (omega arith))

pub earlier : (t : List ℕ) (b x y v : ℕ) → y < x → at (put t b x v) b y ≡ at t b y
earlier t b x y v h = other_place t b x y v (omega arith)

pub later : (t : List ℕ) (b x y v : ℕ) → x < y → at (put t b x v) b y ≡ at t b y
later t b x y v h = other_place t b x y v (omega arith)

-- a run of stores leaves what stands before it
pub all_before : (t : List ℕ) (b x : ℕ) (vs : List ℕ) (k : ℕ) → k < x → at (put_all t b x vs) b k ≡ at t b k
unfolding at put_all
all_before t b x vs k h = getD_sets_out t (b + x) vs (b + k) 0 (inl (omega arith))

-- what a part of the table holds is replaced: a run of stores
pub part_stored : (t : List ℕ) (b x n : ℕ) (vs ws : List ℕ) → ws ≡ vs → n ≡ length vs → b + x + length vs ≤ length t →
    put_mid (b + x) n t ws ≡ put_all t b x vs
unfolding put_all
part_stored t b x n vs ws e q h =
    put_mid-paste (b + x) n t ws vs (length vs) e (sym q) refl
    ∙ paste_all t (b + x) vs (length vs) refl
    ∙ sym (append_assoc (take (b + x) t) vs (drop (b + x + length vs) t))
    ∙ sym (sets-eq vs t (b + x) h)

pub start_stored : (t : List ℕ) (b n : ℕ) (vs ws : List ℕ) → ws ≡ vs → n ≡ length vs → b + length vs ≤ length t →
    put_mid b n t ws ≡ put_all t b 0 vs
start_stored t b n vs ws e q h = ap (λ (j : ℕ). put_mid j n t ws) (sym (add-zero b)) ∙ part_stored t b 0 n vs ws e q (omega arith)

module _ (room : ℕ → ℕ) where
  -- the places of regions that lie apart are ordered
  ordered : (b c : ℕ) → T (apart room b c) → (b + room b ≤ c) ⊎ (c + room c ≤ b)
  ordered b c = go (leb (b + room b) c) (leb (c + room c) b) (leb→le (b + room b) c) (leb→le (c + room c) b)
    where
      go : (p q : Bool) → (T p → b + room b ≤ c) → (T q → c + room c ≤ b) → T (p || q) → (b + room b ≤ c) ⊎ (c + room c ≤ b)
      go true q f g t = inl (f tt)
      go false q f g t = inr (g t)

  -- a run of stores in region c leaves region b as it was
  pub all_other : (t : List ℕ) (b c x y : ℕ) (vs : List ℕ) → T (apart room b c) → x < room b → y + length vs ≤ room c →
      at (put_all t c y vs) b x ≡ at t b x
  unfolding at put_all
  all_other t b c x y vs a h k = getD_sets_out t (c + y) vs (b + x) 0 (outside (ordered b c a))
    where
      outside : (b + room b ≤ c) ⊎ (c + room c ≤ b) → (b + x < c + y) ⊎ (c + y + length vs ≤ b + x)
      outside (inl l) = inl (omega arith)
      outside (inr l) = inr (omega arith)

  -- and so does one
  pub other_region : (t : List ℕ) (b c x y v : ℕ) → T (apart room b c) → x < room b → y < room c → at (put t c y v) b x ≡ at t b x
  unfolding put put_all
  other_region t b c x y v a h k = all_other t b c x y (v ∷ []) a h (omega arith)

  -- ---- what stores in some regions keep

  clear_apart : (b c : ℕ) (ws : List ℕ) → T (clear_of room b ws) → T (one_of c ws) → T (apart room b c)
  clear_apart b c [] a m = absurd m
  clear_apart b c (w ∷ ws) a m =
      let (here, there) = T_and (apart room b w) (clear_of room b ws) a in
      go (eqb c w) refl here (clear_apart b c ws there) m
    where
      go : (d : Bool) → eqb c w ≡ d → T (apart room b w) → (T (one_of c ws) → T (apart room b c)) → T (cond d true (one_of c ws)) →
          T (apart room b c)
      go true e h f n = subst (λ (k : ℕ). T (apart room b k)) (sym (eqb-true c w e)) h
      go false e h f n = f n

  pub kept_none : (ws t : List ℕ) → Kept room ws t t
  kept_none ws t = record { long = refl; rest = λ b x a h. refl }

  clear_fewer : (b : ℕ) (ws vs : List ℕ) → T (among ws vs) → T (clear_of room b vs) → T (clear_of room b ws)
  clear_fewer b [] vs m a = tt
  clear_fewer b (w ∷ ws) vs m a =
      let (here, there) = T_and (one_of w vs) (among ws vs) m in
      T-both (apart room b w) (clear_of room b ws) (clear_apart b w vs a here) (clear_fewer b ws vs there a)

  pub kept_more : (ws vs t u : List ℕ) → T (among ws vs) → Kept room ws t u → Kept room vs t u
  kept_more ws vs t u m p = record { long = p.long; rest = λ b x a h. p.rest b x (clear_fewer b ws vs m a) h }

  pub kept_put_all : (ws t u : List ℕ) (c y : ℕ) (vs : List ℕ) → T (one_of c ws) → y + length vs ≤ room c → Kept room ws t u →
      Kept room ws t (put_all u c y vs)
  kept_put_all ws t u c y vs m k p = record {
    long = length_put_all u c y vs ∙ p.long;
    rest = λ b x a h. all_other u b c x y vs (clear_apart b c ws a m) h k ∙ p.rest b x a h;
  }

  pub kept_put : (ws t u : List ℕ) (c y v : ℕ) → T (one_of c ws) → y < room c → Kept room ws t u → Kept room ws t (put u c y v)
  unfolding put put_all
  kept_put ws t u c y v m k p = kept_put_all ws t u c y (v ∷ []) m (omega arith) p

  module _ (size : ℕ) where
    pub same_place : (t : List ℕ) (b x v : ℕ) → T (leb (b + room b) size) → size ≤ length t → x < room b → at (put t b x v) b x ≡ v
    unfolding at put
    same_place t b x v f l h = let m = leb→le (b + room b) size f in get_or-set_same t (b + x) v 0 (omega arith)

    pub same_region : (t : List ℕ) (b x y v : ℕ) → T (leb (b + room b) size) → size ≤ length t → x < room b →
        at (put t b x v) b y ≡ cond (eqb y x) v (at t b y)
    same_region t b x y v f l h = go (ℕ_discrete y x)
      where
        go : Dec (y ≡ x) → at (put t b x v) b y ≡ cond (eqb y x) v (at t b y)
        go (yes e) = ap (at (put t b x v) b) e ∙ same_place t b x v f l h ∙ sym (ap (λ (q : Bool). cond q v (at t b y)) (eq-eqb y x e))
        go (no d) = other_place t b x y v d ∙ sym (ap (λ (q : Bool). cond q v (at t b y)) (ne_eqb y x d))

    pub put_long : (t : List ℕ) (b x v : ℕ) → size ≤ length t → size ≤ length (put t b x v)
    put_long t b x v l = let e = length_put t b x v in omega arith

    pub put_all_long : (t : List ℕ) (b x : ℕ) (vs : List ℕ) → size ≤ length t → size ≤ length (put_all t b x vs)
    put_all_long t b x vs l = let e = length_put_all t b x vs in omega arith

    -- a run of stores: its own words
    pub all_same : (t : List ℕ) (b x : ℕ) (vs : List ℕ) (k : ℕ) → T (leb (b + room b) size) → size ≤ length t → x + length vs ≤ room b →
        k < length vs → at (put_all t b x vs) b (x + k) ≡ get_or vs k 0
    unfolding at put_all
    all_same t b x vs k f l h g =
        let m = leb→le (b + room b) size f in
        let e : b + (x + k) ≡ b + x + k = omega arith in
        ap (λ (i : ℕ). get_or (sets t (b + x) vs) i 0) e ∙ getD_sets_in t (b + x) vs k 0 g (omega arith)
