-- `equate`, `cong` and `iface`: the lines that merge.
use Prim.Native.Nat.{ℕ, ◌<◌}
use mathlib.Core.Path.{◌≡◌, refl, sym, subst, subst⁻¹, ap, ◌∙◌}
use mathlib.Core.Logic.{◌⊎◌, inl, inr}
use mathlib.Core.List.{List, [], ◌∷◌}
use native.Mathlib.Omega.{arith}
use lib.Dec.{T, ltb→lt}
use lib.ListN.{length}
use Rattle.shinri_core.specs.Lists.{every}
use Rattle.shinri_core.specs.Ids as Ids
use Rattle.shinri_core.specs.Term.{Op, Eq, same_op}
use Rattle.shinri_core.specs.Context.{term, children}
use Rattle.shinri_core.proofs.Lists.{every_in}
use Rattle.theory.specs.Types.{Asserted, Congruence, Interface}
use Rattle.theory.specs.EqEngine.{pairs_of}
use Rattle.theory.specs.Atom as Atom
use Rattle.solver.specs.State.{with_eq, equal}
use Rattle.solver.proofs.Terms.{Agrees, same_op_eq}
use Rattle.session.specs.Line.{Register, Equate, Cong, Iface}
use Rattle.session.specs.Session.{Session, argument_pairs, term_exists, var_exists, atom_of, perform, done, merged, merge_sides}
use Rattle.session.specs.History.{History, level, level_after, InForce, IsAtom, IsEquation}
use Rattle.session.proofs.Forces.{kind, force_back, force_other, accepted_other}
use Rattle.session.proofs.Invariant.{declared, atom_one, atom_within, registered_atom, LineSides, Inv}
use Rattle.session.proofs.Truth.{two_terms}
use Rattle.session.proofs.Steps.{merge_kept}
use Rattle.session.proofs.Accepting.{line_kind, Good, good_ok}

-- ---- equate

head_is : (a b c d : ℕ) → a ∷ b ∷ [] ≡ c ∷ d ∷ [] → a ≡ c
head_is a b c d e = cc

next_is : (a b c d : ℕ) → a ∷ b ∷ [] ≡ c ∷ d ∷ [] → b ≡ d
next_is a b c d e = cc

module _ (s : Session) (h : History) (l t a b : ℕ) (I : Inv s h) (v : T (Atom.is_registered s.state.atoms (Ids.var l))) (p : T (Ids.is_positive l)) (at : IsAtom h l t) (E : IsEquation s.state.terms t a b) where
  lit_is : (k : ℕ) → Equate l ≡ Equate k → l ≡ k
  lit_is k e = cc

  equate_sides : (w x y : ℕ) → LineSides s.state.terms (Equate l ∷ h) w x y → ((w ≡ level h) × (x ≡ a) × (y ≡ b)) ⊎ LineSides s.state.terms h w x y
  unfolding kind
  equate_sides w x y (inl (k, u, i, ak, e)) = go (force_back (Equate l) h w (Equate k) i) (accepted_other (Equate l) h (Register (Ids.var k) u) (λ q. omega arith) ak)
    where
      go : ((Equate l ≡ Equate k) × (w ≡ level h)) ⊎ InForce h w (Equate k) → IsAtom h k u → ((w ≡ level h) × (x ≡ a) × (y ≡ b)) ⊎ LineSides s.state.terms h w x y
      go (inl (q, z)) ok =
          let same : u ≡ t = atom_one s.state.terms s.state.atoms h I.named k u t ok (subst (λ (n : ℕ). IsAtom h n t) (lit_is k q) at) in
          let both : x ∷ y ∷ [] ≡ a ∷ b ∷ [] = sym e.1 ∙ ap (children s.state.terms) same ∙ E.1 in
          inl (z, head_is x y a b both, next_is x y a b both)
      go (inr j) ok = inr (inl (k, u, j, ok, e))
  equate_sides w x y (inr (inl i)) = inr (inr (inl (force_other (Equate l) h w (Cong x y) (λ q. omega arith) i)))
  equate_sides w x y (inr (inr (i, g, f))) = inr (inr (inr (i, g, force_other (Equate l) h w (Iface x y i g) (λ q. omega arith) f)))

  equate_known : (w k : ℕ) → InForce (Equate l ∷ h) w (Equate k) → T (Atom.is_registered s.state.atoms (Ids.var k))
  equate_known w k i = go (force_back (Equate l) h w (Equate k) i)
    where
      go : ((Equate l ≡ Equate k) × (w ≡ level h)) ⊎ InForce h w (Equate k) → T (Atom.is_registered s.state.atoms (Ids.var k))
      go (inl (q, z)) = subst (λ (n : ℕ). T (Atom.is_registered s.state.atoms (Ids.var n))) (lit_is k q) v
      go (inr j) = I.merged.equated w k j

  equate_merged : Good s (Equate l) (merged s a b (Asserted l)) h
  unfolding merged done kind line_kind declared level_after pairs_of with_eq
  equate_merged =
      good_ok s (Equate l) (merged s a b (Asserted l)) h refl (λ e. omega arith)
      (merge_kept s h (Equate l) a b (Asserted l) I (λ e. omega arith) (λ e. omega arith) refl refl (λ q i. absurd i) (λ e. tt)
      (t, inl (refl, I.level), inr at, p, atom_within s.state.terms s.state.atoms h I.named l t at, E) equate_sides equate_known)

pub equate_good : (s : Session) (h : History) (l : ℕ) → Inv s h → T (var_exists s l) → T (Ids.is_positive l) → T (same_op (term s.state.terms (atom_of s l)).op Eq) → Good s (Equate l) (perform s (Equate l)) h
unfolding perform var_exists atom_of
equate_good s h l I v p o = go (subst (λ (q : Op). Agrees s.state.terms q (children s.state.terms t)) op (I.ready.formed.agrees t within))
  where
    t : ℕ
    t = Atom.atom s.state.atoms (Ids.var l)

    at : IsAtom h l t
    at = registered_atom s.state.terms s.state.atoms h I.named (Ids.var l) v

    within : t < length s.state.terms.terms
    within = atom_within s.state.terms s.state.atoms h I.named l t at

    op : (term s.state.terms t).op ≡ Eq
    op = same_op_eq (term s.state.terms t).op Eq o

    go : Agrees s.state.terms Eq (children s.state.terms t) → Good s (Equate l) (merge_sides s l (children s.state.terms t)) h
    go (a, b, e, q) =
        subst⁻¹ (λ (zs : List ℕ). Good s (Equate l) (merge_sides s l zs) h) e (unfold merge_sides in equate_merged s h l t a b I v p at (op, e))

-- ---- cong

pub cong_good : (s : Session) (h : History) (t u : ℕ) → Inv s h → T (term_exists s t) → T (term_exists s u) → T (same_op (term s.state.terms t).op (term s.state.terms u).op) → T (every (λ (p : ℕ × ℕ). equal s.state p.0 p.1) (argument_pairs s t u)) → Good s (Cong t u) (perform s (Cong t u)) h
unfolding perform merged done kind line_kind declared level_after pairs_of with_eq term_exists argument_pairs equal
cong_good s h t u I x y o e =
    good_ok s (Cong t u) (merged s t u (Congruence (argument_pairs s t u))) h refl (λ q. omega arith)
    (merge_kept s h (Cong t u) t u (Congruence (argument_pairs s t u)) I (λ q. omega arith) (λ q. omega arith) refl refl
    (λ p i. every_in (λ (p : ℕ × ℕ). equal s.state p.0 p.1) (argument_pairs s t u) p e i)
    (λ n. two_terms s.state.terms I.ready.formed s.state.eq t u a b op n)
    (inl (refl, I.level), a, b, op, refl) sides known)
  where
    a : t < length s.state.terms.terms
    a = ltb→lt t (length s.state.terms.terms) x

    b : u < length s.state.terms.terms
    b = ltb→lt u (length s.state.terms.terms) y

    op : (term s.state.terms t).op ≡ (term s.state.terms u).op
    op = same_op_eq (term s.state.terms t).op (term s.state.terms u).op o

    first_is : (z w : ℕ) → Cong t u ≡ Cong z w → z ≡ t
    first_is z w q = cc

    second_is : (z w : ℕ) → Cong t u ≡ Cong z w → w ≡ u
    second_is z w q = cc

    new : (v z w : ℕ) → ((Cong t u ≡ Cong z w) × (v ≡ level h)) ⊎ InForce h v (Cong z w) → ((v ≡ level h) × (z ≡ t) × (w ≡ u)) ⊎ LineSides s.state.terms h v z w
    new v z w (inl (q, k)) = inl (k, first_is z w q, second_is z w q)
    new v z w (inr i) = inr (inr (inl i))

    sides : (v z w : ℕ) → LineSides s.state.terms (Cong t u ∷ h) v z w → ((v ≡ level h) × (z ≡ t) × (w ≡ u)) ⊎ LineSides s.state.terms h v z w
    sides v z w (inl (k, c, i, ak, q)) =
        inr (inl (k, c, force_other (Cong t u) h v (Equate k) (λ r. omega arith) i, accepted_other (Cong t u) h (Register (Ids.var k) c) (λ r. omega arith) ak, q))
    sides v z w (inr (inl i)) = new v z w (force_back (Cong t u) h v (Cong z w) i)
    sides v z w (inr (inr (i, g, f))) = inr (inr (inr (i, g, force_other (Cong t u) h v (Iface z w i g) (λ r. omega arith) f)))

    known : (v k : ℕ) → InForce (Cong t u ∷ h) v (Equate k) → T (Atom.is_registered s.state.atoms (Ids.var k))
    known v k i = I.merged.equated v k (force_other (Cong t u) h v (Equate k) (λ r. omega arith) i)

-- ---- iface

pub iface_good : (s : Session) (h : History) (t u i g : ℕ) → Inv s h → Good s (Iface t u i g) (perform s (Iface t u i g)) h
unfolding perform merged done kind line_kind declared level_after pairs_of with_eq
iface_good s h t u i g I =
    good_ok s (Iface t u i g) (merged s t u (Interface i g)) h refl (λ q. omega arith)
    (merge_kept s h (Iface t u i g) t u (Interface i g) I (λ q. omega arith) (λ q. omega arith) refl refl (λ p k. absurd k) (λ n. tt)
    (inl (refl, I.level)) sides known)
  where
    first_is : (z w j k : ℕ) → Iface t u i g ≡ Iface z w j k → z ≡ t
    first_is z w j k q = cc

    second_is : (z w j k : ℕ) → Iface t u i g ≡ Iface z w j k → w ≡ u
    second_is z w j k q = cc

    new : (v z w j k : ℕ) → ((Iface t u i g ≡ Iface z w j k) × (v ≡ level h)) ⊎ InForce h v (Iface z w j k) → ((v ≡ level h) × (z ≡ t) × (w ≡ u)) ⊎ LineSides s.state.terms h v z w
    new v z w j k (inl (q, e)) = inl (e, first_is z w j k q, second_is z w j k q)
    new v z w j k (inr f) = inr (inr (inr (j, k, f)))

    sides : (v z w : ℕ) → LineSides s.state.terms (Iface t u i g ∷ h) v z w → ((v ≡ level h) × (z ≡ t) × (w ≡ u)) ⊎ LineSides s.state.terms h v z w
    sides v z w (inl (k, c, f, ak, q)) =
        inr (inl (k, c, force_other (Iface t u i g) h v (Equate k) (λ r. omega arith) f, accepted_other (Iface t u i g) h (Register (Ids.var k) c) (λ r. omega arith) ak, q))
    sides v z w (inr (inl f)) = inr (inr (inl (force_other (Iface t u i g) h v (Cong z w) (λ r. omega arith) f)))
    sides v z w (inr (inr (j, k, f))) = new v z w j k (force_back (Iface t u i g) h v (Iface z w j k) f)

    known : (v k : ℕ) → InForce (Iface t u i g ∷ h) v (Equate k) → T (Atom.is_registered s.state.atoms (Ids.var k))
    known v k f = I.merged.equated v k (force_other (Iface t u i g) h v (Equate k) (λ r. omega arith) f)
