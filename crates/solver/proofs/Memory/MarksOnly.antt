-- The solver's marks without a work table, where no block announces a constructor application: then the marks alone are what a check
-- begins with.
use Rattle.shinri_core.proofs.Kit.{ℕ, zero, suc, ◌+◌, ◌/◌, ◌≤◌, ◌<◌, ◌≡◌, sym, ap, ◌∙◌, subst, ◌⊎◌, inl, Bool, cond, true≢false, List, [], ◌∷◌, arith, zero-add, ne_eqb, ltb, le-ltb, length}
use borrow.Author.Tests.{lt-ltb}
use Rattle.shinri_core.specs.Limits.{max_terms}
use Rattle.shinri_core.specs.Lists.{first}
use Rattle.shinri_core.specs.Context.{Context}
use Rattle.shinri_core.specs.Memory.Words.{at}
use Rattle.shinri_core.specs.Memory.Table.{context}
use Rattle.shinri_core.proofs.Memory.Counted.{counted_at, counted_length}
use Rattle.theory.specs.EqEngine.{find}
use Rattle.theory.specs.Memory.Table.{merges}
use Rattle.solver.specs.Memory.Table.{BLOCK, block_terms, MARK, is_set, term_kind, MarksAre, Announced, state, state_with, StateSound}
use Rattle.solver.specs.Memory.Recording.{NoneAnnounced}
use Rattle.solver.specs.Memory.Work.{W_MARK, ROOT, LOWEST, work_size, apps_from, first_in_class, app_word, marks_only, state_at, Begins}
use Rattle.solver.proofs.Memory.Flags.{flagged_same}
use Rattle.solver.proofs.Memory.Working.{node_root}
use Rattle.solver.specs.Memory.ConstructorClash.{app_at}
use Rattle.solver.proofs.Memory.AppNumbers.{apps_step, apps_none}

-- ---- the table of the marks alone

only_at : (s : List ℕ) (b x : ℕ) → b + x < work_size → at (marks_only s) b x ≡ cond (ltb (b + x) max_terms) (at s MARK (b + x)) 0
unfolding at marks_only
only_at s b x h = counted_at (λ i. cond (ltb i max_terms) (at s MARK i) 0) work_size (b + x) 0 h

pub only_mark : (s : List ℕ) (x : ℕ) → x < max_terms → at (marks_only s) W_MARK x ≡ at s MARK x
only_mark s x h =
    only_at s W_MARK x (omega arith)
    ∙ ap (λ (i : ℕ). cond (ltb i max_terms) (at s MARK i) 0) (zero-add x)
    ∙ ap (λ (b : Bool). cond b (at s MARK x) 0) (lt-ltb x max_terms h)

only_zero : (s : List ℕ) (b x : ℕ) → max_terms ≤ b + x → b + x < work_size → at (marks_only s) b x ≡ 0
only_zero s b x l h = only_at s b x h ∙ ap (λ (q : Bool). cond q (at s MARK (b + x)) 0) (le-ltb (b + x) max_terms l)

only_long : (s : List ℕ) → work_size ≤ length (marks_only s)
unfolding marks_only
only_long s = let n = counted_length (λ i. cond (ltb i max_terms) (at s MARK i) 0) work_size in omega arith

only_marks : (cx : Context) (s : List ℕ) → MarksAre cx s MARK → MarksAre cx (marks_only s) W_MARK
only_marks cx s m x h = subst (λ (v : ℕ). (v ≡ 0) ⊎ (v ≡ term_kind cx x)) (sym (only_mark s x h)) (m x h)

marks_view : (c e s : List ℕ) (lv : ℕ → ℕ) → state_at c e s (marks_only s) lv ≡ state c e s lv
marks_view c e s lv =
    ap (state_with c e s lv) (flagged_same s (marks_only s) MARK W_MARK 0 (λ x l h. ap is_set (only_mark s x h)))

-- ---- no application at all

none_marked : (s : List ℕ) → Announced s MARK BLOCK → NoneAnnounced s → (x : ℕ) → x < max_terms → at s MARK x ≡ 1 → ⊥
none_marked s a n x h m = true≢false (sym (a x h m) ∙ n (x / block_terms) (omega arith))

no_apps : (cx : Context) (w : List ℕ) → MarksAre cx w W_MARK → ((x : ℕ) → x < max_terms → at w W_MARK x ≡ 1 → ⊥) → (n i : ℕ) →
    n + i ≡ max_terms → apps_from cx w i ≡ []
no_apps cx w m d zero i e = apps_none cx w m i (omega arith)
no_apps cx w m d (suc n) i e =
    apps_step cx w m i (omega arith)
    ∙ ap (λ (b : Bool). cond b (app_at cx i ∷ apps_from cx w (suc i)) (apps_from cx w (suc i)))
    (ne_eqb (at w W_MARK i) 1 (d i (omega arith)))
    ∙ no_apps cx w m d n (suc i) (omega arith)

module _ {c e s : List ℕ} (z : StateSound c e s) (n : NoneAnnounced s) where
  pub none_built : apps_from (context c) (marks_only s) 0 ≡ []
  none_built =
      no_apps (context c) (marks_only s) (only_marks (context c) s z.marks)
      (λ x h m. none_marked s z.announced n x h (sym (only_mark s x h) ∙ m)) max_terms 0 (omega arith)

  -- the marks alone are the work table of a check
  pub begins_only : Begins c e s (marks_only s)
  unfolding first_in_class first app_word
  begins_only = record {
    check = record {
      state = z;
      work = record {
        long = only_long s;
        marks = only_marks (context c) s z.marks;
        roots = λ x h. inl (only_zero s ROOT x (omega arith) (omega arith));
        lowest = λ x h.
            let l = node_root e x z.engine h in
            rw none_built (only_zero s LOWEST (find (merges e) x) (omega arith) (omega arith));
      };
      more = λ x h q. only_mark s x h;
    };
    chain = record { next = λ x h m. absurd (none_marked s z.announced n x h (sym (only_mark s x h) ∙ m)) };
    marks = marks_view c e s;
  }
