-- What stores in some regions leave of the registry, of a set of flags and of the records.
use Rattle.shinri_core.proofs.Kit.{ℕ, ◌/◌, ◌≤◌, ◌<◌, ◌≡◌, refl, sym, ap, ◌∙◌, subst, subst⁻¹, ◌⊎◌, Bool, List, T, eqb, arith, length, get_or, ext_get_or, get_or-take, length-take-le, zero-add}
use Rattle.shinri_core.specs.Limits.{max_terms, table_words}
use Rattle.shinri_core.specs.Lists.{In, Apart, any}
use Rattle.shinri_core.specs.Memory.Words.{at, counted, clear_of, Kept}
use Rattle.shinri_core.specs.Memory.Table.{context}
use Rattle.shinri_core.proofs.Memory.Counted.{counted_same}
use Rattle.theory.specs.Atom.{Registered}
use Rattle.theory.specs.Memory.Registry.{registry_size, atoms, RegistrySound}
use Rattle.solver.specs.Memory.Table.{REGISTRY, COUNTS, RECORDS, BLOCK, block_terms, MARK, COLLECTED, LASTING, RECORDED, ENTRY, max_records, solver_room, records#, registry, is_set, flagged_from, term_kind, EntryFits, entry_key, record_of, Announced, SolverSound, CollectedSound, StateSound, max_lits}
use Rattle.solver.proofs.Memory.Flags.{flagged_same}
use Rattle.solver.proofs.Memory.Signs.{record_same}

module _ {ws s u : List ℕ} (k : Kept solver_room ws s u) where
  pub registry_kept : T (clear_of solver_room REGISTRY ws) → table_words ≤ length s → registry u ≡ registry s
  unfolding at
  registry_kept a l = ext_get_or 0 (registry u) (registry s) (e ∙ sym f) each
    where
      f : length (registry s) ≡ registry_size
      f = length-take-le registry_size s (omega arith)

      e : length (registry u) ≡ registry_size
      e = let m = k.long in length-take-le registry_size u (omega arith)

      each : (i : ℕ) → i < length (registry u) → get_or (registry u) i 0 ≡ get_or (registry s) i 0
      each i h =
          let q = e in
          let m : i < registry_size = omega arith in
          let z = zero-add i in
          get_or-take registry_size u i 0 m
          ∙ ap (λ (j : ℕ). get_or u j 0) (sym z)
          ∙ k.rest REGISTRY i a m
          ∙ ap (λ (j : ℕ). get_or s j 0) z
          ∙ sym (get_or-take registry_size s i 0 m)

  -- a region of one word a term
  pub flagged_kept : (b i : ℕ) → T (clear_of solver_room b ws) → solver_room b ≡ max_terms → flagged_from u b i ≡ flagged_from s b i
  flagged_kept b i a r = flagged_same s u b b i (λ x l h. ap is_set (k.rest b x a (omega arith)))

  pub record_kept : (p : ℕ → Bool) (lv : ℕ → ℕ) → records# s ≤ max_records → records# u ≡ records# s →
      T (clear_of solver_room ENTRY ws) → record_of p u lv ≡ record_of p s lv
  record_kept p lv f n a =
      record_same p s u lv lv (records# s) refl n (λ i h. k.rest ENTRY i a (omega arith)) (λ i h. refl)

  -- the keys of as many entries
  pub keys_kept : T (clear_of solver_room ENTRY ws) → (n : ℕ) → n ≤ max_records → records# u ≡ n →
      counted (entry_key u) (records# u) ≡ counted (entry_key s) n
  keys_kept a n f e =
      ap (counted (entry_key u)) e
      ∙ counted_same (entry_key u) (entry_key s) n (λ i h. ap (λ (w : ℕ). w / max_lits) (k.rest ENTRY i a (omega arith)))

  -- a table stays sound by the registry, the records and their flags
  pub solver_kept : T (clear_of solver_room REGISTRY ws) → T (clear_of solver_room COUNTS ws) → T (clear_of solver_room RECORDED ws) →
      T (clear_of solver_room ENTRY ws) → SolverSound s → SolverSound u
  solver_kept a b c d z =
      let l = k.long in
      let m = z.long in
      let fit = z.records_fit in
      let n : records# u ≡ records# s = k.rest COUNTS RECORDS b (omega arith) in
      let same = keys_kept d (records# s) fit n in
      record {
        long = omega arith;
        atoms = subst RegistrySound (sym (registry_kept a m)) z.atoms;
        records_fit = omega arith;
        once = subst Apart (sym same) z.once;
        recorded = λ x h.
            ap is_set (k.rest RECORDED x c h) ∙ z.recorded x h ∙ ap (any (eqb x)) (sym same);
      }

  pub announced_kept : T (clear_of solver_room BLOCK ws) → T (clear_of solver_room MARK ws) → Announced s MARK BLOCK →
      Announced u MARK BLOCK
  announced_kept b m z x h q =
      ap is_set (k.rest BLOCK (x / block_terms) b (omega arith)) ∙ z x h (sym (k.rest MARK x m h) ∙ q)

  -- and so do the three tables, by the marks, what is collected and the lasting record as well
  pub state_kept : {c e : List ℕ} → T (clear_of solver_room REGISTRY ws) → T (clear_of solver_room COUNTS ws) →
      T (clear_of solver_room BLOCK ws) → T (clear_of solver_room MARK ws) → T (clear_of solver_room COLLECTED ws) →
      T (clear_of solver_room LASTING ws) → T (clear_of solver_room RECORDED ws) → T (clear_of solver_room ENTRY ws) →
      StateSound c e s → StateSound c e u
  state_kept {c} {e} r n b m d l f a z =
      let fit = z.solver.records_fit in
      let count : records# u ≡ records# s = k.rest COUNTS RECORDS n (omega arith) in
      record {
        core = z.core;
        formed = z.formed;
        signed = z.signed;
        engine = z.engine;
        solver = solver_kept r n f a z.solver;
        registered = subst (λ (t : List ℕ). (x : Registered) → In x (atoms t) → x.atom < length (context c).terms)
            (sym (registry_kept r z.solver.long)) z.registered;
        marks = λ x h. subst (λ (v : ℕ). (v ≡ 0) ⊎ (v ≡ term_kind (context c) x)) (sym (k.rest MARK x m h)) (z.marks x h);
        announced = announced_kept b m z.announced;
        collected = λ x h q. still x h (z.collected x h (sym (ap is_set (k.rest COLLECTED x d h)) ∙ q));
        lasting = λ x h q. z.lasting x h (sym (ap is_set (k.rest LASTING x l h)) ∙ q);
        records = λ i h. subst⁻¹ (EntryFits (context c)) (k.rest ENTRY i a (omega arith)) (z.records i (omega arith));
      }
    where
      still : (x : ℕ) → x < max_terms → CollectedSound (context c) s x → CollectedSound (context c) u x
      still x h q =
          let few = z.core.terms_fit in
          let count = z.core.term_count in
          record {
            within = q.within;
            mark = k.rest MARK x m h ∙ q.mark;
            below = λ y i.
                let y_lower = z.formed.lower x q.within y i in
                ap is_set (k.rest COLLECTED y d (omega arith)) ∙ q.below y i;
          }
