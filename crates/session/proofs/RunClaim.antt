-- Demand 3 about the run: its bytes are the answers of the lines that it answers, of which the claim holds.
use Rattle.shinri_core.proofs.Kit.{ℕ, suc, ◌+◌, ◌-◌, ◌<◌, ◌≡◌, refl, ap, ◌⊎◌, inl, inr, Bool, true, false, cond, leb, List, [], ◌∷◌, arith, length, length-append, take}
use borrow.Author.Tests.{leb-true, leb-false}
use Rattle.shinri_core.specs.Limits.{max_script}
use Rattle.session.specs.Text.{lines}
use Rattle.session.specs.Session.{Session, empty_session, step}
use Rattle.session.specs.Run.{Sizes, Complete, ShortTable, LongScript, Full, Ran, answers_none, one_more, answer_line, run_lines, tables_suffice, run}
use Rattle.session.specs.RunClaim.{answers, answer_lines, Ends, RunClaim}
use Rattle.session.proofs.Claim.{claim}

-- ---- lines

-- the bytes of a run from s on are the answers of the lines that it answers
abbrev Writes : Session → List (List ℕ) → Ran → Type 0
Writes s ls d = d.written ≡ answer_lines (answers s (take d.answered ls))

line_writes : (b : Bool) (s : Session) (l : List ℕ) (ls : List (List ℕ)) (d : Ran) → Writes (step s l).session ls d →
    Writes s (l ∷ ls) (cond b (one_more (answer_line (step s l)) d) (answers_none Full))
unfolding one_more answers_none answers answer_lines answer_line
line_writes true s l ls d w = rw w
line_writes false s l ls d w = refl

run_writes : (room : ℕ) (s : Session) (ls : List (List ℕ)) → Writes s ls (run_lines room s ls)
unfolding run_lines answers answer_lines
run_writes room s [] = refl
run_writes room s (l ∷ ls) =
    let text = answer_line (step s l) in
    line_writes (leb (length text) room) s l ls (run_lines (room - length text) (step s l).session ls)
    (run_writes (room - length text) (step s l).session ls)

-- a run from s on with so much room answers all lines, or the answer line of the next one does not fit
abbrev pub Stops : ℕ → Session → List (List ℕ) → Ran → Type 0
Stops room s ls d =
    ((d.ending ≡ Complete) × (d.answered ≡ length ls))
    ⊎ ((d.ending ≡ Full) × (d.answered < length ls) × (room < length (answer_lines (answers s (take (suc d.answered) ls)))))

answers_first : (s : Session) (l : List ℕ) (ls : List (List ℕ)) (n : ℕ) →
    length (answer_lines (answers s (take (suc n) (l ∷ ls))))
    ≡ length (answer_line (step s l)) + length (answer_lines (answers (step s l).session (take n ls)))
unfolding answers answer_lines answer_line
answers_first s l ls n = length-append (answer_line (step s l)) (answer_lines (answers (step s l).session (take n ls)))

line_stops : (room : ℕ) (s : Session) (l : List ℕ) (ls : List (List ℕ)) (d : Ran) (b : Bool) →
    leb (length (answer_line (step s l))) room ≡ b → Stops (room - length (answer_line (step s l))) (step s l).session ls d →
    Stops room s (l ∷ ls) (cond b (one_more (answer_line (step s l)) d) (answers_none Full))
unfolding one_more answers_none
line_stops room s l ls d true e (inl (p, q)) = inl (p, ap suc q)
line_stops room s l ls d true e (inr (p, q, r)) =
    let h = leb-true (length (answer_line (step s l))) room e in
    let t = answers_first s l ls (suc d.answered) in
    inr (p, omega arith, omega arith)
line_stops room s l ls d false e w =
    let h = leb-false (length (answer_line (step s l))) room e in
    let t = answers_first s l ls 0 in
    inr (refl, omega arith, omega arith)

pub run_stops : (room : ℕ) (s : Session) (ls : List (List ℕ)) → Stops room s ls (run_lines room s ls)
unfolding run_lines
run_stops room s [] = inl (refl, refl)
run_stops room s (l ∷ ls) =
    let text = answer_line (step s l) in
    line_stops room s l ls (run_lines (room - length text) (step s l).session ls) (leb (length text) room) refl
    (run_stops (room - length text) (step s l).session ls)

-- ---- the run

-- what holds of a run that is started and of one that is not
either : (P : Ran → Type 0) (z : Sizes) (script : List ℕ) → P (run_lines z.output empty_session (lines script)) →
    (leb (length script) max_script ≡ false → P (answers_none LongScript)) → (tables_suffice z ≡ false → P (answers_none ShortTable)) →
    P (run z script)
unfolding run
either P z script started long short = go (tables_suffice z) (leb (length script) max_script) refl refl
  where
    go : (a b : Bool) → tables_suffice z ≡ a → leb (length script) max_script ≡ b →
        P (cond a (cond b (run_lines z.output empty_session (lines script)) (answers_none LongScript)) (answers_none ShortTable))
    go true true e f = started
    go true false e f = long f
    go false b e f = short e

ends : (z : Sizes) (script : List ℕ) (d : Ran) → Stops z.output empty_session (lines script) d → Ends z script d.answered d.ending
unfolding Ends
ends z script d (inl (p, q)) = rw p q
ends z script d (inr (p, q, r)) = rw p (q, r)

pub run_claim : (z : Sizes) (script : List ℕ) → RunClaim z script
unfolding Ends answers_none answers answer_lines
run_claim z script =
    let ls = lines script in
    let started = run_lines z.output empty_session ls in
    record {
      ended =
          either (λ d. Ends z script d.answered d.ending) z script (ends z script started (run_stops z.output empty_session ls))
          (λ f. (refl, leb-false (length script) max_script f)) (λ f. (refl, f));
      written = either (Writes empty_session ls) z script (run_writes z.output empty_session ls) (λ f. refl) (λ f. refl);
      claim = claim (take (run z script).answered ls);
    }
