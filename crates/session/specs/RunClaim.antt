-- Demand 3 about the run: for every script and every size of lent memory, the bytes written are the answer lines of the script's first
-- lines, as many as were answered, and the claim holds of these lines and answers.
use Rattle.std.specs.Prelude.{ℕ, suc, ◌<◌, ◌≡◌, false, List, [], ◌∷◌, ◌++◌, length, take}
use Rattle.shinri_core.specs.Limits.{max_script}
use Rattle.session.specs.Text.{LF, lines}
use Rattle.session.specs.Answer.{Answer, answer_text}
use Rattle.session.specs.Session.{Session, empty_session, step}
use Rattle.session.specs.Run.{Sizes, Ending, Complete, ShortTable, LongScript, Full, tables_suffice, run}
use Rattle.session.specs.Claim.{Claim}

-- the answers of lines, each working on the session that the line before left: those of which `ClaimFrom` speaks
unfoldable pub answers : Session → List (List ℕ) → List Answer
answers s [] = []
answers s (line ∷ rest) = (step s line).answer ∷ answers (step s line).session rest

-- their answer lines, with an LF each
unfoldable pub answer_lines : List Answer → List ℕ
answer_lines [] = []
answer_lines (a ∷ as') = answer_text a ++ (LF ∷ []) ++ answer_lines as'

-- the lines that a run answered: the first of the script
abbrev pub lines_answered : Sizes → List ℕ → List (List ℕ)
lines_answered z script = take (run z script).answered (lines script)

-- What an ending says: all lines are answered; a table is short, or the script is long, and none is; or the answer line of the next one
-- does not fit what is left of the output.
unfoldable pub Ends : Sizes → List ℕ → ℕ → Ending → Type 0
Ends z script n Complete = n ≡ length (lines script)
Ends z script n ShortTable = (n ≡ 0) × (tables_suffice z ≡ false)
Ends z script n LongScript = (n ≡ 0) × (max_script < length script)
Ends z script n Full =
    (n < length (lines script)) × (z.output < length (answer_lines (answers empty_session (take (suc n) (lines script)))))

-- stated of each size z and script; proved in proofs/RunClaim.antt
pub record RunClaim (z : Sizes) (script : List ℕ) : Type 1 where
  pub ended : Ends z script (run z script).answered (run z script).ending
  pub written : (run z script).written ≡ answer_lines (answers empty_session (lines_answered z script))
  pub claim : Claim (lines_answered z script)
