-- Answers and refusals, and 01's text and number for each.
use Rattle.std.specs.Prelude.{ℕ, List, ◌++◌, map}
use Rattle.theory.specs.Types.{EqLeaf, AssertedLeaf, InterfaceLeaf}
use Rattle.solver.specs.Rules.{Phase, Positive, NoPhase, TCheck, Sat, Conflict, Split, Unknown}
use Rattle.session.specs.Text.{bytes, comma, joined, decimal}

-- a no to one of the questions of a line
pub data Refusal : Type 0 where
  Unreadable Misplaced Missing Disagreeing Registered NotEquation NotDisequality NotCongruent NotGrounded NoRoom : Refusal

-- the number of the question
unfoldable pub question : Refusal → ℕ
question Unreadable = 3
question Misplaced = 4
question Missing = 5
question Disagreeing = 6
question Registered = 7
question NotEquation = 8
question NotDisequality = 13
question NotCongruent = 9
question NotGrounded = 10
question NoRoom = 11

pub data Answer : Type 0 where
  Ok : Answer
  TermIs : (t : ℕ) → Answer
  Checked : TCheck → Answer
  Refused : Refusal → Answer

-- `a` literal or `i` theory `.` tag
unfoldable pub leaf_text : EqLeaf → List ℕ
leaf_text (AssertedLeaf l) = bytes "a" ++ decimal l
leaf_text (InterfaceLeaf h g) = bytes "i" ++ decimal h ++ bytes "." ++ decimal g

-- phase `1` or `-`
unfoldable pub phase_text : Phase → List ℕ
phase_text Positive = bytes "1"
phase_text NoPhase = bytes "-"

unfoldable pub check_text : TCheck → List ℕ
check_text Sat = bytes "sat=1"
check_text (Conflict ls) = bytes "conflict=" ++ joined comma (map leaf_text ls)
check_text (Split atoms guards phases) =
    bytes "split=" ++ joined comma (map decimal atoms) ++ bytes ";" ++ joined comma (map decimal guards) ++ bytes ";"
    ++ joined comma (map phase_text phases)
check_text Unknown = bytes "unknown=1"

unfoldable pub answer_text : Answer → List ℕ
answer_text Ok = bytes "ok=1"
answer_text (TermIs t) = bytes "term=" ++ decimal t
answer_text (Checked c) = check_text c
answer_text (Refused r) = bytes "refused=" ++ decimal (question r)

unfoldable pub answer_definitions : Unit {0}
unfolding question leaf_text phase_text check_text answer_text
answer_definitions = tt
