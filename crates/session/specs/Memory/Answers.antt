-- What the code's answers mean, beside the answer table, and what printing one promises.
use Rattle.std.specs.Prelude.{ℕ, zero, suc, ◌+◌, ◌*◌, ◌≤◌, ◌≡◌, List, [], ◌∷◌, ◌++◌, map, length, Result, Ok, Err}
use Rattle.std.proofs.lemmas.List.Edits.{sets}
use Rattle.shinri_core.specs.Limits.{max_terms}
use Rattle.theory.specs.Memory.Answer.{leaves, LeavesSound}
use Rattle.solver.specs.Rules as Rules
use Rattle.solver.specs.Memory.Answer.{split_atoms, split_guard, split_phases, listed, split_of, SplitSound}
use Rattle.session.specs.Text.{LF, bytes, comma, joined, decimal}
use Rattle.session.specs.Answer as Answer
use Rattle.session.specs.Answer.{Answer, leaf_text, phase_text, check_text, answer_text}
use Rattle.session.specs.declared.answer.Refusal as GivenRefusal
use Rattle.session.specs.declared.answer.Answer as Given

unfoldable pub refusal_meaning : GivenRefusal.Refusal → Answer.Refusal
refusal_meaning GivenRefusal.TheVariants.Unreadable = Answer.Unreadable
refusal_meaning GivenRefusal.TheVariants.Misplaced = Answer.Misplaced
refusal_meaning GivenRefusal.TheVariants.Missing = Answer.Missing
refusal_meaning GivenRefusal.TheVariants.Disagreeing = Answer.Disagreeing
refusal_meaning GivenRefusal.TheVariants.Registered = Answer.Registered
refusal_meaning GivenRefusal.TheVariants.NotEquation = Answer.NotEquation
refusal_meaning GivenRefusal.TheVariants.NotDisequality = Answer.NotDisequality
refusal_meaning GivenRefusal.TheVariants.NotCongruent = Answer.NotCongruent
refusal_meaning GivenRefusal.TheVariants.NotGrounded = Answer.NotGrounded
refusal_meaning GivenRefusal.TheVariants.NoRoom = Answer.NoRoom

-- what the code says of a line: its answer, or a no to one of the questions
abbrev pub LineAnswer : Type 0
LineAnswer = Result Given.Answer GivenRefusal.Refusal

unfoldable pub answer_meaning : LineAnswer → List ℕ → Answer
answer_meaning (Ok Given.TheVariants.Ok) o = Answer.Ok
answer_meaning (Ok (Given.TheVariants.TermIs t)) o = Answer.TermIs t.0
answer_meaning (Ok Given.TheVariants.Sat) o = Answer.Checked Rules.Sat
answer_meaning (Ok Given.TheVariants.Conflict) o = Answer.Checked (Rules.Conflict (leaves o))
answer_meaning (Ok Given.TheVariants.Split) o = Answer.Checked (split_of o)
answer_meaning (Ok Given.TheVariants.Unknown) o = Answer.Checked Rules.Unknown
answer_meaning (Err r) o = Answer.Refused (refusal_meaning r)

-- the texts of what the code says, opened together
unfoldable pub texts_told : Unit {0}
unfolding answer_meaning answer_text check_text bytes
texts_told = tt

-- the answer table can be read
abbrev pub Printable : LineAnswer → List ℕ → Type 0
Printable (Ok Given.TheVariants.Ok) o = Unit {0}
Printable (Ok (Given.TheVariants.TermIs t)) o = Unit {0}
Printable (Ok Given.TheVariants.Sat) o = Unit {0}
Printable (Ok Given.TheVariants.Conflict) o = LeavesSound o
Printable (Ok Given.TheVariants.Split) o = SplitSound o
Printable (Ok Given.TheVariants.Unknown) o = Unit {0}
Printable (Err r) o = Unit {0}

-- a text stands at a place of a table of bytes, which is else as it was, and ends at r
pub record Written (b : List ℕ) (start : ℕ) (text b' : List ℕ) (r : ℕ) : Type 0 where
  pub bytes : b' ≡ sets b start text
  pub ends : r ≡ start + length text
  pub within : r ≤ length b

-- a text at a place of a table of bytes ends within it
abbrev pub Room : List ℕ → ℕ → List ℕ → Type 0
Room b start text = start + length text ≤ length b

-- what parts the i-th of a list from those before it
unfoldable pub parting : ℕ → List ℕ
parting zero = []
parting (suc i) = comma ∷ []

-- the lists of an answer
abbrev pub leaves_text : List ℕ → List ℕ
leaves_text o = joined comma (map leaf_text (leaves o))

abbrev pub atoms_text : List ℕ → List ℕ
atoms_text o = joined comma (map decimal (split_atoms o))

abbrev pub guards_text : List ℕ → List ℕ
guards_text o = joined comma (map decimal (listed (split_guard o)))

abbrev pub phases_text : List ℕ → List ℕ
phases_text o = joined comma (map phase_text (split_phases o))

-- no answer line is longer: `conflict=`, 1,024 leaves of at most 22 bytes with a comma each, LF
abbrev pub longest_answer : ℕ
longest_answer = 10 + 23 * max_terms

-- the answer line, with its LF
abbrev pub line_text : LineAnswer → List ℕ → List ℕ
line_text a o = answer_text (answer_meaning a o) ++ (LF ∷ [])
