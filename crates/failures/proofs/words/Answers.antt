-- `split_once` cuts at the first mark.
use Rattle.std.proofs.Common.{List, ℕ, inr, drop}
use Rattle.std.specs.Str.Pattern.{FindsText, SplitsAroundMatch}
use Rattle.failures.specs.Before.{IsBefore}
use Rattle.failures.proofs.words.Goals as goal

cut : (mark text front back : List ℕ) → SplitsAroundMatch (FindsText mark) text front back → IsBefore mark text front
cut mark text front back (i, j, (none, here), front_is, back_is, in_order, front_length, back_length) = record {
  begins = rw front_length front_is;
  none_earlier = λ k before (rest, at). none k (rw (← front_length) before) rest at;
  ends = inr (drop j text, rw front_length here.split);
}

pub returns-in-Some : goal.returns-in-Some
returns-in-Some c = cut _ _ _ _ c.in-Some.ensures.cases
