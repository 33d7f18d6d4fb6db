-- The tables stay those of an open session, and the bytes written stay within the output. Each line takes a byte of the script.
use Rattle.std.proofs.Common.{◌+◌, ◌≤◌, length}
use Rattle.std.specs.Slice.Iter.{split_inclusive_rest}
use Rattle.session.specs.Memory.Kept.{tables, KeptSound}
use Rattle.session_main.proofs.lines.send_lines.Given as goal

abbrev pub invariant-loop-text : goal.invariant-loop-text
invariant-loop-text l = record {
  can_next : (goal.iterator-loop-text).can_next l.text-iterator;
  finite : (goal.iterator-loop-text).is_finite l.text-iterator;
  sound : KeptSound (tables l.c l.e l.s l.k);
  within : l.ran.written ≤ length l.out;
  counted : l.ran.answered + length (split_inclusive_rest l.text-iterator) ≤ length l.script;
}
