-- Only the key of a sort takes a letter.
use Rattle.shinri_core.proofs.Kit.{◌≤◌, sym, ◌∙◌, arith, length}
use Rattle.session.specs.Line.{by_value}
use Rattle.session.specs.Memory.Commands.{max_numbers, key_meaning}
use Rattle.session.proofs.Memory.Keys.{takes_numbers, numbers_read}
use Rattle.session.proofs.line.by_value.Goals as goal

pub returns-in-Sort : goal.returns-in-Sort
unfolding by_value
returns-in-Sort c = rw c.in-Sort.is (c.letter_sort.ensures _)

pub returns-in_default-read_numbers : goal.returns-in_default-read_numbers
returns-in_default-read_numbers c =
    record { is = sym (takes_numbers _ _ c.in_default.not-Sort ∙ c.in_default-read_numbers.ensures (key_meaning c.args.k)); fits = tt }

pub returns-in-Some : goal.returns-in-Some
returns-in-Some c =
    let ns = c.read_numbers.new.numbers in
    let kept = c.read_numbers.auto.numbers in
    let long : max_numbers ≤ length ns = omega (arith, c.requires) in
    let to = c.in-Some.ensures in
    rw (takes_numbers _ c.args.v.now c.in_default.not-Sort, numbers_read _ c.args.v.now ns to (omega (arith, to.most, long))) c.by_key.ensures
