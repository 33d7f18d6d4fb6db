-- No zero stands before other digits, and what has none there is its digits.
use Rattle.shinri_core.proofs.Kit.{◌<◌, ◌≡◌, sym, ◌∙◌, arith, eqb-true, eqb-false, length, get_or}
use Rattle.session.specs.Memory.Numbers.{number_meaning}
use Rattle.session.proofs.Memory.Parsing.{number_empty, number_led, number_plain}
use Rattle.session.proofs.numbers.read_number.Goals as goal
use Rattle.session.proofs.numbers.read_number.Goals.{else-ds-gt1-via-then-ds-gt1+else-ds-eq48, else-ds-gt1-via-else-ds-gt1}

pub returns-then-is_empty : goal.returns-then-is_empty
unfolding number_meaning
returns-then-is_empty c = let ds = c.args.ds.now in sym (number_empty ds (eqb-true _ 0 (sym c.if-is_empty.ensures)))

pub returns-then-ds-eq48 : goal.returns-then-ds-eq48
unfolding number_meaning
returns-then-ds-eq48 c =
    let ds = c.args.ds.now in
    let two = c.if-ds-gt1.true in
    sym (number_led ds (omega arith) c.if-ds-eq48.true)

pub returns : goal.returns
returns c =
    let ds = c.args.ds.now in
    let plain : 1 < length ds → get_or ds 0 0 ≡ 48 → ⊥ =
    λ l e. elim c.else-ds-gt1.branch [
      | else-ds-gt1-via-then-ds-gt1+else-ds-eq48 w ↦ w.if-ds-eq48.false e
      | else-ds-gt1-via-else-ds-gt1 w ↦ omega (arith, w.if-ds-gt1.false)
    ] in
    c.read_digits.ensures ∙ sym (number_plain ds plain (eqb-false _ 0 (sym c.if-is_empty.ensures)))
