-- By the digit.
use Rattle.shinri_core.proofs.Kit.{◌≡◌, arith, refl}
use Rattle.shinri_core.specs.Memory.Table.{digit}
use Rattle.shinri_core.proofs.context.digit.Goals as goal

pub returns-in-0 : goal.returns-in-0
unfolding digit
returns-in-0 c = rw c.in-0.is refl

pub returns-in-1 : goal.returns-in-1
unfolding digit
returns-in-1 c = rw c.in-1.is refl

pub returns-in-2 : goal.returns-in-2
unfolding digit
returns-in-2 c = rw c.in-2.is refl

pub returns-in_default : goal.returns-in_default
unfolding digit
returns-in_default c = let e : c.args.d ≡ 3 = omega (arith, c.in_default) in rw e refl
