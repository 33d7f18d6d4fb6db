-- The names are the places of the list.
use Rattle.shinri_core.proofs.Kit.{refl, sym, arith, list_get_or_eq_default}
use Rattle.kept.specs.Library.{limits, limit}
use Rattle.kept_c.proofs.robinlocker_limit.Goals as goal

pub returns-then-i-lt12 : goal.returns-then-i-lt12
unfolding limit limits
returns-then-i-lt12 c = refl

pub returns : goal.returns
unfolding limit limits
returns c =
    let past = c.if-i-lt12.false in
    sym (list_get_or_eq_default limits 0 {n = c.args.name} (omega arith))
