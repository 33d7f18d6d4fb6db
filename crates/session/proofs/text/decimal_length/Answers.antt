-- One, or as many as the logarithm says.
use Rattle.shinri_core.proofs.Kit.{ap, sym, arith, length}
use Rattle.session.proofs.Memory.Digits.{decimal_digit, digits_counted, ten_counted}
use Rattle.session.proofs.text.decimal_length.Goals as goal

pub returns-then-n-lt10 : goal.returns-then-n-lt10
returns-then-n-lt10 c = (sym (ap length (decimal_digit c.args.n c.if-n-lt10.true)), omega arith)

pub returns : goal.returns
returns c =
    let log = c.checked_ilog10.ensures in
    rw c.unwrap_or.ensures (digits_counted c.args.n c.checked_ilog10.result log.none log.power_le log.next_power_gt, ten_counted _ log.bound)
