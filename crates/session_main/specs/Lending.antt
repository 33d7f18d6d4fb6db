-- How much may be lent.
use Rattle.std.specs.Prelude.{◌≤◌}
use Rattle.session_main.specs.declared.lending.Lent.{Lent}
use Rattle.session_main.specs.declared.lending.TheConstants.{MAX_WORDS}
use Rattle.session_main.specs.declared.list.TheConstants.{MAX_BYTES}

-- no more than the program has, and as many answers as a record may have
abbrev pub Fits : Lent → Type 0
Fits l =
    (l.script ≤ MAX_BYTES) × (l.core ≤ MAX_WORDS) × (l.theory ≤ MAX_WORDS) × (l.solver ≤ MAX_WORDS)
    × (l.output ≤ MAX_BYTES) × (l.want.written ≤ MAX_BYTES)
