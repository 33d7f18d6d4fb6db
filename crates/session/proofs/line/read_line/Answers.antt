-- The first equals sign parts key and value, and stands among the first seven bytes.
use Rattle.shinri_core.proofs.Kit.{refl, sym}
use Rattle.session.specs.Line.{known, read_parts, read_line}
use Rattle.session.proofs.Memory.Splitting.{head_parted, head_unread}
use Rattle.session.proofs.line.read_line.Goals as goal

pub returns-in_default : goal.returns-in_default
returns-in_default c = record { is = sym (head_unread c.key_room.ensures (rw c.in_default.is at c.first_byte.ensures)); fits = tt }

pub returns-in_default-read_key : goal.returns-in_default-read_key
unfolding known read_parts read_line
returns-in_default-read_key c =
    rw (head_parted c.key_room.ensures (rw c.in-Some.is at c.first_byte.ensures), c.in_default-read_key.ensures)
    (record { is = refl; fits = tt })

pub returns : goal.returns
unfolding known read_parts read_line
returns c =
    rw (head_parted c.key_room.ensures (rw c.in-Some.is at c.first_byte.ensures), c.in-Some-read_key.ensures) c.by_value.ensures
