-- The laws of stores at the regions of a split in the answer table.
use Rattle.shinri_core.proofs.Kit.{ℕ, ◌+◌, ◌≤◌, ◌<◌, ◌≡◌, cond, List, T, eqb, leb, lit<, length}
use Rattle.shinri_core.specs.Memory.Words.{at, put, apart}
use Rattle.shinri_core.proofs.Memory.Stores.{other_region, same_place, same_region, put_long, length_put}
use Rattle.theory.specs.Memory.Answer.{answer_size}
use Rattle.solver.specs.Memory.Answer.{split_room}

pub other : (t : List ℕ) (b c x y v : ℕ) → T (apart split_room b c) → x < split_room b → y < split_room c →
    at (put t c y v) b x ≡ at t b x
other = other_region split_room

pub same : (t : List ℕ) (b x v : ℕ) → T (leb (b + split_room b) answer_size) → answer_size ≤ length t → x < split_room b →
    at (put t b x v) b x ≡ v
same = same_place split_room answer_size

pub region : (t : List ℕ) (b x y v : ℕ) → T (leb (b + split_room b) answer_size) → answer_size ≤ length t → x < split_room b →
    at (put t b x v) b y ≡ cond (eqb y x) v (at t b y)
region = same_region split_room answer_size

pub long : (t : List ℕ) (b x v : ℕ) → answer_size ≤ length t → answer_size ≤ length (put t b x v)
long = put_long split_room answer_size

pub ruleset stores = (tt, lit<, other, same, region, long, length_put)
