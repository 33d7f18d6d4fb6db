-- The laws of stores at the regions of the engine's table.
use Rattle.shinri_core.proofs.Kit.{ℕ, ◌+◌, ◌≤◌, ◌<◌, ◌≡◌, cond, List, T, eqb, leb, lit<, length}
use Rattle.shinri_core.specs.Memory.Words.{at, put, apart}
use Rattle.shinri_core.proofs.Memory.Stores.{other_region, same_place, same_region, put_long, length_put}
use Rattle.theory.specs.Memory.Table.{engine_size, engine_room}

pub other : (t : List ℕ) (b c x y v : ℕ) → T (apart engine_room b c) → x < engine_room b → y < engine_room c →
    at (put t c y v) b x ≡ at t b x
other = other_region engine_room

pub same : (t : List ℕ) (b x v : ℕ) → T (leb (b + engine_room b) engine_size) → engine_size ≤ length t → x < engine_room b →
    at (put t b x v) b x ≡ v
same = same_place engine_room engine_size

pub region : (t : List ℕ) (b x y v : ℕ) → T (leb (b + engine_room b) engine_size) → engine_size ≤ length t → x < engine_room b →
    at (put t b x v) b y ≡ cond (eqb y x) v (at t b y)
region = same_region engine_room engine_size

pub long : (t : List ℕ) (b x v : ℕ) → engine_size ≤ length t → engine_size ≤ length (put t b x v)
long = put_long engine_room engine_size

pub ruleset stores = (tt, lit<, other, same, region, long, length_put)
