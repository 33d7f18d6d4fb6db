-- The laws of stores at the regions of the walk's table.
use Rattle.shinri_core.proofs.Kit.{ℕ, ◌+◌, ◌≤◌, ◌<◌, ◌≡◌, cond, List, T, eqb, leb, lit<, length}
use Rattle.shinri_core.specs.Memory.Words.{at, put, apart}
use Rattle.shinri_core.proofs.Memory.Stores.{other_region, same_place, same_region, put_long}
use Rattle.solver.specs.Memory.Walking.{ring_size, ring_room}

pub other : (t : List ℕ) (b c x y v : ℕ) → T (apart ring_room b c) → x < ring_room b → y < ring_room c →
    at (put t c y v) b x ≡ at t b x
other = other_region ring_room

pub same : (t : List ℕ) (b x v : ℕ) → T (leb (b + ring_room b) ring_size) → ring_size ≤ length t → x < ring_room b →
    at (put t b x v) b x ≡ v
same = same_place ring_room ring_size

pub region : (t : List ℕ) (b x y v : ℕ) → T (leb (b + ring_room b) ring_size) → ring_size ≤ length t → x < ring_room b →
    at (put t b x v) b y ≡ cond (eqb y x) v (at t b y)
region = same_region ring_room ring_size

pub long : (t : List ℕ) (b x v : ℕ) → ring_size ≤ length t → ring_size ≤ length (put t b x v)
long = put_long ring_room ring_size

pub ruleset stores = (tt, lit<, other, same, region, long)
