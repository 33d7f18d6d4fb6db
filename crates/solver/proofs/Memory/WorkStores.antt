-- The laws of stores at the regions of the work table.
use Rattle.shinri_core.proofs.Kit.{ℕ, ◌+◌, ◌≤◌, ◌<◌, ◌≡◌, cond, List, T, eqb, leb, lit<, length}
use Rattle.shinri_core.specs.Memory.Words.{at, put, apart, one_of, Kept}
use Rattle.shinri_core.proofs.Memory.Stores as Stores
use Rattle.shinri_core.proofs.Memory.Stores.{other_region, same_place, same_region, put_long, length_put}
use Rattle.solver.specs.Memory.Work.{work_size, work_room}

pub other : (t : List ℕ) (b c x y v : ℕ) → T (apart work_room b c) → x < work_room b → y < work_room c →
    at (put t c y v) b x ≡ at t b x
other = other_region work_room

pub same : (t : List ℕ) (b x v : ℕ) → T (leb (b + work_room b) work_size) → work_size ≤ length t → x < work_room b →
    at (put t b x v) b x ≡ v
same = same_place work_room work_size

pub region : (t : List ℕ) (b x y v : ℕ) → T (leb (b + work_room b) work_size) → work_size ≤ length t → x < work_room b →
    at (put t b x v) b y ≡ cond (eqb y x) v (at t b y)
region = same_region work_room work_size

pub long : (t : List ℕ) (b x v : ℕ) → work_size ≤ length t → work_size ≤ length (put t b x v)
long = put_long work_room work_size

pub kept_none : (ws t : List ℕ) → Kept work_room ws t t
kept_none = Stores.kept_none work_room

pub kept_put : (ws t u : List ℕ) (c y v : ℕ) → T (one_of c ws) → y < work_room c → Kept work_room ws t u →
    Kept work_room ws t (put u c y v)
kept_put = Stores.kept_put work_room

pub ruleset stores = (tt, lit<, other, same, region, long, length_put, kept_none, kept_put)
