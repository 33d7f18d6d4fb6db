-- The laws of stores at the regions of the solver's table.
use Rattle.shinri_core.proofs.Kit.{ℕ, ◌+◌, ◌≤◌, ◌<◌, ◌≡◌, cond, List, T, eqb, leb, lit<, length}
use Rattle.shinri_core.specs.Limits.{table_words}
use Rattle.shinri_core.specs.Memory.Words.{at, put, apart, one_of, Kept}
use Rattle.shinri_core.proofs.Memory.Stores as Stores
use Rattle.shinri_core.proofs.Memory.Stores.{other_region, same_place, same_region, put_long, length_put}
use Rattle.solver.specs.Memory.Table.{solver_room}

pub other : (t : List ℕ) (b c x y v : ℕ) → T (apart solver_room b c) → x < solver_room b → y < solver_room c →
    at (put t c y v) b x ≡ at t b x
other = other_region solver_room

pub same : (t : List ℕ) (b x v : ℕ) → T (leb (b + solver_room b) table_words) → table_words ≤ length t → x < solver_room b →
    at (put t b x v) b x ≡ v
same = same_place solver_room table_words

pub region : (t : List ℕ) (b x y v : ℕ) → T (leb (b + solver_room b) table_words) → table_words ≤ length t → x < solver_room b →
    at (put t b x v) b y ≡ cond (eqb y x) v (at t b y)
region = same_region solver_room table_words

pub long : (t : List ℕ) (b x v : ℕ) → table_words ≤ length t → table_words ≤ length (put t b x v)
long = put_long solver_room table_words

pub kept_none : (ws t : List ℕ) → Kept solver_room ws t t
kept_none = Stores.kept_none solver_room

pub kept_put : (ws t u : List ℕ) (c y v : ℕ) → T (one_of c ws) → y < solver_room c → Kept solver_room ws t u →
    Kept solver_room ws t (put u c y v)
kept_put = Stores.kept_put solver_room

pub ruleset stores = (tt, lit<, other, same, region, long, length_put, kept_none, kept_put)
