-- The laws of stores at this layer's table, and the set of them that says what a run of stores did.
use Rattle.shinri_core.proofs.Kit.{ℕ, ◌+◌, ◌≤◌, ◌<◌, ◌≡◌, List, T, leb, lit<, length, get_or}
use Rattle.shinri_core.specs.Memory.Words.{at, put, put_all, apart, one_of, Kept}
use Rattle.shinri_core.specs.Limits.{table_words}
use Rattle.shinri_core.specs.Memory.Table.{core_room}
use Rattle.shinri_core.proofs.Memory.Stores as Stores
use Rattle.shinri_core.proofs.Memory.Stores.{earlier, later, all_before}

pub other : (t : List ℕ) (b c x y v : ℕ) → T (apart core_room b c) → x < core_room b → y < core_room c → at (put t c y v) b x ≡ at t b x
other = Stores.other_region core_room

pub same : (t : List ℕ) (b x v : ℕ) → T (leb (b + core_room b) table_words) → table_words ≤ length t → x < core_room b →
    at (put t b x v) b x ≡ v
same = Stores.same_place core_room table_words

pub long : (t : List ℕ) (b x v : ℕ) → table_words ≤ length t → table_words ≤ length (put t b x v)
long = Stores.put_long core_room table_words

pub all_other : (t : List ℕ) (b c x y : ℕ) (vs : List ℕ) → T (apart core_room b c) → x < core_room b → y + length vs ≤ core_room c →
    at (put_all t c y vs) b x ≡ at t b x
all_other = Stores.all_other core_room

pub all_long : (t : List ℕ) (b x : ℕ) (vs : List ℕ) → table_words ≤ length t → table_words ≤ length (put_all t b x vs)
all_long = Stores.put_all_long core_room table_words

pub all_same : (t : List ℕ) (b x : ℕ) (vs : List ℕ) (k : ℕ) → T (leb (b + core_room b) table_words) → table_words ≤ length t →
    x + length vs ≤ core_room b → k < length vs → at (put_all t b x vs) b (x + k) ≡ get_or vs k 0
all_same = Stores.all_same core_room table_words

pub kept_none : (ws t : List ℕ) → Kept core_room ws t t
kept_none = Stores.kept_none core_room

pub kept_put : (ws t u : List ℕ) (c y v : ℕ) → T (one_of c ws) → y < core_room c → Kept core_room ws t u → Kept core_room ws t (put u c y v)
kept_put = Stores.kept_put core_room

pub kept_put_all : (ws t u : List ℕ) (c y : ℕ) (vs : List ℕ) → T (one_of c ws) → y + length vs ≤ core_room c → Kept core_room ws t u →
    Kept core_room ws t (put_all u c y vs)
kept_put_all = Stores.kept_put_all core_room

pub ruleset runs = (all_other, all_before, all_same, all_long)

pub ruleset keeps = (kept_none, kept_put, kept_put_all)

pub ruleset stores = (tt, lit<, other, earlier, later, same, long, runs, keeps)
