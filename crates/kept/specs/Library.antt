-- What the library says of itself to callers in other languages (include/robinlocker.h).
use Rattle.std.specs.Prelude.{ℕ, List, [], ◌∷◌, get_or}
use Rattle.shinri_core.specs.Limits.{max_sorts, max_symbols, max_terms, max_places, max_pairs, max_levels, max_vars, table_words, max_script}
use Rattle.session.specs.Memory.Answers.{longest_answer}
use Rattle.session.specs.Memory.Commands.{max_numbers}
use Rattle.kept.specs.Memory.Kept.{kept_words}

-- the limits in the order of their names
unfoldable pub limits : List ℕ
limits =
    table_words ∷ kept_words ∷ max_script ∷ longest_answer ∷ max_sorts ∷ max_symbols ∷ max_terms ∷ max_places ∷ max_pairs ∷ max_levels
    ∷ max_vars ∷ max_numbers ∷ []

-- 0 if there is no such name
unfoldable pub limit : ℕ → ℕ
limit name = get_or limits name 0
