-- The limits of the questions: those of 11, and what 1, 2, 3 and 5 ask.
use Rattle.std.specs.Prelude.{ℕ}

-- sorts, with Bool
abbrev pub max_sorts : ℕ
max_sorts = 64

abbrev pub max_symbols : ℕ
max_symbols = 512

abbrev pub max_terms : ℕ
max_terms = 1024

-- argument places of terms
abbrev pub max_places : ℕ
max_places = 4096

-- argument pairs in force
abbrev pub max_pairs : ℕ
max_pairs = 2048

-- open pushes
abbrev pub max_levels : ℕ
max_levels = 64

-- variables are numbered below it
abbrev pub max_vars : ℕ
max_vars = 1024

-- a line has at most 17 numbers, so a symbol has at most 16 parameters
abbrev pub max_params : ℕ
max_params = 16

-- theories of interface leaves are numbered below it
abbrev pub max_theories : ℕ
max_theories = 65536

-- words of a work table, or more
abbrev pub table_words : ℕ
table_words = 16384

abbrev pub max_script : ℕ
max_script = 65536
