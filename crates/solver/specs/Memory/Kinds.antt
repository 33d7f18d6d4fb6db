-- The kinds of marks, as words of a table.
use Rattle.std.specs.Prelude.{ℕ, Option, Some, None}
use Rattle.solver.specs.declared.layout.Kind.{Kind}
use Rattle.solver.specs.declared.layout.Kind.TheVariants.{CtorApp, SelApp, DtSelApp, TesterApp, DtFunApp}

-- the word of a mark, 0 of a term that is not to be marked
abbrev pub mark_word : Option Kind → ℕ
mark_word None = 0
mark_word (Some CtorApp) = 1
mark_word (Some SelApp) = 2
mark_word (Some DtSelApp) = 3
mark_word (Some TesterApp) = 4
mark_word (Some DtFunApp) = 5
