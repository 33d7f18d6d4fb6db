-- Every signature that `close` accepts has a reading: one element for every other sort, every function and every selector on
-- foreign constructors gives a fixed value of its sort, and a datatype's is the finite tree that the rounds of question 10 built.
use Rattle.shinri_core.proofs.Kit.{ℕ, refl, true, T}
use Rattle.shinri_core.specs.Context.{Context, symbol, all_grounded}
use Rattle.shinri_core.specs.Reading.{Value, HasSort, Reading}
use Rattle.shinri_core.proofs.Inhabited.{sorted_value}

-- the one element
abbrev One : Type 0
One = Unit {0}

abbrev everything : ℕ → One → Type 0
everything s e = Unit {0}

module _ (cx : Context) where
  value_of_sort : T (all_grounded cx) → (s : ℕ) → (v : Value One) × HasSort cx everything v s
  value_of_sort = sorted_value cx everything (λ s t. (tt, tt))

  -- Nothing is claimed of an empty class of readings.
  pub has_reading : T (all_grounded cx) → Reading cx
  has_reading g = record {
    Element = One;
    same = λ x y. true;
    same_is_equal = λ x y. (λ t. refl, λ e. tt);
    domain = everything;
    inhabitant = λ s t. (tt, tt);
    function = λ f vs. (value_of_sort g (symbol cx f).result).0;
    function_sorted = λ f vs t h. (value_of_sort g (symbol cx f).result).1;
    foreign = λ f vs. (value_of_sort g (symbol cx f).result).0;
    foreign_sorted = λ f vs t h. (value_of_sort g (symbol cx f).result).1;
  }
