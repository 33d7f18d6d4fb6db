-- At the exit of a `?`: what is returned is the refusal, which has one value.
use Rattle.shinri_core.proofs.Kit.{ℕ, ◌≡◌, refl, false≢true, arith}
use Rattle.std.specs.Prelude.{Result, Ok, Err, IsErr}
use Rattle.shinri_core.specs.declared.limits.NoRoom.{NoRoom}

pub no_room : {T : Type 0} (r : Result T NoRoom) → IsErr r → r ≡ Err (record {})
no_room (Ok x) h = absurd (false≢true h)
no_room (Err n) h = refl

pub err_not_ok : {T : Type 0} {x : T} {n : NoRoom} → Err n ≡ Ok x → ⊥
err_not_ok q = let z : ◌≡◌ {A = ℕ} 0 1 = cc in omega arith
