-- The mark counts in a local can be lent, and what comes back can be read: machine value and record stand for each other.
use Prim.Native.Nat.{ℕ}
use mathlib.Core.List.{[], ◌∷◌, List}
use seplogic.Ra.Ura.{Ura}
use base.Fraction.{full_share}
use lib.Dec.{T as Holds}
use mir.Val.{Val, WT, has_ty}
use base.Logic.{ent, emp, guard}
use base.Fml.{fsep, fat}
use types.Logic.{Logic, sem}
use types.Kit.{‵, ◌$◌, ◌∵◌, !, qed, move, keep, use0, use1, fsplit, fjoin, fpick, fpack, check, done}
use denote.RattleType.{RattleType}
use denote.Laws.{Is, shows}
use denote.Memory.{part_at, part_of, cell_at}
use denote.Steps.{peeks}
use denote.Struct.Steps.{spelt}
use denote.Struct.Laws as LL
use Rattle.solver.specs.declared.levels.TesterMarks.{TesterMarks}
use Rattle.solver.specs.contracts.levels.TesterMarks as T
use Rattle.solver.proofs.levels.TesterMarks.TheLaws as T'

-- the counts' type, and their machine value
abbrev pub R : RattleType
R = T.the_row

abbrev pub mach : TesterMarks → Val
mach h = LL.val T.the_type T'.the_laws h

module _ {M : Type 1} {𝓤 : Ura M} (𝓛 : Logic 𝓤) (h : TesterMarks) where
  -- the machine value has the struct's MIR type
  pub counts_typed : Is R h (mach h ∷ []) → Holds (has_ty T'.mir (mach h)) × WT (mach h)
  counts_typed is = ((LL.lawful T.the_type T'.the_laws 𝓛).typed h (mach h ∷ []) is).0

  -- and what is owned of it is had for nothing
  pub counts_own : Is R h (mach h ∷ []) → ent 𝓤 (emp 𝓤) (sem 𝓛 (R.own_val h (mach h ∷ [])))
  counts_own is = LL.makes T.the_type T'.the_plain 𝓛 h (mach h ∷ []) is

  -- what lies in the local can be lent as the record
  pub lent_in : (b o : ℕ) → Is R h (mach h ∷ []) →
      ent 𝓤 (sem 𝓛 (fat full_share T'.mir b o (mach h))) (sem 𝓛 (part_at R full_share h b o))
  unfolding part_of
  lent_in b o is =
      qed 𝓛 (‵ (fat full_share T'.mir b o (mach h)) ∷ []) ∵
      use1 𝓛 (‵ (cell_at full_share R.mir (mach h ∷ []) b o)) (𝓛.laws.at_raw full_share T'.mir b o (mach h)) $
      use0 𝓛 (‵ (R.own_val h (mach h ∷ []))) (counts_own is) $ move ! (1 ∷ 0 ∷ []) $ fjoin ! $
      fpack ! (List Val) (λ us. fsep (cell_at full_share R.mir us b o) (R.own_val h us)) (mach h ∷ []) $ done !

  -- and the record that comes back lies in the local as its machine value
  pub lent_out : (b o : ℕ) → ent 𝓤 (sem 𝓛 (part_at R full_share h b o))
      (guard 𝓤 (Is R h (mach h ∷ [])) (sem 𝓛 (fat full_share T'.mir b o (mach h))))
  unfolding part_of
  lent_out b o =
      qed 𝓛 (‵ (part_at R full_share h b o) ∷ []) ∵ fpick ! (λ vs. fsplit ! $
      spelt ! R (Is R) (shows 𝓛 R) (LL.vals T.the_type T'.the_laws) (LL.tells T.the_type T'.the_laws) full_share h vs b o $
      move ! (1 ∷ []) $ peeks ! R (Is R) (shows 𝓛 R) h (mach h ∷ []) (λ is. keep ! (1 ∷ []) $
      use1 𝓛 (‵ (fat full_share T'.mir b o (mach h))) (𝓛.laws.raw_at full_share T'.mir b o (mach h)) $ check ! is $ done !))
