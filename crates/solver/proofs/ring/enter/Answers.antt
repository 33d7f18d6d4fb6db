-- By the application of the field's class and its colour.
use Rattle.shinri_core.proofs.Kit.{ℕ, suc, ◌+◌, ◌≤◌, ◌<◌, ◌≡◌, refl, rules, arith}
use Rattle.solver.proofs.Memory.Blocks.{in_check}
use Rattle.solver.proofs.Memory.RingSteps.{enters_nothing, app_below, enters_path, enters_finished, enters_room, enters_new, enters_lighter}
use Rattle.solver.proofs.ring.enter.Goals as goal

lt-le : {a b : ℕ} → a < b → a ≤ b
lt-le h = omega arith

pub overflow_add-result : goal.overflow_add-result
overflow_add-result c =
    let sound = c.requires.0 in
    let room =
    enters_room c.ctor_of_class.ensures c.in-Some.is _ _ _ sound.making.core c.requires.1
    c.get_at-colour.ensures.0 c.if-colour-eq-ON_PATH.false c.if-colour-eq-FINISHED.false sound.done sound.walking in
    omega arith

pub ctor_of_class-requires : goal.ctor_of_class-requires
ctor_of_class-requires c = in_check (search rules)

pub get_at-colour-requires : goal.get_at-colour-requires
get_at-colour-requires c =
    let sound = c.requires.0 in
    let below = app_below c.ctor_of_class.ensures c.in-Some.is in
    omega (arith, below, sound.walking.long, sound.making.core.term_count, sound.making.core.terms_fit)

pub returns-then-colour-eq-ON_PATH : goal.returns-then-colour-eq-ON_PATH
returns-then-colour-eq-ON_PATH c = (
  refl,
  refl,
  refl,
  enters_path c.ctor_of_class.ensures c.in-Some.is _ _ _ c.requires.0.making.core c.requires.1
      c.get_at-colour.ensures.0 c.if-colour-eq-ON_PATH.true,
)

pub returns-then-colour-eq-FINISHED : goal.returns-then-colour-eq-FINISHED
returns-then-colour-eq-FINISHED c = (
  omega arith,
  enters_finished c.ctor_of_class.ensures c.in-Some.is _ _ _ c.requires.0.making.core
      c.get_at-colour.ensures.0 c.if-colour-eq-ON_PATH.false c.if-colour-eq-FINISHED.true,
)

pub push-requires : goal.push-requires
push-requires c =
    let sound = c.requires.0 in
    record {
      core = sound.making.core;
      within = app_below c.ctor_of_class.ensures c.in-Some.is;
      room = enters_room c.ctor_of_class.ensures c.in-Some.is _ _ _ sound.making.core c.requires.1
          c.get_at-colour.ensures.0 c.if-colour-eq-ON_PATH.false c.if-colour-eq-FINISHED.false sound.done sound.walking;
      long = sound.walking.long;
    }

pub returns-in-None : goal.returns-in-None
returns-in-None c = (omega arith, enters_nothing c.ctor_of_class.ensures _ _ c.in-None.is)

pub returns-else-colour-eq-FINISHED : goal.returns-else-colour-eq-FINISHED
returns-else-colour-eq-FINISHED c =
    let sound = c.requires.0 in
    let next : c.args.n + 1 ≡ suc c.args.n = omega arith in
    rw next (
      lt-le (enters_lighter c.ctor_of_class.ensures c.in-Some.is _ _ _ sound.making.core c.requires.1
          c.get_at-colour.ensures.0 c.if-colour-eq-ON_PATH.false c.if-colour-eq-FINISHED.false _ c.push.ensures sound.done sound.walking),
      enters_new c.ctor_of_class.ensures c.in-Some.is _ _ _ sound.making.core c.requires.1
          c.get_at-colour.ensures.0 c.if-colour-eq-ON_PATH.false c.if-colour-eq-FINISHED.false _ c.push.ensures,
    )
