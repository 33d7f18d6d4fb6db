-- The newest application is finished where no field is left; else the next field is tried.
use Rattle.shinri_core.proofs.Kit.{rules, arith}
use Rattle.solver.proofs.Memory.Rings.{path_fits}
use Rattle.solver.proofs.Memory.RingSteps.{top_within, left_within, field_below, finish_lighter, finish_goes, next_walking, next_outcome}
use Rattle.solver.proofs.ring.advance.Goals as goal

pub get_at-app-requires : goal.get_at-app-requires
get_at-app-requires c =
    let sound = c.requires.0 in
    omega (arith, path_fits sound.walking, sound.walking.long, sound.making.core.term_count, sound.making.core.terms_fit)

pub get_at-left-requires : goal.get_at-left-requires
get_at-left-requires c =
    let sound = c.requires.0 in
    omega (arith, path_fits sound.walking, sound.walking.long, sound.making.core.term_count, sound.making.core.terms_fit)

pub put_at-requires : goal.put_at-requires
put_at-requires c =
    let sound = c.requires.0 in
    let core = sound.making.core in
    let below = top_within core c.requires.1 c.get_at-app.ensures.0 c.get_at-left.ensures.0 sound.walking in
    (omega (arith, below, sound.walking.long, core.term_count, core.terms_fit), search rules)

pub returns-then-left-eq0 : goal.returns-then-left-eq0
returns-then-left-eq0 c =
    let sound = c.requires.0 in
    let core = sound.making.core in (
      finish_lighter core c.requires.1 c.get_at-app.ensures.0 c.get_at-left.ensures.0 c.if-left-eq0.true
          c.put_at.ensures sound.done sound.walking,
      finish_goes core c.requires.1 c.get_at-app.ensures.0 c.get_at-left.ensures.0 c.if-left-eq0.true
          c.put_at.ensures,
    )

pub put_at-requires-2 : goal.put_at-requires-2
put_at-requires-2 c =
    let sound = c.requires.0 in
    let core = sound.making.core in (
      omega (arith, path_fits sound.walking, sound.walking.long, core.term_count, core.terms_fit),
      omega (arith, c.get_at-left.ensures.1),
    )

pub children-fields-requires : goal.children-fields-requires
children-fields-requires c =
    let sound = c.requires.0 in
    let core = sound.making.core in
    (core, top_within core c.requires.1 c.get_at-app.ensures.0 c.get_at-left.ensures.0 sound.walking)

pub bounds-fields-left : goal.bounds-fields-left
bounds-fields-left c =
    let sound = c.requires.0 in
    let core = sound.making.core in
    let within = left_within core c.requires.1 c.get_at-app.ensures.0 c.get_at-left.ensures.0 sound.walking in
    rw c.children-fields.ensures (omega (arith, within, c.if-left-eq0.false))

pub try_field-requires : goal.try_field-requires
try_field-requires c =
    let sound = c.requires.0 in
    let core = sound.making.core in (
      record {
        making = sound.making;
        done = sound.done;
        walking = next_walking core c.requires.1 c.get_at-app.ensures.0 c.get_at-left.ensures.0 c.if-left-eq0.false
            c.put_at-2.ensures sound.done sound.walking;
      },
      field_below core c.requires.1 c.get_at-app.ensures.0 c.get_at-left.ensures.0 sound.walking
          sound.making.formed c.if-left-eq0.false _ c.children-fields.ensures,
    )

pub returns : goal.returns
returns c =
    let sound = c.requires.0 in
    next_outcome sound.making.core c.requires.1 c.get_at-app.ensures.0 c.get_at-left.ensures.0 c.if-left-eq0.false
    c.put_at-2.ensures c.args.w.now _ c.children-fields.ensures c.try_field.result
    c.try_field.new.r c.try_field.ensures sound.done sound.walking
