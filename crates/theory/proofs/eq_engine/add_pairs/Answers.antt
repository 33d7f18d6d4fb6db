-- Each turn has the next number of either list.
use Rattle.shinri_core.proofs.Kit.{◌≡◌, ◌<◌, length, length-append, zero-add, arith, rules}
use Rattle.std.proofs.lemmas.Slice.Zip.{zip_turn, zip_end}
use Rattle.shinri_core.specs.Memory.Words.{at}
use Rattle.theory.proofs.Memory.PairIndex.{adding_first, addable, adding_next, adding_done}
use Rattle.theory.proofs.eq_engine.add_pairs.Goals as goal
use Rattle.theory.proofs.eq_engine.add_pairs.Goals.{In-Some}

turn : (c : In-Some) →
    let i = length c.loop-x.yielded in
    (i < length c.args.xs.now) × (c.in-Some.x.now ≡ at c.args.xs.now 0 i) × (c.in-Some.y.now ≡ at c.args.ys.now 0 i)
unfolding at
turn c =
    let z = zip_turn c.args.xs.now c.args.ys.now c.loop-x.yielded c.into_iter-x-iterator.result c.loop-x.x-iterator c.next.new.self
    c.next.result (search rules) (search rules) c.loop-x.yielded_by (c.in-Some.x, c.in-Some.y) (search rules) c.next.ensures.steps in
    (z.0, rw zero-add (z.2 0), rw zero-add (z.3 0))

pub loop-x-init : goal.loop-x-init
loop-x-init c = search (rules, adding_first)

pub add_pair-requires : goal.add_pair-requires
add_pair-requires c = let z = turn (goal.at.add_pair-requires c).In-Some in addable c.loop-x.invariant.0 z.0 z.1 z.2

pub loop-x-preserved : goal.loop-x-preserved
loop-x-preserved c =
    let z = turn (goal.at.loop-x-preserved c).In-Some in
    let next = adding_next c.loop-x.invariant.0 z.0 z.1 z.2 c.add_pair.ensures in
    (rw length-append next, search rules, search rules)

pub returns : goal.returns
returns c =
    let e = zip_end c.args.xs.now c.args.ys.now c.loop-x.yielded c.into_iter-x-iterator.result c.loop-x.x-iterator c.next.new.self
    c.next.result (search rules) (search rules) c.loop-x.yielded_by (search rules) c.next.ensures.steps in
    let n = c.requires.same_count in
    adding_done c.loop-x.invariant.0 (omega arith)
