-- With nothing on the path the term is passed over, or it is the path's first and the walk goes on from it.
use Rattle.solver.proofs.Memory.RingWalks.{watched_never, watched_sound, watched_walk}
use Rattle.solver.proofs.ring.walk_watched.Goals as goal

pub returns-in_err-n : goal.returns-in_err-n
returns-in_err-n c =
    watched_never c.args.t.now c.args.e.now c.args.w.now c.args.r.now c.args.x.0 _ c.enter.new.r c.in_err-n.ensures
    c.from_residual.result

pub walk-requires : goal.walk-requires
walk-requires c = watched_sound c.requires.0 c.args.x.0 _ c.enter.new.r c.in_ok-n.ensures

pub returns : goal.returns
returns c =
    watched_walk c.requires.0 c.args.x.0 _ c.enter.new.r c.in_ok-n.ensures c.walk.result c.walk.new.r c.walk.ensures
