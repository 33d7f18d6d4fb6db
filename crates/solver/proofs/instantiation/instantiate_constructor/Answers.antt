use Rattle.shinri_core.proofs.Kit.{refl, arith}
use Rattle.solver.proofs.Memory.Instantiating.{go_first, go_asked, go_next, go_answer, go_done}
use Rattle.solver.proofs.Memory.NoRooms.{no_room}
use Rattle.solver.proofs.Memory.Trying.{err_not_sat, is_sat, is_answer}
use Rattle.solver.proofs.instantiation.instantiate_constructor.Goals as goal

pub loop-x-init : goal.loop-x-init
loop-x-init c = go_first _ _ c.requires.0

pub instantiate_lasting-requires : goal.instantiate_lasting-requires
instantiate_lasting-requires c =
    go_asked c.loop-x.invariant c.term_count-x-end.ensures.0 c.term_count-x-end.ensures.1 (omega arith)
    c.requires.1

pub returns-in_err-r : goal.returns-in_err-r
returns-in_err-r c =
    rw (no_room c.from_residual.result c.from_residual.ensures.0)
    (go_answer c.loop-x.invariant c.term_count-x-end.ensures.0 c.term_count-x-end.ensures.1 (omega arith)
    c.in_err-r.ensures (err_not_sat refl))

pub returns-then-ne : goal.returns-then-ne
returns-then-ne c =
    go_answer c.loop-x.invariant c.term_count-x-end.ensures.0 c.term_count-x-end.ensures.1 (omega arith)
    c.in_ok-r.ensures (is_answer _ c.ne.ensures c.if-ne.true)

pub loop-x-preserved : goal.loop-x-preserved
loop-x-preserved c =
    go_next c.loop-x.invariant c.term_count-x-end.ensures.0 c.term_count-x-end.ensures.1 (omega arith)
    c.in_ok-r.ensures (is_sat _ c.ne.ensures c.if-ne.false) c.instantiate_lasting.auto.t c.instantiate_lasting.auto.w c.instantiate_lasting.auto.out

pub returns : goal.returns
returns c =
    go_done c.loop-x.invariant c.term_count-x-end.ensures.0 c.term_count-x-end.ensures.1
    c.requires.0 (omega arith)
