use Rattle.shinri_core.proofs.Kit.{◌||◌, eqb, rules, arith}
use Rattle.shinri_core.specs.Memory.Words.{at}
use Rattle.solver.specs.Memory.Table.{MARK}
use Rattle.solver.proofs.Memory.Watching.{watches}
use Rattle.solver.proofs.exhaustiveness.has_watched_term.Goals as goal

pub returns : goal.returns
returns c =
    watches c.lowest_asking.result (omega (arith, c.requires.0.term_count, c.requires.0.terms_fit))
    (c.lowest_asking.ensures.found (λ x. eqb (at c.args.s.now MARK x) 3 || eqb (at c.args.s.now MARK x) 5) (λ x b h q. search rules))
