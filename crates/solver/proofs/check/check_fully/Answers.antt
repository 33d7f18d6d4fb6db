-- By whether a constructor application may be marked, and whether a tester was asserted.
use Rattle.solver.proofs.check.check_fully.Goals as goal

pub check_watched-requires : goal.check_watched-requires
check_watched-requires c =
    let z = c.requires in
    record {
      state = z.0;
      apps = c.has_app.ensures c.if-not-has_app.true;
      lasting = c.has_lasting.ensures c.if-not-has_lasting.true;
      long = z.1;
    }
