-- What `all` says of each number.
use Rattle.std.proofs.Common.{rules}
use Rattle.session.proofs.Memory.Questions.{below_each}
use Rattle.session.proofs.questions.all_below.Goals as goal

pub returns : goal.returns
returns c = below_each c.args.n c.args.xs.now _ (search rules)
