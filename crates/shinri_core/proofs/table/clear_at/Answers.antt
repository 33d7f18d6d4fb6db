-- What a part of the table holds is replaced.
use Rattle.shinri_core.proofs.Kit.{ℕ, ◌+◌, ◌-◌, ◌≡◌, sym, ap, ◌∙◌, arith, drop, length-drop, length-take-le, replicate}
use lib.ListN.{length-replicate}
use Rattle.shinri_core.proofs.Memory.Stores.{start_stored}
use Rattle.shinri_core.proofs.table.clear_at.Goals as goal

pub returns : goal.returns
returns c =
    let t = c.args.t.now in
    let b = c.args.base in
    let n = c.args.n in
    let d = length-drop b t in
    let e : (b + n) - b ≡ n = omega arith in
    let k = length-take-le ((b + n) - b) (drop b t) (omega arith) in
    let m = length-replicate {A = ℕ} n 0 in
    start_stored t b ((b + n) - b) (replicate n 0) _ (c.fill.ensures.after (λ y q. q) ∙ ap (λ (j : ℕ). replicate j 0) (k ∙ e)) (e ∙ sym m)
    (omega arith)
