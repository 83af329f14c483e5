use Rattle.std.proofs.Common.{◌≡◌, ◌+◌, ◌≤◌, ap, arith, ⊎_elim}
use Rattle.newer_commits.specs.CommitsOnTop.{CommitsOnTop}
use Rattle.newer_commits.proofs.commits.NewerCommits.is_full.Goals as goal

pub overflow_add-self-inside : goal.overflow_add-self-inside
overflow_add-self-inside c =
    let below = ap (λ (t : CommitsOnTop). t.below) c.self.view_is in
    let narrow = c.self.invariant.narrow in
    ⊎_elim
    (λ (none : c.len-2.result ≡ 0). omega (arith, none, narrow))
    (λ (some : c.args.self.now.below + c.len-2.result ≤ 0x70000000). omega (arith, some, below))
    c.len-2.ensures.few
