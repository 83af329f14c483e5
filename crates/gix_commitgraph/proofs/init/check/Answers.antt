-- There are layers, and they have too many commits.
use Rattle.std.proofs.Common.{◌≡◌, ◌<◌, false, length, refl, arith, rules}
use Rattle.std.specs.Bool.{◌==◌}
use Rattle.graph_format.specs.declared.TheConstants.{MAX_COMMITS}
use Rattle.std.proofs.lemmas.Bool.{lt-ltb}
use Rattle.gix_commitgraph.specs.Graph.{total}
use Rattle.gix_commitgraph.specs.GraphRefusal.{graph_refusal}
use Rattle.gix_commitgraph.proofs.init.check.Goals as goal

pub returns-then-commits-clause-refusal : goal.returns-then-commits-clause-refusal
unfolding graph_refusal
returns-then-commits-clause-refusal c =
    let some : (length c.args.files.now == 0) ≡ false = search rules in
    let many : MAX_COMMITS < total c.args.files.now = omega (arith, c.commits_of_all-commits.ensures.sum) in
    rw (some, lt-ltb _ _ many, c.commits_of_all-commits.ensures.sum) refl
