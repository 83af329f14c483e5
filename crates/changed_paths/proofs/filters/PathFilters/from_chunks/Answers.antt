use Rattle.std.proofs.Common.{arith}
use Rattle.changed_paths.proofs.FiltersLemmas.{length_by_size}
use Rattle.changed_paths.proofs.filters.PathFilters.from_chunks.Goals as goal

pub returns-clause-commits : goal.returns-clause-commits
returns-clause-commits c =
    length_by_size c.args.commits c.args.index.now c.args.body.now (omega (arith, c.if-index-commits.false))
