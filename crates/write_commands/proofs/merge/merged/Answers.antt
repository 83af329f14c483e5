use Rattle.std.proofs.Common.{◌≡◌, List, [], ℕ, Option, subst}
use Rattle.graph_writer.specs.NewFilters.{filters_handed}
use Rattle.graph_writer.specs.WrittenFiles.{IsWrittenWith}
use Rattle.graph_writer.specs.declared.commit.NewCommit.{NewCommit}
use Rattle.graph_writer.specs.declared.filters.NewFilters.{NewFilters}
use Rattle.write_commands.proofs.merge.merged.Goals as goal

-- what is written of commits and filters that are lent
as-lent : (commits lent : List NewCommit) (filters found : Option NewFilters) (bytes : List ℕ) → lent ≡ commits → filters ≡ found
    → IsWrittenWith [] lent filters bytes → IsWrittenWith [] commits found bytes
as-lent commits lent filters found bytes same_commits same_filters written =
    subst (λ (fs : Option NewFilters). IsWrittenWith [] commits fs bytes) same_filters
    (subst (λ (cs : List NewCommit). IsWrittenWith [] cs filters bytes) same_commits written)

pub returns-clause-written : goal.returns-clause-written
returns-clause-written g c = (
  c.in_ok-found.found.commits.items,
  c.in_ok-found.found.filters,
  c.in_ok-found.ensures.found,
  as-lent c.in_ok-found.found.commits.items _ (filters_handed c.as_ref-filters.result) c.in_ok-found.found.filters _
      c.deref.ensures.value c.as_ref-filters.ensures.value c.in_ok-write_layer_with_filters.ensures.written,
)
