-- What a filter is that is not the one which was made.
use Rattle.std.proofs.Common.{◌≡◌, ℕ, ◌<◌, List, Option, Some, subst}
use Rattle.std.specs.Prelude.{All, slice_get}
use Rattle.graph_chunks.specs.GraphFilters.{FiltersOfGraph}
use Rattle.tree_changes.specs.Stands.{World}
use Rattle.tree_changes.specs.Changes.{IsChangedText}
use Rattle.path_filters.specs.Made.{IsWritten}
use Rattle.path_filters.specs.declared.settings.Settings.{Settings}
use Rattle.path_filters.proofs.OneListLemmas.{one_written}
use Rattle.filter_checks.specs.Written.{IsWrittenFor}
use Rattle.filter_checks.proofs.AnswerLemmas.{of_there}

-- where another filter is what Git writes, this one is not
pub differs : (settings : Settings) (world : World) (old new before after : Option (List ℕ)) (all : FiltersOfGraph) (p : ℕ)
    (filter written : List ℕ) → slice_get all.filters p ≡ Some filter → All (λ byte. byte < 256) filter
    → All (λ byte. byte < 256) written → ¬ (written ≡ filter) → before ≡ old → after ≡ new
    → IsWritten settings (IsChangedText world old new) written → ¬ IsWrittenFor settings world before after all p
differs settings world old new before after all p filter written e small small_too other same_old same_new made right =
    let here = of_there (IsWritten settings (IsChangedText world before after)) all p filter e right in
    let there : IsWritten settings (IsChangedText world old new) filter =
    subst (λ o. IsWritten settings (IsChangedText world o new) filter) same_old
    (subst (λ n. IsWritten settings (IsChangedText world before n) filter) same_new here) in
    other (one_written settings (IsChangedText world old new) written filter small_too small made there)
