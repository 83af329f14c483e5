-- why layers are no graph: the first of these conditions that holds; their order is this crate's own
use Rattle.std.specs.Prelude.{ℕ, ◌+◌, ◌-◌, ◌==◌, Bool, true, false, not, List, length, slice_get, nat_lt, Option, option_map}
use Rattle.std.specs.Prelude.{unwrap_or}
use Rattle.gix_chunk_core.specs.FirstFault.{first_below}
use Rattle.gix_hash_core.specs.declared.kind.Kind.{Kind}
use Rattle.gix_hash_core.specs.declared.kind.Kind.TheVariants.{Sha1, Sha256}
use Rattle.gix_chunk_core.specs.FirstFault.{◌when◌, ◌otherwise◌}
use Rattle.graph_format.specs.Layer.{Layer}
use Rattle.gix_commitgraph.specs.Graph.{total}
use Rattle.graph_format.specs.declared.TheConstants.{MAX_COMMITS}
use Rattle.graph_format.specs.declared.error.GraphError.{GraphError}
use Rattle.graph_format.specs.declared.error.GraphError.TheVariants.{NoFiles, TooManyCommits, HashMismatch}

abbrev pub same_kind : Kind → Kind → Bool
same_kind Sha1 Sha1 = true
same_kind Sha1 Sha256 = false
same_kind Sha256 Sha1 = false
same_kind Sha256 Sha256 = true

-- the kind of a layer
unfoldable pub kind_at : List Layer → ℕ → Kind
kind_at layers i = unwrap_or (option_map (λ layer. layer.kind) (slice_get layers i)) Sha1

-- a layer of another kind than the one before it
abbrev pub mismatch_after : List Layer → ℕ → Option GraphError
mismatch_after layers i = HashMismatch (i + 1) when not (same_kind (kind_at layers i) (kind_at layers (i + 1)))

unfoldable pub mismatch_refusal : List Layer → Option GraphError
mismatch_refusal layers = first_below (mismatch_after layers) (length layers - 1)

unfoldable pub graph_refusal : List Layer → Option GraphError
graph_refusal layers =
    (NoFiles when (length layers == 0))
    otherwise (TooManyCommits (total layers) when nat_lt MAX_COMMITS (total layers))
    otherwise mismatch_refusal layers
