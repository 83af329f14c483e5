-- Why no layer is written: the first condition that holds, over the ids of the graph below and the commits that are handed in
-- ("CHUNK DATA" of gitformat-commit-graph: ids and trees of one kind, 34 bits of time, each id once).
use Rattle.std.specs.Prelude.{◌≡◌, ◌==◌, ◌&&◌, ◌⊎◌, ℕ, ◌^◌, not, Bool, List, [], ◌∷◌, length, take, slice_get, nat_le, nat_lt}
use Rattle.std.specs.Prelude.{◌+◌, if◌then◌else◌}
use Rattle.std.specs.Prelude.{Option, Some, None, option_map, is_none, position}
use Rattle.std.specs.List.{list_all}
use Rattle.std.specs.Option.{option_and_then, option_map_or}
use Rattle.gix_chunk_core.specs.FirstFault.{◌when◌, ◌otherwise◌, first_below}
use Rattle.gix_hash_core.specs.Kind.{id_len}
use Rattle.gix_hash_core.specs.declared.kind.Kind.{Kind}
use Rattle.gix_hash_core.specs.declared.kind.Kind.TheVariants.{Sha1, Sha256}
use Rattle.gix_commitgraph.specs.Graph.{graph_ids, total}
use Rattle.graph_format.specs.Layer.{Layer}
use Rattle.graph_format.specs.declared.TheConstants.{MAX_COMMITS}
use Rattle.graph_format.specs.Faults.{is_null}
use Rattle.graph_format.specs.Lookup.{scan}
use Rattle.graph_format.specs.Parents.{position_of}
use Rattle.graph_writer.specs.NewCommits.{new_ids}
use Rattle.graph_writer.specs.declared.commit.NewCommit.{NewCommit}
use Rattle.graph_writer.specs.declared.commit.WriteError.{WriteError}
use Rattle.graph_writer.specs.declared.commit.WriteError.TheVariants as error

-- the id is one of the kind
abbrev pub is_of_kind : Kind → List ℕ → Bool
is_of_kind kind id = length id == id_len kind

-- so are the commit's own, that of its tree and those of its parents
abbrev pub has_ids_of_kind : Kind → NewCommit → Bool
has_ids_of_kind kind commit =
    is_of_kind kind commit.id && is_of_kind kind commit.tree && list_all (is_of_kind kind) commit.parents.items

-- why commit i is refused for what it says itself
abbrev pub own_refusal : Kind → ℕ → NewCommit → Option WriteError
own_refusal kind i commit =
    error.Kind i when not (has_ids_of_kind kind commit)
    otherwise error.NullId i when is_null commit.id
    otherwise error.NullTree i when is_null commit.tree
    otherwise error.Time i when nat_le (2 ^ 34) commit.time

abbrev pub own_refusal_at : Kind → List NewCommit → ℕ → Option WriteError
own_refusal_at kind commits i = option_and_then (own_refusal kind i) (slice_get commits i)

-- an earlier commit has the id of commit i
abbrev pub twice_at : List NewCommit → ℕ → Option WriteError
twice_at commits i =
    option_and_then (λ id. option_map (error.Twice i) (scan (take i (new_ids commits)) id)) (slice_get (new_ids commits) i)

-- the graph below has the id of commit i
abbrev pub below_at : List (List ℕ) → List NewCommit → ℕ → Option WriteError
below_at below commits i =
    option_and_then (λ id. option_map (λ p. error.Below i (position_of p)) (scan below id)) (slice_get (new_ids commits) i)

-- no commit that is handed in has the id, nor one of the graph below
abbrev pub is_unknown : List (List ℕ) → List NewCommit → List ℕ → Bool
is_unknown below commits id = is_none (scan (new_ids commits) id) && is_none (scan below id)

-- a parent of commit i is not known
abbrev pub parent_at : List (List ℕ) → List NewCommit → ℕ → Option WriteError
parent_at below commits i =
    option_and_then (λ commit. option_map (error.Parent i) (position (is_unknown below commits) commit.parents.items))
    (slice_get commits i)

-- the kind of hash of an id
abbrev pub kind_of_id : List ℕ → Kind
kind_of_id id = if length id == 20 then Sha1 else Sha256

-- the kind of a layer: that of the graph below, or else of the first commit
abbrev pub kind_to_write : List Layer → List NewCommit → Kind
kind_to_write [] commits = option_map_or (λ commit. kind_of_id commit.id) (slice_get commits 0) Sha1
kind_to_write (layer ∷ layers) commits = layer.kind

-- what refuses commits for their ids and those of their parents, over a graph of these layers
unfoldable pub new_layer_refusal : List Layer → List NewCommit → Option WriteError
new_layer_refusal layers commits =
    first_below (own_refusal_at (kind_to_write layers commits) commits) (length commits)
    otherwise first_below (twice_at commits) (length commits)
    otherwise first_below (below_at (graph_ids layers) commits) (length commits)
    otherwise error.TooManyCommits when nat_lt MAX_COMMITS (total layers + length commits)
    otherwise first_below (parent_at (graph_ids layers) commits) (length commits)
    otherwise error.Nothing when length commits == 0

-- what refuses commits that no memory is needed to see: what one of them says by itself, or that there are none
unfoldable pub plain_refusal : List Layer → List NewCommit → Option WriteError
plain_refusal layers commits =
    first_below (own_refusal_at (kind_to_write layers commits) commits) (length commits)
    otherwise error.Nothing when length commits == 0

-- the errors that may be answered: the first condition that refuses; or out of memory, but only where there are commits and each
-- is right by itself, since ids are compared once they stand in memory
abbrev pub MayRefuseNewLayer : List Layer → List NewCommit → WriteError → Type 0
MayRefuseNewLayer layers commits fault =
    (new_layer_refusal layers commits ≡ Some fault) ⊎ ((fault ≡ error.OutOfMemory) × (plain_refusal layers commits ≡ None))
