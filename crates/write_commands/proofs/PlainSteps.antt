-- A commit of a right graph is not refused for what it says itself.
use Rattle.std.proofs.Common.{◌≡◌, ℕ, ◌+◌, ◌-◌, ◌*◌, ◌^◌, ◌<◌, List, All}
use Rattle.std.proofs.Common.{Option, Some, None, option_map, IsSomeAnd, length, map, slice_get, refl, sym, ap, subst, ◌∙◌}
use Rattle.std.proofs.Common.{arith}
use Rattle.std.proofs.lemmas.Option.{same_Some, slice_get_within, slice_get-map}
use Rattle.gix_hash_core.specs.Kind.{id_len}
use Rattle.gix_hash_core.specs.declared.kind.Kind.{Kind}
use Rattle.graph_format.specs.Format.{Record, record_of, record_len, pieces}
use Rattle.graph_format.specs.Layer.{Layer, IsOpened, record_at}
use Rattle.graph_format.specs.RightLayer.{IsNull, IsRightLayer}
use Rattle.graph_format.proofs.LayerHistoryLemmas.{opened_is_paired, record_at-is}
use Rattle.graph_format.proofs.PieceLemmas.{id_len-positive, length-slice_range}
use Rattle.graph_format.proofs.WholePieceLemmas.{whole_pieces}
use Rattle.gix_commitgraph.specs.Graph.{graph_ids, start, total}
use Rattle.gix_commitgraph.proofs.layers.GraphLemmas.{counted, lies-in_one, place-in}
use Rattle.gix_commitgraph.proofs.lookup.ElementLemmas.{all-at}
use Rattle.graph_history.specs.RightGraph.{record_in}
use Rattle.graph_writer.specs.declared.commit.NewCommit.{NewCommit}
use Rattle.write_commands.specs.GraphCommits.{IsCommitAt}

-- an id of a chunk of ids
id-size : (kind : Kind) (n : ℕ) (o : Option (List ℕ)) (ids : List (List ℕ)) (j : ℕ) (id : List ℕ)
    → IsSomeAnd o (λ chunk. (length chunk ≡ id_len kind * n) × (ids ≡ pieces (id_len kind) chunk)) → slice_get ids j ≡ Some id
    → length id ≡ id_len kind
id-size kind n None ids j id h at = absurd h
id-size kind n (Some chunk) ids j id h at =
    all-at (λ (part : List ℕ). length part ≡ id_len kind) (pieces (id_len kind) chunk) j id
    (whole_pieces (id_len kind) chunk (id_len-positive kind)).each
    (ap (λ (xs : List (List ℕ)). slice_get xs j) (sym h.1) ∙ at)

-- What a record has room for.
record Fits (kind : Kind) (r : Record) : Type 0 where
  tree : length r.tree ≡ id_len kind
  time : r.time < 2 ^ 34

decoded : (kind : Kind) (bytes : List ℕ) → length bytes ≡ record_len kind → Fits kind (record_of kind bytes)
unfolding record_of
decoded kind bytes size = record {
  tree = length-slice_range bytes 0 (0 + id_len kind) (omega (arith, size)) ∙ omega arith;
  time = omega arith;
}

-- a record of a chunk of records
record-fits : (kind : Kind) (n : ℕ) (o : Option (List ℕ)) (records : List Record) (j : ℕ) (r : Record)
    → IsSomeAnd o (λ chunk. (length chunk ≡ record_len kind * n)
    × (records ≡ map (record_of kind) (pieces (record_len kind) chunk))) → slice_get records j ≡ Some r → Fits kind r
record-fits kind n None records j r h at = absurd h
record-fits kind n (Some chunk) records j r h at =
    let all = pieces (record_len kind) chunk in
    by-cases (slice_get all j) refl
    (sym (slice_get-map (record_of kind) all j) ∙ ap (λ (rs : List Record). slice_get rs j) (sym h.1) ∙ at)
  where
    by-cases : (o : Option (List ℕ)) → slice_get (pieces (record_len kind) chunk) j ≡ o → option_map (record_of kind) o ≡ Some r
        → Fits kind r
    by-cases None is read = cc
    by-cases (Some bytes) is read =
        let positive : 0 < record_len kind = omega (arith, id_len-positive kind) in
        subst (Fits kind) (same_Some (record_of kind bytes) r read)
        (decoded kind bytes
        (all-at (λ (part : List ℕ). length part ≡ record_len kind) (pieces (record_len kind) chunk) j bytes
        (whole_pieces (record_len kind) chunk positive).each is))

-- What a commit says that no writer refuses by itself.
pub record IsPlain (kind : Kind) (commit : NewCommit) : Type 0 where
  pub id_size : length commit.id ≡ id_len kind
  pub tree_size : length commit.tree ≡ id_len kind
  pub id_there : ¬ IsNull commit.id
  pub tree_there : ¬ IsNull commit.tree
  pub time : commit.time < 2 ^ 34

module _ (layers : List Layer) (kind : Kind) (opened : All IsOpened layers) (alike : All (λ layer. layer.kind ≡ kind) layers)
    (right : All IsRightLayer layers) where
  -- the ids of the graph are of its kind
  pub size-at : (q : ℕ) (id : List ℕ) → slice_get (graph_ids layers) q ≡ Some id → length id ≡ id_len kind
  size-at q id at =
      let within : q < total layers = omega (arith, slice_get_within (graph_ids layers) q id at, (counted layers).ids) in
      let one = lies-in_one layers q within in
      let place = place-in layers q one.index one.layer one.lies in
      id-size one.layer.kind _ _ one.layer.ids (q - start layers one.index) id
      (all-at IsOpened layers one.index one.layer opened one.lies.there).ids (sym place.id ∙ at)
      ∙ ap id_len (all-at (λ (l : Layer). l.kind ≡ kind) layers one.index one.layer alike one.lies.there)

  pub plain-at : (p : ℕ) (commit : NewCommit) → p < total layers → IsCommitAt layers p commit → IsPlain kind commit
  plain-at p commit within is =
      let one = lies-in_one layers p within in
      let layer = one.layer in
      let place = place-in layers p one.index layer one.lies in
      let j : ℕ = p - start layers one.index in
      let is_opened = all-at IsOpened layers one.index layer opened one.lies.there in
      let same : layer.kind ≡ kind = all-at (λ (l : Layer). l.kind ≡ kind) layers one.index layer alike one.lies.there in
      let is_right = all-at IsRightLayer layers one.index layer right one.lies.there in
      let id : slice_get layer.ids j ≡ Some commit.id = sym place.id ∙ is.id in
      let inside : j < length layer.records =
      omega (arith, slice_get_within layer.ids j commit.id id, opened_is_paired layer is_opened) in
      let r : Record = record_at layer j in
      let there = record_at-is layer j inside in
      let read : record_in layers p ≡ Some r =
      ap (option_map (λ (at : Layer × ℕ). record_at at.0 at.1)) place.commit in
      let tree : r.tree ≡ commit.tree =
      same_Some r.tree commit.tree (sym (ap (option_map (λ (s : Record). s.tree)) read) ∙ is.tree) in
      let time : r.time ≡ commit.time =
      same_Some r.time commit.time (sym (ap (option_map (λ (s : Record). s.time)) read) ∙ is.time) in
      let fits = record-fits layer.kind _ _ layer.records j r is_opened.records there in
      record {
        id_size = size-at p commit.id is.id;
        tree_size = ap length (sym tree) ∙ fits.tree ∙ ap id_len same;
        id_there = all-at (λ (x : List ℕ). ¬ IsNull x) layer.ids j commit.id is_right.ids id;
        tree_there =
            subst (λ (x : List ℕ). ¬ IsNull x) tree
            (all-at (λ (s : Record). ¬ IsNull s.tree) layer.records j r is_right.trees there);
        time = omega (arith, fits.time, time);
      }
