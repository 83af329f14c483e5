-- what an opened file's fan says of its ids
use Rattle.std.proofs.Common.{◌≡◌, ℕ, zero, suc, ◌+◌, ◌-◌, ◌*◌, ◌<◌, ◌≤◌, List, length, slice_index, slice_get, slice_range, Some}
use Rattle.std.proofs.Common.{IsSomeAnd, refl, sym, ap, subst, ◌∙◌, arith}
use Rattle.std.proofs.lemmas.Option.{same_Some, slice_get_within}
use Rattle.gix_hash_core.specs.Kind.{id_len}
use Rattle.graph_format.specs.Format.{commits_of, fan_of, fan_id, chunk_of, words}
use Rattle.graph_format.specs.Layer.{Layer, IsLayer, decoded_layer}
use Rattle.graph_format.specs.Layout.{IsLayout}
use Rattle.graph_format.specs.ChunkRanges.{IsChunkAt}
use Rattle.graph_format.specs.declared.layout.Layout.{Layout}
use Rattle.graph_format.specs.declared.chunks.ChunkRange.{ChunkRange}
use Rattle.graph_format.proofs.PieceLemmas.{length-slice_range}
use Rattle.graph_format.proofs.LayoutLemmas.{view-kind}
use Rattle.graph_layer.proofs.FileViewLemmas.{commits-ids, view-id, view-id-fits, view-bytes, view-layer}

-- the bytes are a file of the layer
is-layer : (bytes path : List ℕ) (layout : Layout) (layer : Layer) → IsLayout bytes layout → decoded_layer bytes path ≡ layer
    → IsLayer bytes layer.path layer
is-layer bytes path layout layer kept view =
    let P : List ℕ → Type 0 = λ b. IsLayer b layer.path layer in
    subst P (view-bytes bytes path layout layer kept view) (view-layer bytes path layout layer kept view)

fan-size : (bytes fan : List ℕ) (place : ChunkRange) → IsChunkAt bytes fan_id place
    → IsSomeAnd (chunk_of bytes fan_id) (λ chunk. (length chunk ≡ 1024) × (fan ≡ words chunk)) → place.end ≡ place.start + 1024
fan-size bytes fan place at h =
    let is = rw at.chunk at h in
    omega (arith, is.0, length-slice_range bytes place.start place.end at.in_file)

pub view-fan-size : (bytes path : List ℕ) (layout : Layout) (layer : Layer) → IsLayout bytes layout
    → decoded_layer bytes path ≡ layer → layout.chunks.fan.end ≡ layout.chunks.fan.start + 1024
view-fan-size bytes path layout layer kept view =
    fan-size bytes layer.fan layout.chunks.fan kept.chunks.fan (is-layer bytes path layout layer kept view).fan

-- the fan of the bytes is the layer's
pub view-fan : (bytes path : List ℕ) (layer : Layer) (i : ℕ) → decoded_layer bytes path ≡ layer
    → slice_index (fan_of bytes) i ≡ slice_index layer.fan i
unfolding decoded_layer
view-fan bytes path layer i view = ap (λ (l : Layer). slice_index l.fan i) view

rises-by : (fan : List ℕ) → ((i : ℕ) → i < 255 → slice_index fan i ≤ slice_index fan (i + 1)) → (i k : ℕ) → i + k ≤ 255
    → slice_index fan i ≤ slice_index fan (i + k)
rises-by fan rising i zero h = omega (arith, ap (slice_index fan) (add-none i))
  where
    add-none : (n : ℕ) → n + zero ≡ n
    add-none n = omega arith
rises-by fan rising i (suc k) h =
    omega (arith, rises-by fan rising i k (omega arith), rising (i + k) (omega arith), ap (slice_index fan) (more i k))
  where
    more : (n m : ℕ) → n + suc m ≡ n + m + 1
    more n m = omega arith

-- a number of the fan is at most the number of commits
pub view-fan-below : (bytes path : List ℕ) (layout : Layout) (layer : Layer) (i : ℕ) → IsLayout bytes layout
    → decoded_layer bytes path ≡ layer → i < 256 → slice_index layer.fan i ≤ length layer.ids
unfolding decoded_layer
view-fan-below bytes path layout layer i kept view h =
    let up : slice_index layer.fan i ≤ slice_index layer.fan (i + (255 - i)) =
    rises-by layer.fan (is-layer bytes path layout layer kept view).rising i (255 - i) (omega arith) in
    let last : slice_index layer.fan (i + (255 - i)) ≡ commits_of layer.fan = ap (slice_index layer.fan) (omega arith) in
    let counted : commits_of layer.fan ≡ layout.commits = ap (λ (l : Layer). commits_of l.fan) (sym view) ∙ sym kept.commits in
    omega (arith, up, last, counted, commits-ids bytes path layout layer kept view)

-- and not less than the number before it
pub view-fan-rises : (bytes path : List ℕ) (layout : Layout) (layer : Layer) (i : ℕ) → IsLayout bytes layout
    → decoded_layer bytes path ≡ layer → 0 < i → i < 256 → slice_index layer.fan (i - 1) ≤ slice_index layer.fan i
view-fan-rises bytes path layout layer i kept view some h =
    omega (
      arith,
      (is-layer bytes path layout layer kept view).rising (i - 1) (omega arith),
      ap (slice_index layer.fan) (one i some),
    )
  where
    one : (n : ℕ) → 0 < n → n - 1 + 1 ≡ n
    one n h = omega arith

-- the id at a position, by the size of ids
pub view-sized_id : (bytes path : List ℕ) (layout : Layout) (layer : Layer) (i size : ℕ) → IsLayout bytes layout
    → decoded_layer bytes path ≡ layer → i < length layer.ids → size ≡ id_len layer.kind
    → slice_get layer.ids i
    ≡ Some (slice_range bytes (layout.chunks.ids.start + size * i) (layout.chunks.ids.start + size * i + size))
view-sized_id bytes path layout layer i size kept view k e =
    view-id bytes path layout layer kept view i k
    ∙ ap (λ (n : ℕ). Some (slice_range bytes (layout.chunks.ids.start + n * i) (layout.chunks.ids.start + n * i + n))) (sym e)

pub view-sized_id-fits : (bytes path : List ℕ) (layout : Layout) (layer : Layer) (i size : ℕ) → IsLayout bytes layout
    → decoded_layer bytes path ≡ layer → i < length layer.ids → size ≡ id_len layer.kind
    → layout.chunks.ids.start + size * i + size ≤ length bytes
view-sized_id-fits bytes path layout layer i size kept view k e =
    let same : id_len layer.kind ≡ size = sym e in
    let P : ℕ → Type 0 = λ n. layout.chunks.ids.start + n * i + n ≤ length bytes in
    subst P same (view-id-fits bytes path layout layer kept view i k)

-- no id of the layer has another length than its kind says
pub view-other_len : (bytes path : List ℕ) (layout : Layout) (layer : Layer) (id : List ℕ) → IsLayout bytes layout
    → decoded_layer bytes path ≡ layer → (length id ≡ id_len layer.kind → ⊥)
    → (i : ℕ) (other : List ℕ) → slice_get layer.ids i ≡ Some other → length id ≡ length other → ⊥
view-other_len bytes path layout layer id kept view differs i other here same =
    let k : i < length layer.ids = slice_get_within layer.ids i other here in
    let size = id_len layer.kind in
    let fits : layout.chunks.ids.start + size * i + size ≤ length bytes =
    view-sized_id-fits bytes path layout layer i size kept view k refl in
    let is : other ≡ slice_range bytes (layout.chunks.ids.start + size * i) (layout.chunks.ids.start + size * i + size) =
    same_Some _ _ (sym here ∙ view-sized_id bytes path layout layer i size kept view k refl) in
    differs (same ∙ ap length is
    ∙ length-slice_range bytes (layout.chunks.ids.start + size * i) (layout.chunks.ids.start + size * i + size) fits
    ∙ (omega arith))

pub ruleset bucket_laws = (view-fan-size, view-kind, view-sized_id, view-sized_id-fits)
