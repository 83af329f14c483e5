-- the layer of a file of which the head and some parts are known
use Rattle.std.proofs.Common.{◌≡◌, ℕ, ◌+◌, ◌-◌, ◌*◌, ◌<◌, ◌≤◌, List, length, Option, Some, None, Result, Ok}
use Rattle.std.proofs.Common.{slice_range, slice_index, refl, sym, ap, ◌∙◌, arith}
use Rattle.std.specs.Option.{ok_or}
use Rattle.std.proofs.Math.Nat.{mul-add, mul-le-mul_left}
use Rattle.std.proofs.lemmas.Option.{slice_get_within}
use Rattle.gix_hash_core.specs.Kind.{id_len}
use Rattle.gix_hash_core.specs.declared.kind.Kind.{Kind}
use Rattle.graph_folder.specs.Tree.{Tree, file_at}
use Rattle.graph_format.specs.Format.{fan_of, record_of, part}
use Rattle.graph_format.specs.Layer.{Layer, IsOpened, decoded_layer, record_at}
use Rattle.graph_format.specs.Layout.{IsLayout}
use Rattle.graph_format.specs.Lookup.{Found}
use Rattle.graph_format.specs.Opened.{unless_refused}
use Rattle.graph_format.specs.declared.layout.Layout.{Layout}
use Rattle.graph_format.proofs.LayoutLemmas.{view-kind}
use Rattle.graph_format.proofs.PieceLemmas.{slice_range-slice_range}
use Rattle.graph_layer.specs.LayerOpening.{layer_at, layer_of_bytes}
use Rattle.graph_layer.specs.OpenAnswer.{and_then, result_map_err}
use Rattle.graph_layer.specs.OpenRefusals.{layer_refused}
use Rattle.graph_layer.specs.declared.opening.error.OpenError.{OpenError}
use Rattle.graph_layer.specs.declared.opening.error.OpenError.TheVariants.{NotOpened}
use Rattle.graph_layer.proofs.BucketLemmas.{view-sized_id, view-other_len}
use Rattle.graph_layer.proofs.FileViewLemmas.{view-layer, view-path, commits-ids, view-record_at}
use Rattle.graph_layer.proofs.LookupLemmas.{stands_within-bucket, found-other_len}
use Rattle.graph_find.specs.Bucket.{IsBucket}
use Rattle.graph_find.specs.LayerFinding.{IsLayerOfHead, TellsOfRecord}
use Rattle.graph_find.specs.ReadHead.{IsBucketSpan, IsHead}
use Rattle.graph_find.specs.declared.answer.FoundCommit.{FoundCommit}
use Rattle.graph_find.specs.declared.head.Head.{Head}
use Rattle.graph_find.specs.declared.head.Span.{Span}

module _ (file path : List ℕ) (layout : Layout) (kept : IsLayout file layout) where
  -- it is the one that is opened where the file stands
  layer-at : (tree : Tree) (i : ℕ) → file_at tree path ≡ Some file → layer_at tree i path ≡ Ok (decoded_layer file path)
  layer-at tree i stands =
      let one = decoded_layer file path in
      let bytes : ok_or (file_at tree path) NotOpened ≡ Ok file = ap (λ (o : Option (List ℕ)). ok_or o NotOpened) stands in
      let read : layer_of_bytes i file path ≡ Ok one =
      ap (λ r. result_map_err (layer_refused i) (unless_refused r one)) kept.none in
      ap (λ (r : Result (List ℕ) OpenError). and_then r (λ b. layer_of_bytes i b path)) bytes ∙ read

  -- an id of another length
  pub found-other_kind : (id : List ℕ) → (length id ≡ id_len layout.kind → ⊥) → Found (decoded_layer file path) id None
  found-other_kind id differs =
      let one = decoded_layer file path in
      found-other_len one id
      (view-other_len file path layout one id kept refl
      (λ same. differs (same ∙ ap id_len (sym (view-kind file path layout one kept refl)))))

  -- the ids of a bucket
  pub is-bucket : (id bytes : List ℕ) (span : Span) → length id ≡ id_len layout.kind → slice_index id 0 < 256
      → IsBucketSpan (fan_of file) (slice_index id 0) span → span.start ≤ span.end → span.end ≤ layout.commits
      → slice_range file (layout.chunks.ids.start + length id * span.start)
      (layout.chunks.ids.start + length id * span.start + length id * (span.end - span.start)) ≡ bytes
      → IsBucket (decoded_layer file path) id span.start span.end bytes
  unfolding decoded_layer
  is-bucket id bytes span long byte is order within same =
      let one = decoded_layer file path in
      let size = length id in
      let begin = layout.chunks.ids.start + size * span.start in
      record {
        stands = rw (is.start, is.end) (stands_within-bucket one id byte).each;
        each = λ i from below.
            let inside : i < length one.ids = omega (arith, below, within, commits-ids file path layout one kept refl) in
            let shift : size * i ≡ size * span.start + size * (i - span.start) =
            ap (λ (n : ℕ). size * n) (again i span.start from) ∙ mul-add size span.start (i - span.start) in
            let up : size * (i - span.start) + size ≤ size * (span.end - span.start) =
            one_more size (i - span.start) (span.end - span.start) (omega arith) in
            view-sized_id file path layout one i size kept refl inside
            (long ∙ ap id_len (view-kind file path layout one kept refl))
            ∙ ap (λ (n : ℕ). Some (slice_range file n (n + size))) (omega (arith, shift))
            ∙ ap (λ (n : ℕ). Some (slice_range file (begin + size * (i - span.start)) n)) (omega arith)
            ∙ ap (λ (b : List ℕ). Some b)
            (sym (slice_range-slice_range file begin (begin + size * (span.end - span.start)) (size * (i - span.start))
            (size * (i - span.start) + size) (omega (arith, up))))
            ∙ ap (λ (b : List ℕ). Some (slice_range b (size * (i - span.start)) (size * (i - span.start) + size))) same;
      }
    where
      again : (n m : ℕ) → m ≤ n → n ≡ m + (n - m)
      again n m h = omega arith

      one_more : (size k n : ℕ) → k < n → size * k + size ≤ size * n
      one_more size k n h = omega (arith, mul-le-mul_left {m = k + 1} {n = n} size (omega arith), mul-add size k 1)

  -- what its record says
  pub tells-record : (id bytes : List ℕ) (commit : FoundCommit) → Found (decoded_layer file path) id (Some commit.pos)
      → slice_range file (layout.chunks.records.start + (id_len layout.kind + 16) * commit.pos)
      (layout.chunks.records.start + (id_len layout.kind + 16) * commit.pos + (id_len layout.kind + 16)) ≡ bytes
      → commit.generation ≡ (record_of layout.kind bytes).generation → commit.time ≡ (record_of layout.kind bytes).time
      → TellsOfRecord (decoded_layer file path) commit
  tells-record id bytes commit found same generation time =
      let one = decoded_layer file path in
      let inside : commit.pos < length one.ids = slice_get_within one.ids commit.pos id found.holds in
      let kind = view-kind file path layout one kept refl in
      let says : record_at one commit.pos ≡ record_of layout.kind bytes =
      view-record_at file path layout one kept refl commit.pos (id_len layout.kind + 16) inside
      (ap (λ (k : Kind). id_len k + 16) kind)
      ∙ ap (λ (k : Kind). record_of k (part file (layout.chunks.records.start + (id_len layout.kind + 16) * commit.pos)
      (id_len layout.kind + 16))) (sym kind)
      ∙ ap (record_of layout.kind) same in
      record {
        generation = generation ∙ ap (λ r. r.generation) (sym says);
        time = time ∙ ap (λ r. r.time) (sym says);
      }

-- What a layer keeps of its head.
pub record KeepsHead (origin : List ℕ) (head : Head) (layer : Layer) : Type 0 where
  pub kind : layer.kind ≡ head.layout.kind
  pub size : length layer.ids ≡ head.layout.commits
  pub opened : IsOpened layer
  pub path : layer.path ≡ origin

module _ (known : Option Tree) (path : List ℕ) (head : Head) (is : IsHead head) (layer : Layer)
    (of : IsLayerOfHead known path head layer) where
  pub keeps-head : KeepsHead path head layer
  keeps-head =
      let kept = is.layout.each of.file of.begins in
      record {
        kind = sym (view-kind of.file path head.layout layer kept (sym of.decoded));
        size = sym (commits-ids of.file path head.layout layer kept (sym of.decoded));
        opened = view-layer of.file path head.layout layer kept (sym of.decoded);
        path = sym (view-path of.file path head.layout layer kept (sym of.decoded));
      }

  -- and it is the layer at the path where the tree is known
  pub opens-head : (tree : Tree) (i : ℕ) → known ≡ Some tree → layer_at tree i path ≡ Ok layer
  opens-head tree i there =
      let kept = is.layout.each of.file of.begins in
      layer-at of.file path head.layout kept tree i (of.stands tree there) ∙ ap Ok (sym of.decoded)
