-- what the ids that were read say of the lookup of an id
use Rattle.std.proofs.Common.{◌≡◌, ℕ, ◌<◌, List, length, slice_index, string_bytes, Option, None, sym, subst}
use Rattle.gix_hash_core.specs.Kind.{id_len}
use Rattle.graph_folder.specs.Tree.{Tree}
use Rattle.graph_format.specs.Format.{fan_of}
use Rattle.graph_format.specs.Layer.{Layer, decoded_layer}
use Rattle.graph_format.specs.Lookup.{Found}
use Rattle.graph_layer.proofs.LookupLemmas.{StandsWithin, stands_within-bucket}
use Rattle.graph_find.specs.ReadHead.{IsBucketSpan}
use Rattle.graph_find.specs.declared.head.Span.{Span}
use Rattle.graph_find.proofs.LayerLemmas.{found-other_kind}
use Rattle.graph_parts.specs.ShownLayer.{IsLayerParts, ShowsLayer}
use Rattle.graph_parts.specs.declared.layer.LayerParts.{LayerParts}

module _ (known : Option Tree) (part : LayerParts) (layer : Layer) (shows : ShowsLayer known part layer) (id : List ℕ) where
  -- the id stands nowhere outside of its bucket
  pub shown-bucket : (span : Span) → slice_index id 0 < 256 → IsBucketSpan (fan_of shows.of.file) (slice_index id 0) span
      → StandsWithin layer id span.start span.end
  unfolding decoded_layer
  shown-bucket span byte is =
      let one = decoded_layer shows.of.file (string_bytes part.file.path) in
      let stands : StandsWithin one id span.start span.end =
      record { each = rw (is.start, is.end) (stands_within-bucket one id byte).each } in
      let P : Layer → Type 0 = λ l. StandsWithin l id span.start span.end in
      subst P (sym shows.of.decoded) stands

  -- an id of another kind stands nowhere
  pub shown-other_kind : IsLayerParts part → (length id ≡ id_len part.file.head.layout.kind → ⊥) → Found layer id None
  shown-other_kind is differs =
      let P : Layer → Type 0 = λ l. Found l id None in
      subst P (sym shows.of.decoded)
      (found-other_kind shows.of.file (string_bytes part.file.path) part.file.head.layout
      (is.head.layout.each shows.of.file shows.of.begins) id differs)
