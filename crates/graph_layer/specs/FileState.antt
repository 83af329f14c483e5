-- what every opened file keeps
use Rattle.std.specs.Prelude.{◌≡◌, string_bytes, option_map}
use Rattle.graph_format.specs.Format.{words}
use Rattle.graph_format.specs.Layer.{decoded_layer}
use Rattle.graph_format.specs.DecodedRecords.{AreDecoded}
use Rattle.graph_format.specs.Layout.{IsLayout}
use Rattle.graph_layer.specs.declared.file.File.TheInside.{Inside}

pub record IsFileState (a : Inside) : Type 0 where
  pub layout : IsLayout a.shared.value.bytes a.shared.value.layout
  pub records : AreDecoded (decoded_layer a.shared.value.bytes (string_bytes a.shared.value.path)).records a.shared.value.records
  pub extra_edges : option_map (λ edges. edges.items) a.shared.value.extra_edges
      ≡ option_map words (decoded_layer a.shared.value.bytes (string_bytes a.shared.value.path)).edges
