-- The ids of a bucket, as bytes that were read ("OID Fanout", "OID Lookup").
use Rattle.std.specs.Prelude.{◌≡◌, ℕ, ◌+◌, ◌-◌, ◌*◌, ◌<◌, ◌≤◌, List, length, slice_get, slice_range, Some}
use Rattle.graph_format.specs.Layer.{Layer}
use Rattle.graph_format.specs.Order.{AreAscending, IsExactFan}

-- The bytes are the ids of a layer from one position up to but not including another, and where the ids ascend under an exact
-- fan an id stands nowhere else.
pub record IsBucket (layer : Layer) (id : List ℕ) (first end : ℕ) (bytes : List ℕ) : Type 0 where
  pub stands : AreAscending layer.ids → IsExactFan layer.fan layer.ids → (i : ℕ) → slice_get layer.ids i ≡ Some id
      → (first ≤ i) × (i < end)
  pub each : (i : ℕ) → first ≤ i → i < end
      → slice_get layer.ids i
      ≡ Some (slice_range bytes (length id * (i - first)) (length id * (i - first) + length id))
