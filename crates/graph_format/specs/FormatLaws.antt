-- what the definitions of the format say of all bytes
use Rattle.std.specs.Prelude.{◌≡◌, ◌↔◌, ◌<◌, ◌≤◌, ℕ, ◌+◌, ◌-◌, ◌*◌, List, length, take, slice_index, All, Some, None, MatchOption}
use Rattle.std.specs.List.{concat}
use Rattle.graph_format.specs.Format.{pieces}
use Rattle.graph_format.specs.Layer.{Layer, IsLayer}
use Rattle.graph_format.specs.Refusal.{refusal, falling_refusal}
use Rattle.graph_format.specs.declared.error.FileError.{FileError}
use Rattle.graph_format.specs.declared.error.FileError.TheVariants.{FanFalls}

-- The bytes are a file of this layer, and of no other.
pub record IsOnlyLayer (bytes path : List ℕ) (layer : Layer) : Type 0 where
  pub is : IsLayer bytes path layer
  pub only : (other : Layer) → IsLayer bytes path other → other ≡ layer

-- bytes that are refused are a file of no layer, and bytes that are not are a file of exactly one
abbrev pub IsDecided : List ℕ → List ℕ → Type 0
IsDecided bytes path =
    MatchOption (refusal bytes)
    ((layer : Layer) × IsOnlyLayer bytes path layer)
    (λ _. (layer : Layer) → IsLayer bytes path layer → ⊥)

-- The fan falls at this entry, and at none before it.
pub record FallsFirstAt (fan : List ℕ) (at : ℕ) : Type 0 where
  pub within : at < 256
  pub falls : slice_index fan at < slice_index fan (at - 1)
  pub first : (i : ℕ) → i < at → slice_index fan (i - 1) ≤ slice_index fan i

-- A falling fan is refused by the first entry at which it falls, and a fan that does not fall is not refused.
pub record NamesFirstFall (fan : List ℕ) : Type 0 where
  pub falls : (error : FileError)
      → (falling_refusal fan ≡ Some error) ↔ ((at : ℕ) × ((error ≡ FanFalls at) × FallsFirstAt fan at))
  pub rises : (falling_refusal fan ≡ None) ↔ ((i : ℕ) → i < 255 → slice_index fan i ≤ slice_index fan (i + 1))

-- The pieces have the same size, and make up the bytes, one after another, except for fewer bytes than a piece has at the end.
pub record AreWholePieces (size : ℕ) (bytes : List ℕ) (parts : List (List ℕ)) : Type 0 where
  pub each : All (λ part. length part ≡ size) parts
  pub joined : concat parts ≡ take (size * length parts) bytes
  pub left : length bytes < size * length parts + size

-- bytes fall into their pieces
abbrev pub FallIntoPieces : ℕ → List ℕ → Type 0
FallIntoPieces size bytes = 0 < size → AreWholePieces size bytes (pieces size bytes)
