-- With which paint words of the extra edge lists were passed. For private contracts alone.
use Rattle.std.specs.Prelude.{◌≡◌, ◌≢◌, ◌⊎◌, ℕ, ◌+◌, List, [], slice_index_or, Contains}
use Rattle.graph_bases.specs.declared.paint.Paint.{Paint}
use Rattle.graph_bases.specs.declared.paint.Paint.TheVariants.{Bare}

-- the paint of a word, bare past the last one
abbrev pub trail_at : List Paint → ℕ → Paint
trail_at trail w = slice_index_or trail w Bare

-- the trail of the layer with this index, none past the last one
abbrev pub trail_in : List (List Paint) → ℕ → List Paint
trail_in trails l = slice_index_or trails l []

-- each word with paint is one of the starts, or the word before it has paint
abbrev pub AreTrailStarts : List Paint → List ℕ → Type 0
AreTrailStarts trail starts = (w : ℕ) → trail_at trail w ≢ Bare
    → Contains starts w ⊎ ((v : ℕ) × (w ≡ v + 1) × (trail_at trail v ≢ Bare))
