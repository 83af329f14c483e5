-- A coat for each commit of a graph. For private contracts alone.
use Rattle.std.specs.Prelude.{◌≡◌, ◌⊎◌, ◌==◌, if◌then◌else◌, ℕ, ◌<◌, false, List, [], ◌∷◌, All, Contains, length, map}
use Rattle.std.specs.Prelude.{slice_index_or}
use Rattle.std.specs.List.{range_with_len}
use Rattle.graph_bases.specs.declared.paint.Coat.{Coat}
use Rattle.graph_bases.specs.declared.paint.Paint.TheVariants.{Bare}

-- the coat of a commit of which nothing is known
abbrev pub bare : Coat
bare = record { paint = Bare; queued = false }

abbrev pub coat_at : List Coat → ℕ → Coat
coat_at coats p = slice_index_or coats p bare

-- Each commit whose coat is not bare is one of these, and all of these have a coat.
pub record AreChanged (coats : List Coat) (changed : List ℕ) : Type 0 where
  pub within : All (λ n. n < length coats) changed
  pub those : (p : ℕ) → (coat_at coats p ≡ bare) ⊎ Contains changed p

-- the coat of a commit, where those of some commits are kept in the order of these, and all others are bare
abbrev pub kept_coat : List ℕ → List Coat → ℕ → Coat
kept_coat [] coats p = bare
kept_coat (n ∷ painted) [] p = bare
kept_coat (n ∷ painted) (coat ∷ coats) p = if n == p then coat else kept_coat painted coats p

-- A coat is kept for each of these commits, and none stands there twice.
pub record AreKeptCoats (painted : List ℕ) (coats : List Coat) : Type 0 where
  pub as_many : length coats ≡ length painted
  pub once : (i j : ℕ) → i < length painted → j < length painted
      → slice_index_or painted i 0 ≡ slice_index_or painted j 0 → i ≡ j

-- the coats of so many commits
abbrev pub sheet_of : List ℕ → List Coat → ℕ → List Coat
sheet_of painted coats count = map (kept_coat painted coats) (range_with_len 0 count)
