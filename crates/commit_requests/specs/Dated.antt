-- Commits in the order of their dates. For private contracts alone.
use Rattle.std.specs.Prelude.{◌≡◌, ◌<◌, ℕ, List, All, Contains, length, map}
use Rattle.std.specs.List.Sorted.{IsNonDecreasingBy}
use Rattle.graph_levels.specs.OnTop.{level_at}
use Rattle.graph_levels.specs.declared.level.Level.{Level}
use Rattle.commit_requests.specs.declared.order.Placed.{Placed}

-- a commit that has a level, with its date
abbrev pub IsDated : List Level → Placed → Type 0
IsDated levels place = (place.number < length levels) × (place.date ≡ (level_at levels place.number).date)

-- Each commit that has a level is there once or more, with its date.
pub record AreDatedPlaces (levels : List Level) (places : List Placed) : Type 0 where
  pub each : All (IsDated levels) places
  pub every : (n : ℕ) → n < length levels → Contains (map (λ place. place.number) places) n

-- So it is, and early dates come first.
pub record AreDated (levels : List Level) (places : List Placed) : Type 0 where
  pub each : All (IsDated levels) places
  pub every : (n : ℕ) → n < length levels → Contains (map (λ place. place.number) places) n
  pub rising : IsNonDecreasingBy (λ place. place.date) places
