-- A history as a search sees it that leaves out the commits below a least rank: their generation numbers are 0. For private
-- contracts alone.
use Rattle.std.specs.Prelude.{◌≡◌, ◌⊎◌, ℕ, suc, ◌<◌, ◌≤◌, List, [], ◌∷◌, nat_lt, if◌then◌else◌}
use Rattle.graph_walks.specs.declared.TheConstants.{GENERATION_NUMBER_MAX}
use Rattle.graph_walks.specs.History.{Node, generation_at}
use Rattle.graph_walks.specs.Walks.{IsProperAncestor, Reaches}
use Rattle.commit_search.specs.Ranks.{Ranking}
use Rattle.commit_search.specs.Source.{Told}

-- the generation number that a search sees of a commit with this rank
abbrev pub seen_number : ℕ → ℕ → ℕ → ℕ
seen_number least rank number = if nat_lt rank least then 0 else number

-- the commits from position p on
abbrev pub seen_from : Ranking → ℕ → ℕ → List Node → List Node
seen_from ranking least p [] = []
seen_from ranking least p (node ∷ nodes) =
    record { generation = seen_number least (ranking.rank p) node.generation; parents = node.parents }
    ∷ seen_from ranking least (suc p) nodes

-- all commits
abbrev pub seen_history : Ranking → ℕ → List Node → List Node
seen_history ranking least history = seen_from ranking least 0 history

abbrev pub seen_told : Ranking → ℕ → Told → Told
seen_told ranking least t = record { history = seen_history ranking least t.history; lists = t.lists }

-- What no read changes of a source whose commits are seen so. The reference is named too.
pub record KnownRanked (K : Type 0) : Type 0 where
  pub source : K
  pub ranking : Told → Ranking
  pub least : ℕ
  pub commits : ℕ

-- generation numbers never rise along walks
abbrev pub NeverRise : List Node → Type 0
NeverRise history = (p q : ℕ) → Reaches history p q → generation_at history q ≤ generation_at history p

-- What a search asks of generation numbers so that its answer is exact: they never rise along walks, and where one leads from
-- one commit to the other, they fall from the first to the second, or both are at the cap.
pub record AreSearchable (history : List Node) (from to : ℕ) : Type 0 where
  pub never_rise : NeverRise history
  pub fall : IsProperAncestor history from to → (generation_at history to < generation_at history from)
      ⊎ ((generation_at history to ≡ GENERATION_NUMBER_MAX) × (generation_at history from ≡ GENERATION_NUMBER_MAX))
