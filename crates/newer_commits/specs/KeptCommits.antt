-- How newer commits are kept. For the invariant of their type and for private contracts alone.
use Rattle.std.specs.Prelude.{◌≡◌, ◌+◌, ◌<◌, ◌^◌, ℕ, List, [], ◌∷◌, ◌++◌, map, length, drop, slice_get, Contains, Some, None}
use Rattle.std.specs.Option.{MatchOption}
use Rattle.std.specs.Ordering.{nat_cmp}
use Rattle.std.specs.Cmp.Lexicographic.{slice_cmp}
use Rattle.std.specs.BTreeMap as tree
use Rattle.graph_format.specs.Parents.{listed}
use Rattle.graph_format.specs.declared.parents.ParentEdge.{ParentEdge}
use Rattle.graph_format.specs.declared.parents.ParentEdge.TheVariants as edge
use Rattle.commit_search.specs.EdgeLists.{named_from}
use Rattle.newer_commits.specs.CommitsOnTop.{CommitsOnTop, NewerCommit}
use Rattle.newer_commits.specs.Room.{AreFewEnough}
use Rattle.newer_commits.specs.declared.commits.Stored.{Stored}

-- the parents that a field names
abbrev pub field_names : List ℕ → ParentEdge → List ℕ
field_names words edge.None = []
field_names words (edge.GraphPosition pos) = pos.0 ∷ []
field_names words (edge.ExtraEdgeIndex index) = named_from words index

-- those that both fields name
abbrev pub fields_name : List ℕ → ParentEdge × ParentEdge → List ℕ
fields_name words fields = field_names words fields.0 ++ field_names words fields.1

-- the words that a field leads to end with a last one
abbrev pub IsWhole : List ℕ → ParentEdge → Type 0
IsWhole words edge.None = Unit {0}
IsWhole words (edge.GraphPosition pos) = Unit {0}
IsWhole words (edge.ExtraEdgeIndex index) = (listed (drop index words)).fault ≡ None

abbrev pub AreWhole : List ℕ → ParentEdge × ParentEdge → Type 0
AreWhole words fields = IsWhole words fields.0 × IsWhole words fields.1

-- the commit that is kept so
abbrev pub commit_of : List ℕ → Stored → NewerCommit
commit_of words s =
    record { id = s.id; node = record { generation = s.generation; parents = fields_name words s.fields } }

abbrev pub stored_ids : List Stored → List (List ℕ)
stored_ids commits = map (λ s. s.id) commits

-- A commit is kept well: its list has an end, and its parents stand before this position.
pub record IsWellKept (words : List ℕ) (bound : ℕ) (s : Stored) : Type 0 where
  pub whole : AreWhole words s.fields
  pub parents : (q : ℕ) → Contains (fields_name words s.fields) q → q < bound

-- the map has the number of each id, and of no other
abbrev pub AreNumbersOf : tree.BTreeMap (List ℕ) ℕ → List (List ℕ) → Type 0
AreNumbersOf numbers ids =
    (id : List ℕ) → MatchOption (tree.get (slice_cmp nat_cmp) numbers id) (¬ Contains ids id)
    (λ i. slice_get ids i ≡ Some id)

-- What holds of newer commits as they are kept.
pub record AreWellKept (below : ℕ) (numbers : tree.BTreeMap (List ℕ) ℕ) (commits : List Stored) (words : List ℕ) : Type 0 where
  pub each : (i : ℕ) (s : Stored) → slice_get commits i ≡ Some s → IsWellKept words (below + i) s
  pub numbered : AreNumbersOf numbers (stored_ids commits)
  pub few : AreFewEnough below (length commits)
  pub few_words : length words < 2 ^ 32
  pub narrow : below < 2 ^ 32

-- the value of newer commits that are kept so
abbrev pub kept_value : ℕ → List Stored → List ℕ → CommitsOnTop
kept_value below commits words = record { below = below; commits = map (commit_of words) commits; words = words }

-- this is what is kept of the newer commit with this number
abbrev pub IsKeptAt : CommitsOnTop → ℕ → Stored → Type 0
IsKeptAt top i s = (slice_get top.commits i ≡ Some (commit_of top.words s)) × IsWellKept top.words (top.below + i) s

-- What is told of a newer commit by its number: the fields of its parents, which name exactly these, all of them there.
pub record AreFieldsOnTop (top : CommitsOnTop) (i : ℕ) (parents : List ℕ) (fields : ParentEdge × ParentEdge) : Type 0 where
  pub named : fields_name top.words fields ≡ parents
  pub whole : AreWhole top.words fields
  pub before : (q : ℕ) → Contains parents q → q < top.below + i
