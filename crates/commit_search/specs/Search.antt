-- The state of a search along parents: which commits it has reached, and over which words of the extra edge lists it has gone.
-- For private contracts alone.
use Rattle.std.specs.Prelude.{◌≡◌, ◌⊎◌, ℕ, ◌+◌, ◌^◌, ◌<◌, ◌≤◌, List, [], ◌∷◌, ◌++◌, length, slice_get, slice_index, Option}
use Rattle.std.specs.Prelude.{Some, None}
use Rattle.graph_walks.specs.History.{Node, IsParent, generation_at}
use Rattle.graph_format.specs.Parents.{extra_edge_of}
use Rattle.graph_format.specs.declared.Position.{Position}
use Rattle.graph_format.specs.declared.parents.ExtraEdge.TheVariants as extra
use Rattle.graph_format.specs.declared.parents.ParentEdge.{ParentEdge}
use Rattle.graph_format.specs.declared.parents.ParentEdge.TheVariants as edge
use Rattle.commit_search.specs.Marks.{Marked, IsMarked, marked_at}
use Rattle.commit_search.specs.Queue.{IsQueueOf, IsQueued, Extends, commit_in}
use Rattle.commit_search.specs.EdgeLists.{named_by}
use Rattle.commit_search.specs.Source.{Told, AreFieldsRead}
use Rattle.commit_search.specs.declared.ahead.Ahead.{Ahead}
use Rattle.commit_search.specs.SearchState.{SearchState}

-- the commits that a search has reached
abbrev pub queued_by : SearchState → List Marked
queued_by s = s.reached.marked

-- Nothing is marked.
pub record IsIdle (s : SearchState) : Type 0 where
  pub reached : queued_by s ≡ []
  pub words : (l : ℕ) → marked_at s.words l ≡ []

-- p may be of use, as far as a source says its generation number
abbrev pub MayBeOfUse : (Told → Type 0) → ℕ → ℕ → Type 0
MayBeOfUse says least p = (t : Told) → says t → least ≤ generation_at t.history p

-- q is a parent of p, as far as a source says so
abbrev pub Leads : (Told → Type 0) → ℕ → ℕ → Type 0
Leads says p q = (t : Told) → says t → IsParent t.history p q

-- a source that says so tells of so many commits
abbrev pub AreSoMany : ℕ → (Told → Type 0) → Type 0
AreSoMany count says = (t : Told) → says t → length t.history ≡ count

-- A search goes on, over a source of so many commits that says what it tells.
pub record IsSearching (count : ℕ) (says : Told → Type 0) (s : SearchState) : Type 0 where
  pub few : count < 2 ^ 32
  pub room : count ≤ s.reached.bound
  pub counted : AreSoMany count says
  pub queue : IsQueueOf count (MayBeOfUse says s.least) (Leads says) (queued_by s)

-- Of an extra edge list those words that are marked were gone over: the parent that each names is queued where it is of use,
-- and the word after it is marked too, unless it names the last parent, or the word after it is to be gone over next.
pub record IsRead (history : List Node) (least : ℕ) (queued : List Marked) (list : List ℕ) (marked : List Marked)
    (next : Option ℕ) : Type 0 where
  pub named : (w : ℕ) → IsMarked marked w → least ≤ generation_at history (named_by (extra_edge_of (slice_index list w)))
      → IsQueued queued (named_by (extra_edge_of (slice_index list w)))
  pub goes_on : (w : ℕ) (pos : Position) → IsMarked marked w → extra_edge_of (slice_index list w) ≡ extra.Internal pos
      → IsMarked marked (w + 1) ⊎ (next ≡ Some (w + 1))

-- so of the list of a layer
abbrev pub IsListRead : Told → SearchState → ℕ → Option ℕ → Type 0
IsListRead t s l next = IsRead t.history s.least (queued_by s) (t.lists l) (marked_at s.words l) next

-- and of the lists of all layers
abbrev pub AreRead : (Told → Type 0) → SearchState → Type 0
AreRead says s = (t : Told) → says t → (l : ℕ) → IsListRead t s l None

-- The search went on from the commit at place c.
pub record GoesOn (old new : SearchState) (c : ℕ) : Type 0 where
  pub least : new.least ≡ old.least
  pub extends : Extends (queued_by old) (queued_by new) c

-- A commit with this generation number was put at the end of the queue, reached from place c, unless it was there before or is
-- of no use.
pub record IsEnqueued (old new : SearchState) (p c number : ℕ) : Type 0 where
  pub least : new.least ≡ old.least
  pub bound : new.reached.bound ≡ old.reached.bound
  pub queue : ((queued_by new ≡ queued_by old) × (old.least ≤ number → IsQueued (queued_by old) p))
      ⊎ ((queued_by new ≡ queued_by old ++ record { number = p; mark = c } ∷ []) × (old.least ≤ number)
      × (¬ IsQueued (queued_by old) p))

-- The number is the generation number of the parent that a parent field names itself.
abbrev pub IsParentNumber : (Told → Type 0) → ParentEdge → ℕ → Type 0
IsParentNumber says edge.None number = Unit {0}
IsParentNumber says (edge.GraphPosition pos) number = (t : Told) → says t → number ≡ generation_at t.history pos.0
IsParentNumber says (edge.ExtraEdgeIndex index) number = Unit {0}

-- The fields that were read ahead are the parent fields of commits that stand one after another in the queue.
abbrev pub AreFieldsAhead : ℕ → (ℕ → ℕ → Type 0) → (ℕ → ℕ → Type 0) → (Told → Type 0) → SearchState → Ahead → Type 0
AreFieldsAhead count listed lies says s ahead = (i : ℕ) (fields : ParentEdge × ParentEdge)
    → slice_get ahead.fields.items i ≡ Some fields
    → (ahead.first + i < length (queued_by s))
    × AreFieldsRead count listed lies says (commit_in (queued_by s) (ahead.first + i)) fields

-- The numbers are those of the parents that the first of the fields at the same index names.
abbrev pub AreParentNumbers : (Told → Type 0) → List (ParentEdge × ParentEdge) → List ℕ → Type 0
AreParentNumbers says fields numbers = (i : ℕ) (both : ParentEdge × ParentEdge) (number : ℕ)
    → slice_get fields i ≡ Some both → slice_get numbers i ≡ Some number → IsParentNumber says both.0 number

-- what was read ahead
pub record AreAhead (count : ℕ) (listed lies : ℕ → ℕ → Type 0) (says : Told → Type 0) (s : SearchState) (ahead : Ahead)
    : Type 0 where
  pub fields : AreFieldsAhead count listed lies says s ahead
  pub as_many : length ahead.numbers.items ≡ length ahead.fields.items
  pub numbers : AreParentNumbers says ahead.fields.items ahead.numbers.items
