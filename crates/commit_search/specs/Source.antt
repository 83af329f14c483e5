-- what a source of commits says of them, as a search along parents reads it
use Rattle.std.specs.Prelude.{◌≡◌, ◌⊎◌, ℕ, ◌+◌, ◌<◌, List, length, slice_index, Contains}
use Rattle.graph_walks.specs.History.{Node, IsParent}
use Rattle.graph_format.specs.Layer.{Layer}
use Rattle.graph_format.specs.StoredHistory.{history_of}
use Rattle.graph_format.specs.Parents.{extra_edge_of}
use Rattle.graph_format.specs.declared.parents.ParentEdge.{ParentEdge}
use Rattle.graph_format.specs.declared.parents.ParentEdge.TheVariants as edge
use Rattle.graph_format.specs.declared.parents.ExtraEdge.{ExtraEdge}
use Rattle.graph_format.specs.declared.parents.ExtraEdge.TheVariants as extra
use Rattle.commit_search.specs.EdgeLists.{list_in, named_by, named_from}

-- What a source may tell, with which all that was read of it agrees.
pub record Told : Type 0 where
  pub history : List Node
  -- the words of the extra edge list of each layer
  pub lists : ℕ → List ℕ

-- what a graph tells
abbrev pub told_of : List Layer → Told
told_of layers = record { history = history_of layers; lists = list_in layers }

-- a parent field names one of so many commits itself, or a word that is listed ("Commit Data")
abbrev pub IsFieldWithin : ℕ → (ℕ → Type 0) → ParentEdge → Type 0
IsFieldWithin count listed edge.None = Unit {0}
IsFieldWithin count listed (edge.GraphPosition pos) = pos.0 < count
IsFieldWithin count listed (edge.ExtraEdgeIndex index) = listed index

-- the commits that the words of a layer's list name from one on are parents of p
abbrev pub IsListTrue : Told → ℕ → ℕ → ℕ → Type 0
IsListTrue told p l index =
    (q : ℕ) → Contains (named_from (told.lists l) index) q → q < length told.history → IsParent told.history p q

-- a parent field of p names parents of p alone: itself, or from a word on in the list of the layer in which its commit lies
abbrev pub IsFieldTrue : Told → (ℕ → Type 0) → ℕ → ParentEdge → Type 0
IsFieldTrue told lies p edge.None = Unit {0}
IsFieldTrue told lies p (edge.GraphPosition pos) = IsParent told.history p pos.0
IsFieldTrue told lies p (edge.ExtraEdgeIndex index) = (l : ℕ) → lies l → IsListTrue told p l index

-- a parent field names q: itself, or from a word on in the list of each layer in which its commit lies
abbrev pub FieldNames : (ℕ → List ℕ) → (ℕ → Type 0) → ParentEdge → ℕ → Type 0
FieldNames lists lies edge.None q = ⊥
FieldNames lists lies (edge.GraphPosition pos) q = pos.0 ≡ q
FieldNames lists lies (edge.ExtraEdgeIndex index) q = (l : ℕ) → lies l → Contains (named_from (lists l) index) q

-- Both parent fields of p are as a source tells, and together they name all parents of p.
pub record AreFieldsTold (told : Told) (lies : ℕ → Type 0) (p : ℕ) (fields : ParentEdge × ParentEdge) : Type 0 where
  pub first : IsFieldTrue told lies p fields.0
  pub second : IsFieldTrue told lies p fields.1
  pub all : (q : ℕ) → IsParent told.history p q
      → FieldNames told.lists lies fields.0 q ⊎ FieldNames told.lists lies fields.1 q

-- What is read of both parent fields of p, from a source of so many commits that says what it tells.
pub record AreFieldsRead (count : ℕ) (listed lies : ℕ → ℕ → Type 0) (says : Told → Type 0) (p : ℕ)
    (fields : ParentEdge × ParentEdge) : Type 0 where
  pub first : IsFieldWithin count (listed p) fields.0
  pub second : IsFieldWithin count (listed p) fields.1
  pub told : (t : Told) → says t → AreFieldsTold t (lies p) p fields

-- What is read of one of them.
pub record IsFieldRead (count : ℕ) (listed lies : ℕ → ℕ → Type 0) (says : Told → Type 0) (p : ℕ) (field : ParentEdge)
    : Type 0 where
  pub within : IsFieldWithin count (listed p) field
  pub told : (t : Told) → says t → IsFieldTrue t (lies p) p field

-- The word of this index of a layer's list is as a source tells.
pub record IsWordTold (told : Told) (l index : ℕ) (word : ExtraEdge) : Type 0 where
  pub there : index < length (told.lists l)
  pub says : word ≡ extra_edge_of (slice_index (told.lists l) index)

-- after a word that is not the last of its commit, the next one is there, and is listed too ("Extra Edge List")
abbrev pub IsNextListed : ℕ → (ℕ → Type 0) → ℕ → ExtraEdge → Type 0
IsNextListed words listed index (extra.Internal pos) = (index + 1 < words) × listed (index + 1)
IsNextListed words listed index (extra.Last pos) = Unit {0}

-- What is read of a word that is listed for p, of a layer's list of so many words, from a source of so many commits.
pub record IsWordRead (count words : ℕ) (listed : ℕ → ℕ → Type 0) (says : Told → Type 0) (p l index : ℕ) (word : ExtraEdge)
    : Type 0 where
  pub commit : named_by word < count
  pub next : IsNextListed words (listed p) index word
  pub told : (t : Told) → says t → IsWordTold t l index word
