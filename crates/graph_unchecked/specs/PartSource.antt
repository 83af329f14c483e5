-- what a source of commits says whose files are read by parts
use Rattle.std.specs.Prelude.{◌≡◌, ℕ, ◌+◌, ◌<◌, List, Option, length, min, nat_lt, if◌then◌else◌, slice_get}
use Rattle.std.specs.Option.{option_map_or}
use Rattle.graph_folder.specs.Tree.{Tree}
use Rattle.graph_format.specs.Layer.{Layer}
use Rattle.graph_format.specs.declared.parents.ExtraEdge.{ExtraEdge}
use Rattle.graph_format.specs.declared.parents.ExtraEdge.TheVariants as extra
use Rattle.graph_format.specs.declared.parents.ParentEdge.{ParentEdge}
use Rattle.graph_format.specs.declared.parents.ParentEdge.TheVariants as edge
use Rattle.gix_commitgraph.specs.Graph.{IsGraph}
use Rattle.graph_format.specs.StoredHistory.{history_of}
use Rattle.commit_search.specs.EdgeLists.{list_in, named_by}
use Rattle.commit_search.specs.Ranks.{Ranking, by_date}
use Rattle.commit_search.specs.Source.{IsFieldWithin, Told}
use Rattle.graph_chunks.specs.GraphStoredDates.{dates_of}
use Rattle.graph_find.specs.declared.chain.ChainLayer.{ChainLayer}
use Rattle.graph_parts.specs.PartFiles.{edge_count}
use Rattle.graph_parts.specs.OfTree.{AreOfTree}
use Rattle.graph_parts.specs.Shown.{AreGraphParts, Shows, files_of}
use Rattle.graph_parts.specs.Spots.{LiesInFile}
use Rattle.graph_parts.specs.declared.parts.GraphParts.{GraphParts}

-- What no read changes: the tree, where it is known, the files, and how many reads had failed before. The references are named
-- too.
pub record KnownParts : Type 0 where
  pub tree : Option Tree
  pub files : List ChainLayer
  pub failures : ℕ
  pub folder : ℕ
  pub parts : ℕ

-- that of these parts, read in a folder of this tree, where so many reads had failed before; both are behind these references
abbrev pub known_parts : Option Tree → GraphParts → ℕ → ℕ → ℕ → KnownParts
known_parts tree parts failures folder_name parts_name =
    record { tree = tree; files = files_of parts; failures = failures; folder = folder_name; parts = parts_name }

-- how many words of the extra edge list of a file have a number of 32 bits
abbrev pub word_total : List ChainLayer → ℕ → ℕ
word_total files l = min (option_map_or edge_count (slice_get files l) 0) 4294967295

-- the word of an index is one of the file in which a position lies
abbrev pub IsWordOf : List ChainLayer → ℕ → ℕ → Type 0
IsWordOf files p index = (l : ℕ) → LiesInFile files p l → index < word_total files l

-- what a graph tells, also of the corrected dates that it stores: they are the list of each number that is none of a layer
abbrev pub told_with_dates : List Layer → Told
told_with_dates layers = record {
  history = history_of layers;
  lists = λ l. if nat_lt l (length layers) then list_in layers l else dates_of layers;
}

-- a number that is none of a layer: so many layers no graph has
abbrev pub past_all_layers : ℕ
past_all_layers = 18446744073709551616

-- the corrected dates that are told
abbrev pub told_dates : Told → Ranking
told_dates t = by_date (t.lists past_all_layers)

-- The parts say what some graph tells that they show.
pub record PartsTell (known : Option Tree) (parts : GraphParts) (t : Told) : Type 0 where
  pub layers : List Layer
  pub shows : Shows known parts layers
  pub graph : IsGraph layers
  pub told : t ≡ told_with_dates layers

-- More is read of the same files: what is told after is what was told before, and parts of a tree stay so.
pub record ReadsOn (known : Option Tree) (old new : GraphParts) : Type 0 where
  pub right : AreGraphParts new
  pub same : files_of new ≡ files_of old
  pub of : AreOfTree known old → AreOfTree known new
  pub kept : (t : Told) → PartsTell known new t → PartsTell known old t

-- the parent fields of a commit are such as can be decoded, and name some of so many commits and words ("Commit Data")
abbrev pub AreFieldsThere : ℕ → ℕ → ParentEdge → ParentEdge → Type 0
AreFieldsThere count words edge.None second = second ≡ edge.None
AreFieldsThere count words (edge.GraphPosition pos) second =
    (pos.0 < count) × IsFieldWithin count (λ index. index < words) second
AreFieldsThere count words (edge.ExtraEdgeIndex index) second = ⊥

-- one that is not the last of its commit is followed by another
abbrev pub IsFollowed : ℕ → ℕ → ExtraEdge → Type 0
IsFollowed words index (extra.Internal pos) = index + 1 < words
IsFollowed words index (extra.Last pos) = Unit {0}

-- The word of an index names one of so many commits, and is followed by another of so many words, unless it is the last of its
-- commit ("Extra Edge List").
pub record IsWordThere (count words index : ℕ) (word : ExtraEdge) : Type 0 where
  pub commit : named_by word < count
  pub next : IsFollowed words index word
