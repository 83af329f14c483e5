-- the answers of `ancestor`, their texts and their exit statuses
use Rattle.std.specs.Prelude.{◌≡◌, ◌⊎◌, ℕ, List, Result, Ok, Err, Option, Some, None, Vec, ⊤, codes, decimal}
use Rattle.std.specs.Global.{Global}
use Rattle.std.specs.List.{flat_map}
use Rattle.std.specs.Option.{option_map_or}
use Rattle.gix_hash_core.specs.Hexadecimal.{SpellsId, SpellsNone}
use Rattle.gix_hash_core.specs.declared.object_id.IdError.{IdError}
use Rattle.graph_format.specs.Layer.{Layer}
use Rattle.graph_format.specs.Lookup.{scan}
use Rattle.graph_format.specs.StoredHistory.{history_of}
use Rattle.graph_format.specs.declared.Position.{Position}
use Rattle.graph_layer.specs.declared.opening.error.OpenError.{OpenError}
use Rattle.gix_commitgraph.specs.Graph.{graph_ids}
use Rattle.gix_commitgraph.specs.GraphLookup.{FoundIn}
use Rattle.gix_commitgraph.specs.Sound.{Sound}
use Rattle.commit_search.specs.WalkAnswer.{IsAnswer}
use Rattle.graph_ancestors.specs.RefusedGraph.{MayRefuseGraph}
use Rattle.graph_commands.specs.declared.ancestor.Ancestry.{Ancestry}
use Rattle.graph_commands.specs.declared.ancestor.Ancestry.TheVariants.{FirstUnknown, SecondUnknown, Known}
use Rattle.graph_commands.specs.declared.refusal.Refusal.{Refusal}
use Rattle.graph_commands.specs.declared.refusal.Refusal.TheVariants.{Id, Read, File, Open, Verify, Walk}
use Rattle.graph_commands.specs.RefusalLines.{refusal_text, refusal_status}
use Rattle.graph_commands.specs.Text.{◌⧺◌, newline}

-- what a query between the commits with two ids may find in a right graph: the first of the ids that is not there, by an
-- answer to its lookup; else an answer to the query between the positions where the ids are
abbrev pub MayFindBetween : List Layer → List ℕ → List ℕ → Ancestry → Type 0
MayFindBetween layers first second FirstUnknown = FoundIn layers first None
MayFindBetween layers first second SecondUnknown = (from : ℕ) × FoundIn layers first (Some from) × FoundIn layers second None
MayFindBetween layers first second (Known reached) =
    (from to : ℕ) × FoundIn layers first (Some from) × FoundIn layers second (Some to)
    × IsAnswer (history_of layers) from to reached

-- an id is in a graph: a scan of all ids finds it
abbrev pub IsThere : List Layer → List ℕ → Type 0
IsThere layers id = (p : ℕ) × (scan (graph_ids layers) id ≡ Some p)

-- what may be answered of a graph: in one that is right, what the query finds, or that memory ran out in the search, where both
-- ids are there; else why the check refuses it
abbrev pub MayAnswerIn : List Layer → List ℕ → List ℕ → Result Ancestry Refusal → Type 0
MayAnswerIn layers first second (Ok ancestry) = Sound layers × MayFindBetween layers first second ancestry
MayAnswerIn layers first second (Err (Verify error)) = MayRefuseGraph layers error
MayAnswerIn layers first second (Err Walk) = Sound layers × IsThere layers first × IsThere layers second
MayAnswerIn layers first second (Err (Id error)) = ⊥
MayAnswerIn layers first second (Err (Read error)) = ⊥
MayAnswerIn layers first second (Err (File error)) = ⊥
MayAnswerIn layers first second (Err (Open error)) = ⊥

-- the texts are two ids, and this may be answered of a graph that the opener may answer
abbrev pub MayAnswerOpened : List ℕ → List ℕ → (Result (List Layer) OpenError → Type 0) → Result Ancestry Refusal → Type 0
MayAnswerOpened first second MayOpen answer =
    (a b : List ℕ) × SpellsId first a × SpellsId second b
    × ((layers : List Layer) × MayOpen (Ok layers) × MayAnswerIn layers a b answer)

-- the first of the texts that is no id, and why
abbrev pub SpellNoIds : List ℕ → List ℕ → IdError → Type 0
SpellNoIds first second error = SpellsNone first error ⊎ ((a : List ℕ) × SpellsId first a × SpellsNone second error)

-- what `ancestor` may answer for the texts of two ids, given what the opener may answer. For a text that is no id the folder
-- is left as it was: nothing is opened
abbrev pub MayRelate : List ℕ → List ℕ → Type 0 → (Result (List Layer) OpenError → Type 0) → Result Ancestry Refusal → Type 0
MayRelate first second IsLeftAlone MayOpen (Err (Id error)) = SpellNoIds first second error × IsLeftAlone
MayRelate first second IsLeftAlone MayOpen (Err (Open error)) =
    (a b : List ℕ) × SpellsId first a × SpellsId second b × MayOpen (Err error)
MayRelate first second IsLeftAlone MayOpen answer = MayAnswerOpened first second MayOpen answer

-- a position of a walk
abbrev pub step_text : Position → List ℕ
step_text pos = codes " " ⧺ decimal pos.0

-- a walk, by its positions from its first commit to its last; or that there is none
abbrev pub walk_line : Option (Vec Position Global) → List ℕ
walk_line (Some walk) = codes "walk" ⧺ flat_map step_text walk.items ⧺ newline
walk_line None = codes "none" ⧺ newline

-- how many commits were visited
abbrev pub visits_line : ℕ → List ℕ
visits_line visits = codes "visits " ⧺ decimal visits ⧺ newline

-- what a query found
abbrev pub ancestry_text : Ancestry → List ℕ
ancestry_text FirstUnknown = codes "unknown 1" ⧺ newline
ancestry_text SecondUnknown = codes "unknown 2" ⧺ newline
ancestry_text (Known reached) = walk_line reached.walk ⧺ visits_line reached.visits

-- 0 for a walk, and 1 where there is none or an id is not there
abbrev pub ancestry_status : Ancestry → ℕ
ancestry_status (Known reached) = option_map_or (λ walk. 0) reached.walk 1
ancestry_status unknown = 1

-- what a query found, or the line of a refusal
abbrev pub ancestor_text : Result Ancestry Refusal → List ℕ
ancestor_text (Ok ancestry) = ancestry_text ancestry
ancestor_text (Err refusal) = refusal_text refusal ⧺ newline

-- the status of what a query found, and else that of the refusal
abbrev pub ancestor_status : Result Ancestry Refusal → ℕ
ancestor_status (Ok ancestry) = ancestry_status ancestry
ancestor_status (Err refusal) = refusal_status refusal

-- For private contracts: it is an answer to a query between positions, which alone may have a walk to write
abbrev pub MayHaveWalk : Ancestry → Type 0
MayHaveWalk (Known reached) = ⊤
MayHaveWalk unknown = ⊥
