-- what the calls that read a graph answer
use Rattle.std.specs.Prelude.{◌≡◌, ◌≢◌, ◌==◌, ℕ, List, Bool, Option, Some, None, IsSomeAnd, ◌++◌, length, take, drop, slice_get}
use Rattle.std.specs.Prelude.{if◌then◌else◌, false, option_map, true}
use Rattle.graph_format.specs.Format.{Record}
use Rattle.graph_format.specs.Layer.{Layer, record_at}
use Rattle.graph_format.specs.Lookup.{scan}
use Rattle.gix_commitgraph.specs.Graph.{graph_ids, graph_commits}
use Rattle.gix_commitgraph.specs.GraphLookup.{FoundIn}
use Rattle.c_opening.specs.declared.read.CgCommit.{CgCommit}

-- the layers of a graph that is open
abbrev pub layers_of : Option (List Layer × Bool) → Option (List Layer)
layers_of held = option_map (λ h. h.0) held

-- the number that stands for no position
abbrev pub nowhere : ℕ
nowhere = 0xffffffff

-- the position that a number tells of, if it tells of one
abbrev pub told_position : ℕ → Option ℕ
told_position number = if number == nowhere then None else Some number

-- the room, with as many of the items as it has places for written from its start on
abbrev pub written : {T : Type 0} → List T → List T → List T
written items room = take (length room) items ++ drop (length items) room

-- the id at a position
abbrev pub HasId : Option (List Layer) → ℕ → List ℕ → Type 0
HasId layers pos id = IsSomeAnd layers (λ l. slice_get (graph_ids l) pos ≡ Some id)

-- the record of the commit at a position has a property
abbrev pub HasRecord : Option (List Layer) → ℕ → (Record → Type 0) → Type 0
HasRecord layers pos P = IsSomeAnd layers (λ l. IsSomeAnd (slice_get (graph_commits l) pos) (λ c. P (record_at c.0 c.1)))

-- the layer and the position there of the commit at a position have a property
abbrev pub HasCommit : Option (List Layer) → ℕ → (Layer × ℕ → Type 0) → Type 0
HasCommit layers pos P = IsSomeAnd layers (λ l. IsSomeAnd (slice_get (graph_commits l) pos) P)

-- what is told of a commit, but for its tree and its parents
abbrev pub told_commit : Layer × ℕ → CgCommit
told_commit commit = let r = record_at commit.0 commit.1 in record { time = r.time; generation = r.generation }

-- A number answers where an id stands in a graph, which was checked or not.
pub record AnswersLookup (held : List Layer × Bool) (id : List ℕ) (number : ℕ) : Type 0 where
  pub holds : number ≢ nowhere → slice_get (graph_ids held.0) number ≡ Some id
  pub unchecked : held.1 ≡ false → FoundIn held.0 id (told_position number)
  pub checked : held.1 ≡ true → told_position number ≡ scan (graph_ids held.0) id
