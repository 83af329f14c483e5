-- For private contracts: what is kept of a graph from one question to the next.
use Rattle.std.specs.Prelude.{ℕ, List, Option, Result, Ok, ⊤}
use Rattle.graph_folder.specs.Tree.{Tree}
use Rattle.graph_format.specs.Layer.{Layer}
use Rattle.graph_layer.specs.OpenAnswer.{result_map}
use Rattle.gix_commitgraph.specs.Sound.{Sound}
use Rattle.graph_commands.specs.OpenerAnswer.{MayOpen}
use Rattle.graph_commands.specs.declared.refusal.Refusal.{Refusal}
use Rattle.graph_unchecked.specs.Trusted.{IsTrustedAt}
use Rattle.unchecked_questions.specs.declared.asker.Kept.{Kept}
use Rattle.unchecked_questions.specs.declared.asker.Kept.TheVariants as kept
use Rattle.unchecked_questions.specs.declared.asker.Opened.{Opened}

-- the opener may answer the graph of these layers in each call in which no read fails
abbrev pub MayStay : Option Tree → List ℕ → List Layer → Type 0
MayStay known path layers = (failures : ℕ) → MayOpen known path failures failures (Ok layers)

-- what is kept is of the graph at the path: parts of its files, or all of it, which is right
abbrev pub IsKeptAt : Option Tree → List ℕ → Kept → Type 0
IsKeptAt known path (kept.Parts graph) = IsTrustedAt known path graph
IsKeptAt known path (kept.Whole graph) = MayStay known path graph.layers × Sound graph.layers
IsKeptAt known path kept.Nothing = ⊤

-- how many commits the graph has that was opened
abbrev pub opened_count : Result Opened Refusal → Result ℕ Refusal
opened_count opened = result_map (λ (o : Opened). o.commits) opened
