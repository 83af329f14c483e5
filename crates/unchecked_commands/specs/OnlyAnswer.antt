-- what is answered of the graph at a path whose files are read by parts
use Rattle.std.specs.Prelude.{◌≡◌, ℕ, List, Result, Ok, Err, IsOkAnd}
use Rattle.graph_folder.specs.Failures.{one_more}
use Rattle.graph_format.specs.Layer.{Layer}
use Rattle.graph_layer.specs.OpenAnswer.{IsAsExpected}
use Rattle.graph_layer.specs.declared.opening.error.OpenError.{OpenError}
use Rattle.graph_layer.specs.declared.opening.error.OpenError.TheVariants.{Device}
use Rattle.graph_commands.specs.declared.refusal.Refusal.{Refusal}
use Rattle.graph_commands.specs.declared.refusal.Refusal.TheVariants.{Open, Walk}

-- where no read fails and memory suffices, the opener may answer this alone: so it is where it is known what stands in the folder
abbrev pub IsOnlyAnswer : (ℕ → ℕ → Result (List Layer) OpenError → Type 0) → Result (List Layer) OpenError → Type 0
IsOnlyAnswer MayOpen opened = (answer : Result (List Layer) OpenError) → MayOpen 0 0 answer → IsAsExpected answer opened

-- What may be answered by parts, while the count of failed reads goes from `before` to `after`: what is so of the graph that is
-- the opener's only answer, and nothing where this is a refusal; or that a read failed, which is counted; or that memory ran out.
abbrev pub IsReadByParts : {A : Type 0} → (ℕ → ℕ → Result (List Layer) OpenError → Type 0) → ℕ → ℕ
    → (List Layer → A → Type 0) → Result A Refusal → Type 0
IsReadByParts MayOpen before after IsSo (Ok answer) =
    (after ≡ before) × ((opened : Result (List Layer) OpenError) → IsOnlyAnswer MayOpen opened
    → IsOkAnd opened (λ layers. IsSo layers answer))
IsReadByParts MayOpen before after IsSo (Err (Open Device)) = after ≡ one_more before
IsReadByParts MayOpen before after IsSo (Err Walk) = after ≡ before
IsReadByParts MayOpen before after IsSo (Err refusal) = ⊥
