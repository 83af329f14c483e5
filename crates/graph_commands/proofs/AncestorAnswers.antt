-- From what is answered of a graph to the answer of `ancestor`.
use Rattle.std.proofs.Common.{◌≡◌, ℕ, List, ◌++◌, Vec, ap, refl, subst, sym, ◌∙◌}
use Rattle.std.specs.Prelude.{Option, Some, Result, Ok, Err}
use Rattle.std.specs.Global.{Global}
use Rattle.std.specs.Io.KnownBytes.{Appends}
use Rattle.std.specs.Option.{option_map_or}
use Rattle.std.proofs.KnownBytes.{Appends-trans}
use Rattle.gix_hash_core.specs.Hexadecimal.{SpellsId}
use Rattle.graph_format.specs.Layer.{Layer}
use Rattle.graph_format.specs.declared.Position.{Position}
use Rattle.graph_layer.specs.declared.opening.error.OpenError.{OpenError}
use Rattle.gix_commitgraph.specs.GraphLookup.{FoundIn}
use Rattle.gix_commitgraph.specs.Sound.{Sound}
use Rattle.gix_commitgraph.proofs.sound.SoundLemmas.{sound-scanned}
use Rattle.commit_search.specs.declared.Reached.{Reached}
use Rattle.graph_commands.specs.declared.ancestor.Ancestry.{Ancestry}
use Rattle.graph_commands.specs.declared.ancestor.Ancestry.TheVariants.{FirstUnknown, SecondUnknown, Known}
use Rattle.graph_commands.specs.declared.refusal.Refusal.{Refusal}
use Rattle.graph_commands.specs.declared.refusal.Refusal.TheVariants.{Id, Read, File, Open, Verify, Walk}
use Rattle.graph_commands.specs.Ancestor.{IsThere, MayAnswerIn, MayHaveWalk, MayRelate, ancestor_text, ancestor_status}
use Rattle.graph_commands.specs.Ancestor.{visits_line, walk_line}
use Rattle.graph_commands.specs.WrittenAnswer.{IsToldOf, WritesAnswer}

pub relates : (first second a b : List ℕ) (IsLeftAlone : Type 0) (MayOpen : Result (List Layer) OpenError → Type 0)
    (layers : List Layer) (answer : Result Ancestry Refusal)
    → SpellsId first a → SpellsId second b → MayOpen (Ok layers) → MayAnswerIn layers a b answer
    → MayRelate first second IsLeftAlone MayOpen answer
relates first second a b IsLeftAlone MayOpen layers (Ok ancestry) x y opens answers = (a, b, x, y, (layers, opens, answers))
relates first second a b IsLeftAlone MayOpen layers (Err (Verify error)) x y opens answers =
    (a, b, x, y, (layers, opens, answers))
relates first second a b IsLeftAlone MayOpen layers (Err Walk) x y opens answers = (a, b, x, y, (layers, opens, answers))
relates first second a b IsLeftAlone MayOpen layers (Err (Id error)) x y opens answers = absurd answers
relates first second a b IsLeftAlone MayOpen layers (Err (Read error)) x y opens answers = absurd answers
relates first second a b IsLeftAlone MayOpen layers (Err (File error)) x y opens answers = absurd answers
relates first second a b IsLeftAlone MayOpen layers (Err (Open error)) x y opens answers = absurd answers

-- an id whose lookup in a right graph answers a position is there
pub is_there : (layers : List Layer) (id : List ℕ) (p : ℕ) → Sound layers → FoundIn layers id (Some p) → IsThere layers id
is_there layers id p sound found = (p, sym (sound-scanned layers id (Some p) sound found))

-- where there is an answer between two positions, there may be no memory for it
pub wants : (first second : List ℕ) (IsLeftAlone : Type 0) (MayOpen : Result (List Layer) OpenError → Type 0)
    (ancestry : Ancestry) → MayRelate first second IsLeftAlone MayOpen (Ok ancestry) → MayHaveWalk ancestry
    → MayRelate first second IsLeftAlone MayOpen (Err Walk)
wants first second IsLeftAlone MayOpen FirstUnknown may has = absurd has
wants first second IsLeftAlone MayOpen SecondUnknown may has = absurd has
wants first second IsLeftAlone MayOpen (Known reached) may has =
    let layers = may.4.0 in
    let sound = may.4.2.0 in
    let found = may.4.2.1 in (
      may.0,
      may.1,
      may.2,
      may.3,
      (
        layers,
        may.4.1,
        (sound, is_there layers may.0 found.0 sound found.2, is_there layers may.1 found.1 sound found.3),
      ),
    )

-- the line of a walk or of none, and then how many commits were visited
pub tells_reached : (reached : Reached) (walk : Option (Vec Position Global)) (status : ℕ) (first middle last : Option (List ℕ))
    → reached.walk ≡ walk → Appends first middle (walk_line walk) → Appends middle last (visits_line reached.visits)
    → status ≡ option_map_or (λ steps. 0) walk 1
    → WritesAnswer ancestor_text ancestor_status (IsToldOf MayHaveWalk (Known reached)) first last status
tells_reached reached walk status first middle last is walked visited same = (
  Ok (Known reached),
  refl,
  subst (λ (w : Option (Vec Position Global)). Appends first last (walk_line w ++ visits_line reached.visits)) (sym is)
      (Appends-trans first middle last (walk_line walk) (visits_line reached.visits) walked visited),
  same ∙ ap (λ (w : Option (Vec Position Global)). option_map_or (λ steps. 0) w 1) (sym is),
)
