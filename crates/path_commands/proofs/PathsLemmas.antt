-- From what is found of filters to what is told.
use Rattle.std.proofs.Common.{◌≡◌, ℕ, List, [], Option, None, inl, inr, refl, subst, ap, ◌∙◌}
use Rattle.std.proofs.KnownBytes.{Appends-trans, Keeps-refl}
use Rattle.std.specs.Prelude.{Result, Ok, Err, IfOk}
use Rattle.std.specs.Io.KnownBytes.{Appends}
use Rattle.gix_commitgraph.specs.Sound.{Sound}
use Rattle.graph_format.specs.Layer.{Layer}
use Rattle.graph_layer.specs.declared.opening.error.OpenError.{OpenError}
use Rattle.graph_chunks.specs.GraphFilters.{FiltersOfGraph, graph_filters, graph_filters_refusal, settings_of}
use Rattle.graph_chunks.specs.declared.filters.FilterSettings.{FilterSettings}
use Rattle.graph_commands.specs.Text.{◌⧺◌, newline}
use Rattle.graph_commands.specs.WrittenAnswer.{WritesAnswer}
use Rattle.graph_commands.specs.declared.refusal.Refusal.{Refusal}
use Rattle.history_commands.specs.Check.{MayRefuseToStart}
use Rattle.history_commands.specs.declared.check.CheckRefusal.TheVariants.{Graph}
use Rattle.path_commands.specs.ToldPaths.{AreUpTo, IsAskedAndFound, MayFindPaths, MayTellPaths, PathsVerdict}
use Rattle.path_commands.specs.ToldPaths.{asking_lines, computed_of, filters_of_layers, paths_status, paths_text}
use Rattle.path_commands.specs.ToldPaths.{paths_verdict_status, paths_verdict_text}
use Rattle.path_commands.specs.declared.refusal.PathsRefusal.TheVariants.{Common}
use Rattle.path_commands.specs.declared.standard.Standard.{Standard}

-- filters with these settings and these bytes
abbrev pub filters_with : Option FilterSettings → List (List ℕ) → FiltersOfGraph
filters_with settings filters = record { settings = settings; filters = filters }

-- those that are told are those of the graph
pub filters_same : (all : FiltersOfGraph) (layers : List Layer) → all.settings ≡ settings_of layers
    → all.filters ≡ graph_filters layers → all ≡ filters_of_layers layers
filters_same all layers settings filters =
    ap (λ (some : Option FilterSettings). filters_with some all.filters) settings
    ∙ ap (λ (some : List (List ℕ)). filters_with (settings_of layers) some) filters

-- what is found where all filters are up to a standard, of which so many were computed
pub right_told : (standard : Standard) (trees : ℕ) (stream : Option (List ℕ)) (layers : List Layer) (all : FiltersOfGraph)
    (computed : Option ℕ) → all ≡ filters_of_layers layers → graph_filters_refusal layers ≡ None → computed ≡ computed_of all
    → AreUpTo standard stream layers all → MayFindPaths standard trees stream layers (Ok computed)
right_told standard trees stream layers all computed same none is right =
    ((none, is ∙ ap computed_of same), subst (AreUpTo standard stream layers) same right)

-- what was asked for, an empty line, and then what is found
pub found_told : {E : Type 0} (result : Result ℕ E) (standard : Standard) (trees : ℕ) (stream : Option (List ℕ))
    (layers : List Layer) (verdict : PathsVerdict) (a b c : Option (List ℕ)) → Sound layers
    → IsAskedAndFound standard trees stream layers a b verdict
    → IfOk result (λ status. (status ≡ paths_verdict_status verdict) × Appends b c (newline ⧺ paths_verdict_text verdict))
    → IfOk result (WritesAnswer paths_text paths_status
    (λ told. Sound layers × MayFindPaths standard trees stream layers told.verdict) a c)
found_told (Err failed) standard trees stream layers verdict a b c right found told = tt
found_told (Ok status) standard trees stream layers verdict a b c right found told = (
  record { asked = found.0; verdict = verdict },
  (right, found.2),
  Appends-trans a b c (asking_lines found.0) (newline ⧺ paths_verdict_text verdict) found.1 told.1,
  told.0,
)

-- over the graph that was opened
pub graph_told : {E : Type 0} (result : Result ℕ E) (standard : Standard) (trees : ℕ) (before after a c : Option (List ℕ))
    (layers : List Layer) (opens : Result (List Layer) OpenError → Type 0) → opens (Ok layers)
    → IfOk result (WritesAnswer paths_text paths_status
    (λ told. Sound layers × MayFindPaths standard trees before layers told.verdict) a c)
    → IfOk result (WritesAnswer paths_text paths_status (MayTellPaths standard trees before after opens) a c)
graph_told (Err failed) standard trees before after a c layers opens opened told = tt
graph_told (Ok status) standard trees before after a c layers opens opened told =
    (told.0, inr (layers, opened, told.1.0, told.1.1), told.2, told.3)

-- that there is no right graph
pub refusal_told : {E : Type 0} (result : Result ℕ E) (standard : Standard) (trees : ℕ) (input a c : Option (List ℕ))
    (opens : Result (List Layer) OpenError → Type 0) (refusal : Refusal) (verdict : PathsVerdict)
    → MayRefuseToStart opens refusal → verdict ≡ Err (Common (Graph refusal))
    → IfOk result (λ status. (status ≡ paths_verdict_status verdict) × Appends a c (newline ⧺ paths_verdict_text verdict))
    → IfOk result (WritesAnswer paths_text paths_status (MayTellPaths standard trees input input opens) a c)
refusal_told (Err failed) standard trees input a c opens refusal verdict may is told = tt
refusal_told (Ok status) standard trees input a c opens refusal verdict may is told = (
  record { asked = []; verdict = verdict },
  inl (refusal, may, refl, is, Keeps-refl input),
  told.1,
  told.0,
)
