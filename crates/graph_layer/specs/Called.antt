-- how a check calls a processor
use Rattle.std.specs.Prelude.{◌≡◌, ℕ, Result}
use Rattle.std.specs.Fn.{Mut, CalledAt, TakesAt}
use denote.Ref.{Bor}
use Rattle.graph_format.specs.Layer.{Layer}
use Rattle.graph_layer.specs.Commit.{layer_and_position}
use Rattle.graph_layer.specs.declared.file.commit.Commit.{Commit}

-- the commit stands at a position of the layer
abbrev pub InLayer : Layer → ℕ → Commit → Type 0
InLayer layer position commit = layer_and_position commit ≡ (layer, position)

module _ {F E : Type 0} (processor : Mut F (Bor Commit × Unit {0}) (Result (Unit {0}) E)) (StandsAt : ℕ → Commit → Type 0) where
  -- In whatever state it is, the processor may be called on every commit.
  abbrev pub MayBeCalled : Type 0
  MayBeCalled = (state : F) (position : ℕ) (commit : Commit) → StandsAt position commit → TakesAt processor state commit

  -- a call of it in the state f on the commit at a position
  pub record CalledOn (f : F) (position : ℕ) (answer : Result (Unit {0}) E) (g : F) : Type 0 where
    pub commit : Commit
    pub stands : StandsAt position commit
    pub called : CalledAt processor f commit answer g
