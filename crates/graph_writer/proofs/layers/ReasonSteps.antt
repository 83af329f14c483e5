-- Why a layer is not written, by what its parts answer.
use Rattle.std.proofs.Common.{◌≡◌, ◌≤◌, ◌^◌, List, None, inl, inr, length}
use Rattle.graph_format.specs.Layer.{Layer}
use Rattle.gix_commitgraph.specs.Graph.{total}
use Rattle.graph_writer.specs.Cycles.{HaveNoCycle}
use Rattle.graph_writer.specs.LevelsBelow.{MayRefuseDatesBelow}
use Rattle.graph_writer.specs.NewLayers.{IsNewLayer}
use Rattle.graph_writer.specs.OwnLevels.{MayHaveNoLevels}
use Rattle.graph_writer.specs.WriteRefusal.{new_layer_refusal, MayRefuseNewLayer}
use Rattle.graph_writer.specs.WritingRefusal.{AreDatesBelowRight, MayRefuseWriting, word_count}
use Rattle.graph_writer.specs.declared.commit.NewCommit.{NewCommit}
use Rattle.graph_writer.specs.declared.commit.WriteError.{WriteError}
use Rattle.graph_writer.specs.declared.commit.WriteError.TheVariants as error
use Rattle.graph_writer.specs.declared.new_layer.NewLayer.{NewLayer}
use Rattle.graph_writer.proofs.levels.CycleSteps.{on-cycle}
use Rattle.graph_writer.proofs.layers.RefusalSteps.{plain-none}

module _ (layers : List Layer) (commits : List NewCommit) where
  pub refused-new : (e : WriteError) → MayRefuseNewLayer layers commits e → MayRefuseWriting layers commits e
  refused-new e h = inl h

  module _ (none : new_layer_refusal layers commits ≡ None) where
    -- memory may be missing wherever the commits themselves are right
    pub refused-memory : (e : WriteError) → e ≡ error.OutOfMemory → MayRefuseWriting layers commits e
    refused-memory e is = inl (inr (is, plain-none layers commits none))

    pub refused-dates : (e : WriteError) → MayRefuseDatesBelow layers e → MayRefuseWriting layers commits e
    refused-dates (error.Kind i) h = refused-memory _ h
    refused-dates (error.NullId i) h = refused-memory _ h
    refused-dates (error.NullTree i) h = refused-memory _ h
    refused-dates (error.Time i) h = refused-memory _ h
    refused-dates (error.Twice i j) h = refused-memory _ h
    refused-dates (error.Below i p) h = refused-memory _ h
    refused-dates error.TooManyCommits h = refused-memory _ h
    refused-dates (error.Parent i k) h = refused-memory _ h
    refused-dates error.Nothing h = refused-memory _ h
    refused-dates (error.Dates fault) h = inr (none, h)
    refused-dates (error.Cycle i) h = refused-memory _ h
    refused-dates error.TooManyLayers h = refused-memory _ h
    refused-dates error.TooManyEdges h = refused-memory _ h
    refused-dates error.OutOfMemory h = refused-memory _ h

    module _ (dates : AreDatesBelowRight layers) where
      pub refused-levels : (new : NewLayer) → IsNewLayer layers commits new → (e : WriteError)
          → MayHaveNoLevels (total layers) new e → MayRefuseWriting layers commits e
      refused-levels new is_new (error.Kind i) h = refused-memory _ h
      refused-levels new is_new (error.NullId i) h = refused-memory _ h
      refused-levels new is_new (error.NullTree i) h = refused-memory _ h
      refused-levels new is_new (error.Time i) h = refused-memory _ h
      refused-levels new is_new (error.Twice i j) h = refused-memory _ h
      refused-levels new is_new (error.Below i p) h = refused-memory _ h
      refused-levels new is_new error.TooManyCommits h = refused-memory _ h
      refused-levels new is_new (error.Parent i k) h = refused-memory _ h
      refused-levels new is_new error.Nothing h = refused-memory _ h
      refused-levels new is_new (error.Dates fault) h = refused-memory _ h
      refused-levels new is_new (error.Cycle i) h =
          inr (none, (dates, on-cycle layers commits new is_new i h.0 h.1 h.2))
      refused-levels new is_new error.TooManyLayers h = refused-memory _ h
      refused-levels new is_new error.TooManyEdges h = refused-memory _ h
      refused-levels new is_new error.OutOfMemory h = refused-memory _ h

      module _ (acyclic : HaveNoCycle commits) where
        pub refused-layers : 256 ≤ length layers → MayRefuseWriting layers commits error.TooManyLayers
        refused-layers many = inr (none, (dates, acyclic, many))

        pub refused-edges : length layers ≤ 255 → 2 ^ 31 ≤ word_count commits
            → MayRefuseWriting layers commits error.TooManyEdges
        refused-edges few many = inr (none, (dates, acyclic, few, many))
