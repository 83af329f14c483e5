use Rattle.std.proofs.Common.{rules}
use Rattle.gix_commitgraph.proofs.sound.HeadlineLemmas.{judged_with, right_stats}
use Rattle.gix_commitgraph.proofs.sound.RightBelowLemmas.{numbered, whole_fault}
use Rattle.gix_commitgraph.proofs.sound.SoundLemmas.{ordered-all}
use Rattle.gix_commitgraph.proofs.graph.Graph.verify_integrity_from.Goals as goal

pub verify_layers-requires : goal.verify_layers-requires
verify_layers-requires g c κs = (
  search rules,
  (
    c.requires.callable,
    (
      c.requires.layer,
      (
        ordered-all _ c.requires.sound.sound,
        c.in_ok-statistics.ensures _ (numbered _ c.requires.sound.sound) c.requires.below,
      ),
    ),
  ),
)

pub returns-clause-sound : goal.returns-clause-sound
returns-clause-sound g c =
    let opened = c.verify_layers.ensures.graph.opened in
    judged_with _ c.args.options c.args.self.now _
    (whole_fault c.args.options c.args.self.now c.args.layer opened c.requires.layer c.requires.sound) _ _ opened
    c.verify_layers.result c.verify_layers.ensures.agrees

pub returns-clause-statistics : goal.returns-clause-statistics
returns-clause-statistics g c =
    let opened = c.verify_layers.ensures.graph.opened in
    right_stats _ c.args.options c.args.self.now _
    (whole_fault c.args.options c.args.self.now c.args.layer opened c.requires.layer c.requires.sound) _ _ opened
    c.verify_layers.result c.verify_layers.ensures.agrees c.verify_layers.ensures.outcome
