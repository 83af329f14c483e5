use Rattle.std.proofs.Common.{false, refl, arith, rules}
use Rattle.gix_commitgraph.proofs.sound.HeadlineLemmas.{judged, right_stats, right_lookups}
use Rattle.gix_commitgraph.proofs.sound.RightBelowLemmas.{history-none}
use Rattle.gix_commitgraph.proofs.graph.Graph.verify_integrity.Goals as goal

pub returns-clause-sound : goal.returns-clause-sound
returns-clause-sound g c =
    judged _ (record { distinct_ids = false }) c.args.self.now _ refl _ _ c.verify_layers.ensures.graph.opened
    c.verify_layers.result refl c.verify_layers.ensures.agrees

pub returns-clause-statistics : goal.returns-clause-statistics
returns-clause-statistics g c =
    right_stats _ (record { distinct_ids = false }) c.args.self.now _ refl _ _ c.verify_layers.ensures.graph.opened
    c.verify_layers.result c.verify_layers.ensures.agrees c.verify_layers.ensures.outcome

pub returns-clause-lookup : goal.returns-clause-lookup
returns-clause-lookup g c =
    right_lookups _ (record { distinct_ids = false }) c.args.self.now _ refl _ _ c.verify_layers.ensures.graph.opened
    c.verify_layers.result c.verify_layers.ensures.agrees

pub returns-clause-agrees : goal.returns-clause-agrees
returns-clause-agrees g c = search rules

pub verify_layers-requires : goal.verify_layers-requires
verify_layers-requires g c κs =
    (search rules, (c.requires, (omega arith, (λ k d h. absurd (omega arith), rw history-none c.new.ensures))))
