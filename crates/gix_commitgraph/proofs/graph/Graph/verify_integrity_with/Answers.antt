use Rattle.std.proofs.Common.{refl, arith, rules}
use Rattle.gix_commitgraph.proofs.sound.HeadlineLemmas.{judged_with, right_stats, right_lookups, exact_lookups}
use Rattle.gix_commitgraph.proofs.sound.RightBelowLemmas.{history-none}
use Rattle.gix_commitgraph.proofs.graph.Graph.verify_integrity_with.Goals as goal

pub returns-clause-sound : goal.returns-clause-sound
returns-clause-sound g c =
    judged_with _ c.args.options c.args.self.now _ refl _ _ c.verify_layers.ensures.graph.opened c.verify_layers.result
    c.verify_layers.ensures.agrees

pub returns-clause-statistics : goal.returns-clause-statistics
returns-clause-statistics g c =
    right_stats _ c.args.options c.args.self.now _ refl _ _ c.verify_layers.ensures.graph.opened c.verify_layers.result
    c.verify_layers.ensures.agrees c.verify_layers.ensures.outcome

pub returns-clause-lookup : goal.returns-clause-lookup
returns-clause-lookup g c =
    right_lookups _ c.args.options c.args.self.now _ refl _ _ c.verify_layers.ensures.graph.opened c.verify_layers.result
    c.verify_layers.ensures.agrees

pub returns-clause-distinct : goal.returns-clause-distinct
returns-clause-distinct g c =
    exact_lookups _ c.args.options c.args.self.now _ refl _ _ c.verify_layers.ensures.graph.opened c.verify_layers.result
    c.verify_layers.ensures.agrees

pub verify_layers-requires : goal.verify_layers-requires
verify_layers-requires g c κs =
    (search rules, (c.requires, (omega arith, (λ k d h. absurd (omega arith), rw history-none c.new.ensures))))
