use Rattle.std.proofs.Common.{◌∙◌, List, [], ap}
use Rattle.std.proofs.lemmas.List.{get_or_read}
use Rattle.std.proofs.lemmas.Result.{on_ok_weaker}
use Rattle.graph_bases.specs.Paint.{joined}
use Rattle.graph_bases.specs.Trails.{trail_at}
use Rattle.graph_bases.specs.declared.paint.Paint.{Paint}
use Rattle.graph_bases.proofs.TrailLemmas.{trail_in-here, trail_there_is}
use Rattle.graph_bases.proofs.trails.Trails.add.Goals as goal

pub returns-clause-here : goal.returns-clause-here
returns-clause-here c =
    let layers = c.args.self.now.layers.items in
    let within = trail_there_is layers c.args.layer c.args.word c.requires in
    on_ok_weaker c.add.result
    (λ here.
    ap (λ (t : List Paint). trail_at t c.args.word) (trail_in-here layers c.args.layer c.add.new.self within)
    ∙ here
    ∙ ap (λ (t : List Paint). joined (trail_at t c.args.word) c.args.paint)
    (get_or_read layers c.args.layer c.index_mut.result.now within c.index_mut.ensures.value []))
    c.add.ensures.here
