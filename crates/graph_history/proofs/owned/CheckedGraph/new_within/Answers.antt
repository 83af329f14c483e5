use Rattle.std.proofs.Common.{◌^◌, ◌<◌, rules}
use Rattle.gix_commitgraph.specs.Graph.{total}
use Rattle.graph_history.specs.Limits.{bound_of}
use Rattle.graph_history.proofs.LimitLemmas.{accepted_within, refused_within}
use Rattle.graph_history.proofs.owned.CheckedGraph.new_within.Goals as goal

pub returns-in-Ok-clause-within : goal.returns-in-Ok-clause-within
returns-in-Ok-clause-within c =
    let options = c.args.options in
    let layers = c.args.graph in
    let all = c.a_check_of_a_graph_calls_on_each_position_once.ensures options layers in
    let few : total layers < 2 ^ 32 = search rules in
    accepted_within _ (λ f. f.1.now) (λ f. bound_of f.0.now) (λ f p g step. search rules) (bound_of c.args.limit)
    options layers all few _ c.verify_integrity_with-found.new.processor (search rules) (search rules)
    (λ f p g step. search rules) c.in-Ok.ensures.agrees

pub returns-in-Err-clause-refusal : goal.returns-in-Err-clause-refusal
returns-in-Err-clause-refusal c =
    let options = c.args.options in
    let layers = c.args.graph in
    let all = c.a_check_of_a_graph_calls_on_each_position_once.ensures options layers in
    let few : total layers < 2 ^ 32 = search rules in
    refused_within _ (λ f. f.1.now) (λ f. bound_of f.0.now) (λ f p g step. search rules) (bound_of c.args.limit)
    options layers all few _ c.verify_integrity_with-found.new.processor (search rules) (search rules)
    (λ f p g step. search rules) (λ f p e g step. search rules) c.in-Err.error c.in-Err.ensures.agrees c.in-Err.ensures.sound
