use Rattle.std.proofs.Common.{◌≡◌, ◌<◌, [], ◌∷◌, ◌++◌, List, length, take, sym, ap, subst, ◌∙◌, arith, append_assoc}
use Rattle.std.proofs.Common.{length-append, length-take}
use Rattle.std.proofs.lemmas.List.{take_all}
use Rattle.graph_walks.specs.History.{Node}
use Rattle.graph_format.specs.Layer.{record_at}
use Rattle.graph_format.specs.StoredHistory.{layer_history, node_of}
use Rattle.graph_format.proofs.LayerHistoryLemmas.{length-layer_history}
use Rattle.graph_layer.proofs.TraverseLemmas.{few_there}
use Rattle.graph_history.specs.LowerStatistics.{AreLowerStatistics}
use Rattle.graph_history.proofs.LowerLemmas.{generation-read, layer-more, parents-read}
use Rattle.graph_history.proofs.lower.LowerStatistics.add_layer.Goals as goal

pub count_lists-requires : goal.count_lists-requires
count_lists-requires c = c.num_commits-commits.ensures.layer.few_edges

pub count_parents-requires-clause-few : goal.count_parents-requires-clause-few
count_parents-requires-clause-few c =
    few_there c.commit_at-commit.result c.commit_at-commit.ensures.layer c.num_commits-commits.ensures.layer.few_edges

pub add-requires : goal.add-requires
add-requires c =
    let few = c.requires.few in
    let history = layer_history c.args.file.now in
    let number = c.loop-number.number in (
      few.0 ++ take number history,
      c.loop-number.invariant few.0 few.1,
      omega (
        arith,
        few.2,
        length-append few.0 (take number history),
        length-take number history,
        c.loop-number-test.true,
        c.num_commits-commits.ensures.ids,
      ),
    )

pub loop-number-preserved : goal.loop-number-preserved
loop-number-preserved c = λ seen is.
    let file = c.args.file.now in
    let number = c.loop-number.number in
    let commit = c.commit_at-commit.result in
    let at = c.commit_at-commit.ensures in
    let node : Node = node_of file (record_at file number) in
    let within : number < length file.records = omega (arith, c.loop-number-test.true, c.num_commits-commits.ensures.records) in
    let added =
    c.in_ok-add.ensures (seen ++ take number (layer_history file)) node (c.loop-number.invariant seen is)
    (c.generation.ensures ∙ generation-read file commit.file.now number commit.pos.0 at.layer at.pos)
    (c.unwrap_or-parents.ensures
    ∙ parents-read file commit.file.now number commit.pos.0 at.layer at.pos c.count_parents.result within c.requires.decoded
    c.count_parents.ensures) in
    subst (λ (nodes : List Node). AreLowerStatistics nodes c.add.new.self)
    (append_assoc seen (take number (layer_history file)) (node ∷ [])
    ∙ ap (λ (nodes : List Node). seen ++ nodes) (sym (layer-more file number within)))
    added

pub returns : goal.returns
returns c = λ seen is.
    let history = layer_history c.args.file.now in
    let all : take c.loop-number.number history ≡ history =
    take_all c.loop-number.number history
    (omega (
      arith,
      c.loop-number-test.false,
      c.num_commits-commits.ensures.records,
      length-layer_history c.args.file.now,
    )) in
    subst (λ (nodes : List Node). AreLowerStatistics (seen ++ nodes) c.loop-number.self) all (c.loop-number.invariant seen is)
