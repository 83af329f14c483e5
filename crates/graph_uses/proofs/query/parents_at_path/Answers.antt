use Rattle.std.proofs.Common.{◌≡◌, ℕ, List, IfErr, rules, sym, ◌∙◌, subst}
use Rattle.std.proofs.lemmas.Result.{err_from_is_err_and}
use Rattle.gix_hash_core.specs.Hexadecimal.{SpellsNone}
use Rattle.gix_commitgraph.specs.OpenAnswer.{result_map_err}
use Rattle.graph_uses.specs.declared.error.QueryError.TheVariants.{Id}
use Rattle.graph_uses.proofs.RefusalLemmas.{misspelled}
use Rattle.graph_uses.proofs.query.parents_at_path.Goals as goal

pub returns-in_err-id-clause-refused : goal.returns-in_err-id-clause-refused
returns-in_err-id-clause-refused g c =
    let handed = err_from_is_err_and c.from_residual-in_err-id.result c.from_residual-in_err-id.ensures.1 in
    let same : c.map_err.result ≡ result_map_err (λ e. Id e) c.from_hex.result = search rules in
    let none =
    subst (λ (text : List ℕ). IfErr c.from_hex.result (SpellsNone text)) c.as_bytes.ensures.value c.from_hex.ensures.err in
    rw (handed.1, handed.2)
    (misspelled c.args.path.now c.args.id.now c.in_ok-graph.graph.layers c.from_hex.result c.in_err-id.field-0.0
    c.in_ok-graph.ensures.from c.in_ok-graph.ensures.right none (sym same ∙ c.in_err-id.was))
