use Rattle.std.proofs.Common.{◌≡◌, ◌∷◌, [], Ok, inr, rules}
use Rattle.std.proofs.lemmas.Result.{err_from_is_err_and}
use Rattle.gix_commitgraph.specs.Layer.{IsLayer}
use Rattle.gix_commitgraph.proofs.opening.OpenErrorLemmas.{layers_error}
use Rattle.graph_uses.proofs.in_memory.open_bytes.Goals as goal

pub returns-clause-layer : goal.returns-clause-layer
returns-clause-layer c =
    let same : c.new-2.result ≡ Ok c.in_ok-file.file = search rules in
    let opened = rw (same, c.new.ensures.bytes) at c.new-2.ensures.layer in
    (c.in_ok-file.file, opened, search rules)

pub returns-in_err-push-clause-refused : goal.returns-in_err-push-clause-refused
returns-in_err-push-clause-refused c =
    let handed = err_from_is_err_and c.from_residual-in_err-push.result c.from_residual-in_err-push.ensures.1 in
    let layer = c.in_ok-file.file in
    let same : c.new-2.result ≡ Ok layer = search rules in
    let opened : IsLayer c.args.bytes.items [] layer = rw (same, c.new.ensures.bytes) at c.new-2.ensures.layer in
    rw (handed.1, handed.2) (inr (layer, opened, tt))

pub returns-in_err-new-clause-refused : goal.returns-in_err-new-clause-refused
returns-in_err-new-clause-refused c =
    let handed = err_from_is_err_and c.from_residual-in_err-new.result c.from_residual-in_err-new.ensures.1 in
    let layer = c.in_ok-file.file in
    let same : c.new-2.result ≡ Ok layer = search rules in
    let opened : IsLayer c.args.bytes.items [] layer = rw (same, c.new.ensures.bytes) at c.new-2.ensures.layer in
    let files : c.push.new.self.items ≡ layer ∷ [] = search rules in
    let error = rw files at (layers_error c.push.new.self.items _ c.in_err-new.ensures.refusal) in
    rw (handed.1, handed.2) (inr (layer, opened, error))
