use Rattle.std.proofs.Common.{◌∙◌, ◌++◌, ◌∷◌, [], ℕ, ap, slice_get}
use Rattle.object_requests.specs.Asked.{Asked}
use Rattle.tree_requests.proofs.AskingLemmas.{get_pushed}
use Rattle.tree_requests.proofs.StreamLemmas.{lines_more}
use Rattle.tree_requests.proofs.asker.Asker.ask_new.Goals as goal

pub returns-in-Ok-true-clause-lines : goal.returns-in-Ok-true-clause-lines
returns-in-Ok-true-clause-lines g c =
    lines_more g.E.Exchange.written (g.W.Write.contents c.args.self.now.writer) (g.W.Write.contents c.ask.new.writer) c.args.id
    c.requires.lines (c.in-Ok-true.ensures.new c.in-Ok-true.field-0-test).1

pub returns-in-Ok-true-clause-number : goal.returns-in-Ok-true-clause-number
returns-in-Ok-true-clause-number g c =
    let asked = c.args.self.now.requests.asked in
    ap (λ (r : Asked). slice_get r.asked c.num_asked-number.result) (c.in-Ok-true.ensures.new c.in-Ok-true.field-0-test).0
    ∙ ap (λ (n : ℕ). slice_get (asked ++ c.args.id ∷ []) n) c.num_asked-number.ensures
    ∙ get_pushed asked c.args.id
