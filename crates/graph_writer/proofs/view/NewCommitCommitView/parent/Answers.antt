use Rattle.std.proofs.Common.{List, ℕ, Some, sym, ap, ◌∙◌}
use Rattle.std.proofs.lemmas.Option.{slice_get-get_or}
use Rattle.graph_writer.proofs.view.NewCommitCommitView.parent.Goals as goal

pub returns : goal.returns
returns c =
    slice_get-get_or c.args.self.now.parents.items c.args.number c.index.result.now c.requires.there
    ∙ ap (λ (id : List ℕ). Some id) (sym c.index.ensures ∙ sym c.as_oid.ensures)
