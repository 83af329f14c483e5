use Rattle.std.proofs.Common.{◌∙◌, List, length, ap, sym}
use Rattle.graph_bases.specs.declared.paint.Coat.{Coat}
use Rattle.graph_bases.proofs.SheetLemmas.{sheet_len}
use Rattle.graph_bases.proofs.tables.FewCoatsCoatTable.len.Goals as goal

pub returns : goal.returns
returns c =
    let a = c.self.inside in
    sym (sheet_len a.painted a.coats.items a.count) ∙ ap (λ (l : List Coat). length l) c.self.view_is
