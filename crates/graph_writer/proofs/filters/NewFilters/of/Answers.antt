use Rattle.std.proofs.Common.{◌≡◌, get_or, ◌∙◌, arith}
use Rattle.std.proofs.lemmas.Grind.{get_or_default_zero}
use Rattle.graph_writer.specs.NewFilters.{new_filter}
use Rattle.graph_writer.proofs.filters.NewFilters.of.Goals as goal

pub returns : goal.returns
unfolding new_filter
returns c =
    let filters = c.args.self.now in
    let end : c.index.result.now ≡ get_or filters.parts.ends.items c.args.number 0 =
    c.index.ensures ∙ get_or_default_zero filters.parts.ends.items c.args.number c.index.result.now (omega arith) in
    cc (c.deref.ensures.value, c.start_of-start.ensures)
