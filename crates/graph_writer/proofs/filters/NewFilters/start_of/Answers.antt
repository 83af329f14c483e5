use Rattle.std.proofs.Common.{◌∙◌, arith}
use Rattle.std.proofs.lemmas.Grind.{get_or_default_zero}
use Rattle.graph_levels.proofs.ListLemmas.{start_at_zero, start_above_zero}
use Rattle.graph_writer.proofs.filters.NewFilters.start_of.Goals as goal

pub returns-then-number-eq0 : goal.returns-then-number-eq0
returns-then-number-eq0 c = start_at_zero c.args.self.now.parts.ends.items c.args.number c.if-number-eq0.true

pub returns-else-number-eq0 : goal.returns-else-number-eq0
returns-else-number-eq0 c =
    c.index.ensures
    ∙ get_or_default_zero c.args.self.now.parts.ends.items _ _ (omega arith)
    ∙ start_above_zero c.args.self.now.parts.ends.items c.args.number c.if-number-eq0.false
