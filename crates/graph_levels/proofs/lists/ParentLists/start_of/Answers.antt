use Rattle.std.proofs.Common.{◌∙◌, arith}
use Rattle.std.proofs.lemmas.Grind.{get_or_default_zero}
use Rattle.graph_levels.proofs.ListLemmas.{start_at_zero, start_above_zero}
use Rattle.graph_levels.proofs.lists.ParentLists.start_of.Goals as goal

pub returns-then-commit-eq0 : goal.returns-then-commit-eq0
returns-then-commit-eq0 c = start_at_zero c.args.self.now.ends.items c.args.commit c.if-commit-eq0.true

pub returns-else-commit-eq0 : goal.returns-else-commit-eq0
returns-else-commit-eq0 c =
    c.index.ensures
    ∙ get_or_default_zero c.args.self.now.ends.items _ _ (omega arith)
    ∙ start_above_zero c.args.self.now.ends.items c.args.commit c.if-commit-eq0.false
