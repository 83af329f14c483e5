use Rattle.graph_bases.proofs.SheetLemmas.{kept_nothing, sheet_bare}
use Rattle.graph_bases.proofs.tables.FewCoatsCoatTable.clear.Goals as goal

pub invariant_of-self : goal.invariant_of-self
invariant_of-self c = kept_nothing c.clear.new.self c.clear-2.new.self.items c.clear.ensures c.clear-2.ensures.items

pub returns-clause-bare : goal.returns-clause-bare
returns-clause-bare c = sheet_bare c.clear.new.self c.clear-2.new.self.items c.self.inside.count c.clear.ensures
