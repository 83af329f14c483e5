use Rattle.graph_bases.proofs.SheetLemmas.{kept_nothing, sheet_bare, sheet_len}
use Rattle.graph_bases.proofs.tables.FewCoatsCoatTable.new.Goals as goal

pub invariant_of-result : goal.invariant_of-result
invariant_of-result c = kept_nothing c.new.result c.new-2.result.items c.new.ensures c.new-2.ensures.items

pub returns-clause-len : goal.returns-clause-len
returns-clause-len c = sheet_len c.new.result c.new-2.result.items c.args.commits

pub returns-clause-bare : goal.returns-clause-bare
returns-clause-bare c = sheet_bare c.new.result c.new-2.result.items c.args.commits c.new.ensures
