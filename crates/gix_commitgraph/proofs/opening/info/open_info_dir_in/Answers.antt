-- The opener of whole graphs, at an info folder.
use Rattle.gix_commitgraph.proofs.opening.WholeOpeningLemmas.{info_whole}
use Rattle.gix_commitgraph.proofs.opening.info.open_info_dir_in.Goals as goal

pub returns-clause-opens : goal.returns-clause-opens
returns-clause-opens g c = (info_whole _ _ _ _ _ _ _ _ c.open_info_by.ensures.comes).opens

pub returns-clause-device : goal.returns-clause-device
returns-clause-device g c = (info_whole _ _ _ _ _ _ _ _ c.open_info_by.ensures.comes).device

pub returns-clause-from : goal.returns-clause-from
returns-clause-from g c = (info_whole _ _ _ _ _ _ _ _ c.open_info_by.ensures.comes).from

pub returns-clause-given : goal.returns-clause-given
returns-clause-given g c = (info_whole _ _ _ _ _ _ _ _ c.open_info_by.ensures.comes).given

pub returns-clause-graph : goal.returns-clause-graph
returns-clause-graph g c = (info_whole _ _ _ _ _ _ _ _ c.open_info_by.ensures.comes).graph

pub returns-clause-memory : goal.returns-clause-memory
returns-clause-memory g c = (info_whole _ _ _ _ _ _ _ _ c.open_info_by.ensures.comes).memory
