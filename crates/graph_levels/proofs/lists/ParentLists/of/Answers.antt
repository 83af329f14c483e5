use Rattle.std.proofs.Common.{◌≡◌, get_or, ◌∙◌, arith}
use Rattle.std.proofs.lemmas.Grind.{get_or_default_zero}
use Rattle.graph_levels.specs.ParentLists.{parent_list}
use Rattle.graph_levels.proofs.lists.ParentLists.of.Goals as goal

pub returns : goal.returns
unfolding parent_list
returns c =
    let lists = c.args.self.now in
    let end : c.index.result.now ≡ get_or lists.ends.items c.args.commit 0 =
    c.index.ensures ∙ get_or_default_zero lists.ends.items c.args.commit c.index.result.now (omega arith) in
    cc (c.deref.ensures.value, c.start_of-start.ensures)
