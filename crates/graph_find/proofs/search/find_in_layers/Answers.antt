-- Each layer is searched after those below it.
use Rattle.std.proofs.Common.{rules, ◌≤◌, refl, ◌∙◌, arith}
use Rattle.std.specs.List.{sum_by}
use Rattle.gix_hash_core.specs.Oid.{oid_bytes}
use Rattle.graph_format.specs.declared.TheConstants.{MAX_COMMITS}
use Rattle.graph_find.proofs.ChainHeadLemmas.{counts}
use Rattle.graph_find.proofs.SearchedLemmas.{commit-fits, searched-all, searched-fits, searched-found, searched-more}
use Rattle.graph_find.proofs.search.find_in_layers.Goals as goal

pub overflow_add-result : goal.overflow_add-result
overflow_add-result g c =
    let known = g.T.Folder.tree c.args.folder.now in
    let heads = c.args.layers.now in
    let id = oid_bytes c.args.id in
    let at = c.loop-layer.layer-index in
    let head = c.layer-item.result in
    let found = rw (c.loop-layer.invariant.tree, c.as_str.ensures.value, c.in-Found.is) at c.in_ok-commit.ensures.found in
    let few : sum_by counts heads ≤ MAX_COMMITS = c.requires.graph.few in
    omega (
      arith,
      few,
      searched-fits known heads id c.requires.heads at c.loop-layer.start head c.loop-layer-test.true c.layer-item.is
          c.loop-layer.invariant.searched,
      commit-fits known heads id c.requires.heads at c.loop-layer.start head c.loop-layer-test.true c.layer-item.is
          c.loop-layer.invariant.searched c.in-Found.commit found,
    )

pub returns-in-Found-clause-found : goal.returns-in-Found-clause-found
returns-in-Found-clause-found g c =
    let known = g.T.Folder.tree c.args.folder.now in
    let found = rw (c.loop-layer.invariant.tree, c.as_str.ensures.value, c.in-Found.is) at c.in_ok-commit.ensures.found in
    searched-found known c.args.layers.now (oid_bytes c.args.id) c.requires.heads c.loop-layer.layer-index c.loop-layer.start
    c.layer-item.result c.loop-layer-test.true c.layer-item.is c.loop-layer.invariant.searched c.in-Found.commit _ found refl refl
    refl

pub loop-layer-preserved : goal.loop-layer-preserved
loop-layer-preserved g c =
    let known = g.T.Folder.tree c.args.folder.now in
    let missed = rw (c.loop-layer.invariant.tree, c.as_str.ensures.value, c.in-Missing.is) at c.in_ok-commit.ensures.found in
    record {
      tree = c.in_ok-commit.ensures.tree ∙ c.loop-layer.invariant.tree;
      failures = search rules;
      searched = searched-more known c.args.layers.now (oid_bytes c.args.id) c.requires.heads c.loop-layer.layer-index
          c.loop-layer.start c.layer-item.result c.loop-layer-test.true c.layer-item.is c.loop-layer.invariant.searched _ refl
          missed;
    }

pub returns-clause-found : goal.returns-clause-found
returns-clause-found g c =
    searched-all (g.T.Folder.tree c.args.folder.now) c.args.layers.now (oid_bytes c.args.id) c.loop-layer.layer-index
    c.loop-layer.start c.loop-layer-test.false c.loop-layer.invariant.searched
