-- One word more is read, after those before it.
use Rattle.std.proofs.Common.{◌≡◌, ◌∷◌, ◌++◌, [], rules, ◌∙◌}
use Rattle.commit_search.specs.EdgeLists.{list_in}
use Rattle.graph_parts.proofs.GraphPartLemmas.{sees-then}
use Rattle.graph_unchecked.proofs.ParentLemmas.{words-as, words-told, word-last, word-more}
use Rattle.graph_unchecked.proofs.record.listed_parents.Goals as goal

pub edge_at-requires-clause-index : goal.edge_at-requires-clause-index
edge_at-requires-clause-index g c =
    words-as c.args.parts.now c.loop-index.parts c.args.layer c.words_in-words.result c.loop-index.index
    c.words_in-words.ensures c.loop-index.invariant.sees.same c.loop-index-test.true

pub loop-index-preserved : goal.loop-index-preserved
loop-index-preserved g c =
    let known = g.T.Folder.tree c.args.folder.now in
    let old = c.args.parts.now in
    let mid = c.loop-index.parts in
    let new = c.edge_at.new.self in
    let pos = c.in-Internal.pos in
    let sees = rw c.loop-index.invariant.tree at c.edge_at.ensures.sees in
    let pushed : c.push-in-loop-index.new.self.items ≡ c.loop-index.parents.items ++ pos ∷ [] = search rules in
    record {
      tree = c.edge_at.ensures.tree ∙ c.loop-index.invariant.tree;
      failures = search rules;
      right = c.edge_at.ensures.parts;
      sees = sees-then known old mid new c.loop-index.invariant.sees sees;
      named = λ layers shows.
          let at = (rw c.in-Some.is at (rw c.loop-index.invariant.tree at c.in_ok-word.ensures.says)) layers shows in
          let told = words-told known new layers c.args.layer c.loop-index.index c.in-Some.word c.edge_at.ensures.parts shows
          (words-as c.args.parts.now new c.args.layer c.words_in-words.result c.loop-index.index c.words_in-words.ensures
          (sees.same ∙ c.loop-index.invariant.sees.same) c.loop-index-test.true) at in
          rw pushed (word-more (list_in layers c.args.layer) c.loop-index.index told.0 c.in-Some.word told.1
          c.loop-index.parents.items pos c.in-Internal.is ∙ c.loop-index.invariant.named layers (sees.kept layers shows));
    }

pub returns-in_default-word-clause-parents : goal.returns-in_default-word-clause-parents
returns-in_default-word-clause-parents g c = λ layers shows.
    let known = g.T.Folder.tree c.args.folder.now in
    let new = c.edge_at.new.self in
    let pos = c.parent_of-last.result in
    let sees = rw c.loop-index.invariant.tree at c.edge_at.ensures.sees in
    let pushed : c.push.new.self.items ≡ c.loop-index.parents.items ++ pos ∷ [] = search rules in
    let at = (rw c.in-Some.is at (rw c.loop-index.invariant.tree at c.in_ok-word.ensures.says)) layers shows in
    let told = words-told known new layers c.args.layer c.loop-index.index c.in-Some.word c.edge_at.ensures.parts shows
    (words-as c.args.parts.now new c.args.layer c.words_in-words.result c.loop-index.index c.words_in-words.ensures
    (sees.same ∙ c.loop-index.invariant.sees.same) c.loop-index-test.true) at in
    rw pushed (word-last (list_in layers c.args.layer) c.loop-index.index told.0 c.in-Some.word told.1
    c.loop-index.parents.items pos c.in_default-word.not-Internal c.parent_of-last.ensures
    ∙ c.loop-index.invariant.named layers (sees.kept layers shows))
