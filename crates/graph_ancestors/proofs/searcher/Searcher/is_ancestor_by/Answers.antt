use Rattle.std.proofs.Common.{◌≡◌}
use Rattle.commit_search.specs.Source.{Told}
use Rattle.commit_search.specs.WalkAnswer.{BothMayLead}
use Rattle.graph_ancestors.proofs.SearcherLemmas.{memory_found_by, memory_led_by}
use Rattle.graph_ancestors.proofs.searcher.Searcher.is_ancestor_by.Goals.{in-Ok, in-Err}
use Rattle.graph_ancestors.proofs.searcher.Searcher.is_ancestor_by.Goals as goal

pub returns-clause-found : goal.returns-clause-found
returns-clause-found g c =
    let same : c.is_ancestor_by.new.commits ≡ c.args.self.now = cc in
    elim c.match-is_ancestor_by.branch [
      | in-Ok w ↦ rw w.result-is
          (memory_found_by c.args.self.now c.is_ancestor_by.new.commits same c.graph-graph.ensures.right c.args.descendant.0
          c.args.ancestor.0 (g.R.Ranks.ranking c.args.ranks.now) c.requires.ranks w.in-Ok.found _ w.in-Ok.ensures.yes
          w.in-Ok.ensures.no)
      | in-Err w ↦ rw w.result-is tt
    ]

pub returns-clause-refused : goal.returns-clause-refused
returns-clause-refused g c =
    let same : c.is_ancestor_by.new.commits ≡ c.args.self.now = cc in
    elim c.match-is_ancestor_by.branch [
      | in-Ok w ↦ rw w.result-is tt
      | in-Err w ↦ rw w.result-is
          (memory_led_by c.args.self.now c.is_ancestor_by.new.commits same c.graph-graph.ensures.right c.args.descendant.0
          c.args.ancestor.0 (λ (t : Told). BothMayLead t.history (g.R.Ranks.ranking c.args.ranks.now t) c.args.descendant.0
          c.args.ancestor.0) _ w.in-Err.ensures.refused)
    ]
