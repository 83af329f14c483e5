use Rattle.std.proofs.Common.{refl, ◌∙◌, ap, max, min, arith}
use Rattle.graph_layer.specs.Commit.{commit_layer, commit_pos}
use Rattle.graph_layer.proofs.LayerStatisticsLemmas.{statistics-more}
use Rattle.graph_layer.proofs.file.verify.statistics.Statistics.add.Goals as goal
use Rattle.graph_layer.proofs.file.verify.statistics.Statistics.add.Goals.{then-self-eq0, else-self-eq0}

pub returns : goal.returns
returns c =
    let before = c.args.self.now in
    let generation = c.generation-generation.ensures in
    statistics-more (commit_layer c.args.commit.now) (commit_pos c.args.commit.now) c.requires.record before _ c.args.parents
    c.requires.parents c.requires.before (record {
      max_generation = c.max-self.ensures ∙ ap (max before.max_generation) generation;
      first = λ none.
          elim c.if-self-eq0.branch [
            | then-self-eq0 w ↦ w.self-is ∙ generation
            | else-self-eq0 w ↦
                absurd (omega (arith, none, w.if-self-eq0.false))
          ];
      later = λ some.
          elim c.if-self-eq0.branch [
            | then-self-eq0 w ↦ absurd (omega (arith, some, w.if-self-eq0.true))
            | else-self-eq0 w ↦
                w.self-is ∙ w.min-self.ensures ∙ ap (min before.min_generation) generation
          ];
      max_parents = c.max-self-2.ensures;
      num_commits = refl;
      parent_counts = c.in_ok-add.ensures;
    })
