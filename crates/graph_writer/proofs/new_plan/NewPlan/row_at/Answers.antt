use Rattle.std.proofs.Common.{◌≡◌, ℕ, slice_get, sym, ap, ◌∙◌, arith}
use Rattle.std.proofs.lemmas.List.{get_or_default}
use Rattle.std.proofs.lemmas.Option.{get_or_from_slice_get, same_Some}
use Rattle.graph_levels.specs.OnTop.{no_level}
use Rattle.graph_levels.specs.declared.level.Level.{Level}
use Rattle.graph_writer.specs.declared.commit.NewCommit.{NewCommit}
use Rattle.graph_writer.proofs.new_plan.NewPlan.row_at.Goals as goal

pub returns : goal.returns
returns g c i commit ordered here =
    let plan = c.args.self.now in
    let p : ℕ = c.args.place in
    let number : c.index.result.now ≡ i =
    c.index.ensures ∙ get_or_from_slice_get plan.new.now.order.items p i c.index.result.now ordered in
    let same : c.at-commit.result ≡ commit =
    same_Some c.at-commit.result commit
    (sym c.at-commit.ensures ∙ ap (slice_get plan.commits.now) number ∙ here) in
    record {
      id = c.id.ensures ∙ ap (λ (x : NewCommit). x.id) same;
      tree = c.tree.ensures ∙ ap (λ (x : NewCommit). x.tree) same;
      parents = c.of.ensures;
      generation = ap (λ (level : Level). level.generation)
          (get_or_default plan.levels.now p _ no_level (omega (arith, plan.leveled)));
      time = c.time.ensures ∙ ap (λ (x : NewCommit). x.time) same;
    }
