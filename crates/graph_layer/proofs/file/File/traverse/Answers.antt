use Rattle.std.proofs.Common.{◌≡◌, refl, ◌+◌, ◌<◌, ◌≤◌, length, take, arith}
use Rattle.std.proofs.lemmas.Result.{err_from_is_err_and}
use Rattle.graph_format.specs.StoredHistory.{layer_history}
use Rattle.graph_layer.specs.LayerStatistics.{AreLayerStatistics}
use Rattle.graph_layer.proofs.TraverseLemmas.{reached_first, reached_next, stops_at_commit, said_there, stands_there, few_there}
use Rattle.graph_layer.proofs.TraverseLemmas.{reached_end}
use Rattle.graph_layer.proofs.LayerStatisticsLemmas.{stats_of_all}
use Rattle.graph_format.proofs.PointLemmas.{ran_out}
use Rattle.graph_layer.proofs.file.File.traverse.Goals as goal

pub count_lists-requires : goal.count_lists-requires
count_lists-requires g c = c.num_commits-commits.ensures.layer.few_edges

pub loop-number-init : goal.loop-number-init
loop-number-init g c = record {
  reached = reached_first g.F.FnMut c.args.self.now c.args.processor.now c.in_default.ensures;
  statistics = c.new-statistics.ensures;
}

pub check-requires : goal.check-requires
check-requires g c κs =
    let commit = c.commit_at-commit.result in
    let at = c.commit_at-commit.ensures in (
      (refl, tt),
      (
        rw (c.deref.ensures.value, at.layer) c.in_ok-counts.ensures,
        (
          λ state. c.requires state c.loop-number.number commit (stands_there commit at.layer at.pos),
          few_there commit at.layer c.num_commits-commits.ensures.layer.few_edges,
        ),
      ),
    )

pub returns-in_err-counts-clause-agrees : goal.returns-in_err-counts-clause-agrees
returns-in_err-counts-clause-agrees g c =
    let error = err_from_is_err_and c.from_residual.result c.from_residual.ensures.1 in
    rw (error.1, error.2) (ran_out _ _ _ _ _ (reached_first g.F.FnMut c.args.self.now c.args.processor.now c.in_default.ensures))

pub returns-in_err-parents-clause-agrees : goal.returns-in_err-parents-clause-agrees
returns-in_err-parents-clause-agrees g c =
    let commit = c.commit_at-commit.result in
    let at = c.commit_at-commit.ensures in
    let inside : c.loop-number.number < length c.args.self.now.ids =
    omega (arith, c.loop-number-test.true, c.num_commits-commits.ensures.ids) in
    let error = err_from_is_err_and c.from_residual-in_err-parents.result c.from_residual-in_err-parents.ensures.1 in
    rw (error.1, error.2)
    (stops_at_commit g.F.FnMut c.args.self.now c.args.processor.now commit c.loop-number.number at.layer at.pos inside _ _
    c.loop-number.invariant.reached _ c.in_err-parents.ensures.agrees)

pub returns-in_err-add-clause-agrees : goal.returns-in_err-add-clause-agrees
returns-in_err-add-clause-agrees g c =
    let commit = c.commit_at-commit.result in
    let at = c.commit_at-commit.ensures in
    let inside : c.loop-number.number < length c.args.self.now.ids =
    omega (arith, c.loop-number-test.true, c.num_commits-commits.ensures.ids) in
    let error = err_from_is_err_and c.from_residual-in_err-add.result c.from_residual-in_err-add.ensures.1 in
    rw (error.1, error.2) (ran_out _ _ _ _ _
    (reached_next g.F.FnMut c.args.self.now c.args.processor.now commit c.loop-number.number at.layer at.pos inside _ _
    c.loop-number.invariant.reached c.in_ok-parents.ensures.agrees))

pub loop-number-preserved : goal.loop-number-preserved
loop-number-preserved g c =
    let commit = c.commit_at-commit.result in
    let at = c.commit_at-commit.ensures in
    let inside : c.loop-number.number < length c.args.self.now.ids =
    omega (arith, c.loop-number-test.true, c.num_commits-commits.ensures.ids) in
    record {
      reached =
          reached_next g.F.FnMut c.args.self.now c.args.processor.now commit c.loop-number.number at.layer at.pos inside _ _
          c.loop-number.invariant.reached c.in_ok-parents.ensures.agrees;
      statistics = said_there commit at.layer at.pos
          (λ layer pos. AreLayerStatistics (take (pos + 1) (layer_history layer)) c.add.new.self)
          c.in_ok-add.ensures;
    }

pub returns-in_err-outcome-clause-agrees : goal.returns-in_err-outcome-clause-agrees
returns-in_err-outcome-clause-agrees g c =
    let error = err_from_is_err_and c.from_residual-in_err-outcome.result c.from_residual-in_err-outcome.ensures.1 in
    rw (error.1, error.2) (ran_out _ _ _ _ _ c.loop-number.invariant.reached)

pub returns-clause-agrees : goal.returns-clause-agrees
returns-clause-agrees g c =
    let past : length c.args.self.now.ids ≤ c.loop-number.number =
    omega (arith, c.loop-number-test.false, c.num_commits-commits.ensures.ids) in
    reached_end g.F.FnMut c.args.self.now c.args.processor.now c.loop-number.number _ past c.loop-number.invariant.reached

pub returns-clause-outcome : goal.returns-clause-outcome
returns-clause-outcome g c =
    let all : c.loop-number.number ≡ length c.args.self.now.ids =
    omega (arith, c.loop-number-test.false, c.loop-number.auto.number-end, c.num_commits-commits.ensures.ids) in
    stats_of_all c.args.self.now c.loop-number.number _ c.num_commits-commits.ensures.layer all
    (c.in_ok-outcome.ensures _ c.loop-number.invariant.statistics)
