use Rattle.std.proofs.Common.{◌≡◌, ℕ, length, sym, ap, ◌∙◌, subst₂, List, arith}
use Rattle.std.proofs.lemmas.List.{length_push}
use Rattle.graph_walks.specs.Walks.{IsWalkBetween}
use Rattle.commit_search.specs.Positions.{numbers_of}
use Rattle.commit_search.specs.Queue.{commit_in}
use Rattle.commit_search.specs.Search.{queued_by}
use Rattle.graph_walks.proofs.WalkPathLemmas.{between_from_path}
use Rattle.commit_search.proofs.StepLemmas.{one_back, one_step_more}
use Rattle.commit_search.proofs.search.Search.walk_to.Goals as goal

pub loop-reached-preserved : goal.loop-reached-preserved
loop-reached-preserved g c =
    let s = c.args.self.now in
    let l = c.loop-reached in
    let pushed = c.in_ok-push.ensures.items in
    let reached = c.child_at-reached.result in
    let child = sym c.child_at-reached.ensures in
    record {
      within = omega (arith, c.requires.earlier l.reached c.loop-reached-test.true l.invariant.within, child);
      walk = λ h least queue.
          one_back h least (queued_by s) l.reached c.args.place reached
          c.commit_at-in-loop-reached.result l.walk.items c.push.new.self.items queue c.loop-reached-test.true l.invariant.within
          child c.commit_at-in-loop-reached.ensures pushed (l.invariant.walk h least queue);
      steps = λ d depth.
          let more =
          one_step_more (queued_by s) l.reached c.args.place reached (length l.walk.items) c.loop-reached-test.true child
          l.invariant.steps d depth in
          (more.0, more.1, omega (arith, more.2, ap length pushed, length_push l.walk.items c.commit_at-in-loop-reached.result));
    }

pub returns-clause-walk : goal.returns-clause-walk
returns-clause-walk g c = λ h least queue.
    let s = c.args.self.now in
    let l = c.loop-reached in
    let first : l.reached ≡ 0 = omega (arith, c.loop-reached-test.false) in
    let walk = l.invariant.walk h least queue in
    let between = between_from_path h (commit_in (queued_by s) l.reached) (commit_in (queued_by s) c.args.place) walk.0 walk.2 in
    let whole = ap numbers_of c.reverse.ensures.items ∙ walk.1 in
    subst₂ (λ (k : ℕ) (xs : List ℕ). IsWalkBetween h (commit_in (queued_by s) k) (commit_in (queued_by s) c.args.place) xs) first
    (sym whole) between

pub returns-clause-steps : goal.returns-clause-steps
returns-clause-steps g c =
    let l = c.loop-reached in
    let first : l.reached ≡ 0 = omega (arith, c.loop-reached-test.false) in
    let steps = l.invariant.steps 0 first in
    (steps.0, steps.1, omega (arith, steps.2, c.reverse.ensures.len))
