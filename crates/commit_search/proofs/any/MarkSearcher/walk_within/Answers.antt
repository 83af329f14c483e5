use Rattle.std.proofs.Common.{◌≡◌, ◌+◌, ◌<◌, ℕ, List, ◌∷◌, [], length, refl, sym, ap, subst, eqb-true, arith}
use Rattle.graph_walks.specs.Walks.{IsWalkBetween}
use Rattle.commit_search.specs.Cardinality.{AtLeast}
use Rattle.commit_search.specs.WalkAnswer.{IsShortestWalk, IsAtOrAbove}
use Rattle.commit_search.specs.Positions.{numbers_of}
use Rattle.commit_search.proofs.KnownAnswerLemmas.{one_walk, one_is_shortest, one_is_visited, none_is_visited, none_is_above}
use Rattle.commit_search.proofs.any.MarkSearcher.walk_within.Goals as goal

pub returns-then-most-eq0-clause-more : goal.returns-then-most-eq0-clause-more
returns-then-most-eq0-clause-more g c = λ t said.
    let same : c.args.from.0 ≡ c.args.to.0 = eqb-true _ _ (sym c.if-eq.ensures) in
    let none : 0 ≡ c.args.most = sym c.if-most-eq0.true in
    let told = c.num_commits-commits.ensures.told t said in
    subst (λ (n : ℕ). AtLeast (n + 1) (IsAtOrAbove t.history c.args.from.0 c.args.to.0)) none
    (one_is_visited t.history c.args.from.0 c.args.to.0 same (omega arith))

pub returns-then-eq-clause-answer : goal.returns-then-eq-clause-answer
returns-then-eq-clause-answer g c = λ t said.
    let h = t.history in
    let p = c.args.from.0 in
    let same : p ≡ c.args.to.0 = eqb-true p c.args.to.0 (sym c.if-eq.ensures) in
    let told = c.num_commits-commits.ensures.told t said in
    let within : p < length h = omega arith in
    let walk : numbers_of c.in_ok-walk.walk.items ≡ p ∷ [] = ap numbers_of c.in_ok-walk.ensures in
    record {
      walk = subst (λ (xs : List ℕ). IsWalkBetween h p c.args.to.0 xs) (sym walk) (one_walk h p c.args.to.0 same within);
      visits = one_is_visited h p c.args.to.0 same within;
    }

pub returns-then-eq-clause-right : goal.returns-then-eq-clause-right
returns-then-eq-clause-right g c = λ t said right.
    let h = t.history in
    let p = c.args.from.0 in
    let same : p ≡ c.args.to.0 = eqb-true p c.args.to.0 (sym c.if-eq.ensures) in
    let told = c.num_commits-commits.ensures.told t said in
    let within : p < length h = omega arith in
    let walk : numbers_of c.in_ok-walk.walk.items ≡ p ∷ [] = ap numbers_of c.in_ok-walk.ensures in
    record {
      walk = subst (λ (xs : List ℕ). IsShortestWalk h p c.args.to.0 xs) (sym walk) (one_is_shortest h p c.args.to.0 same within);
      none = tt;
      visits = one_is_visited h p c.args.to.0 same within;
      walk_visits = omega (arith, ap length c.in_ok-walk.ensures);
      none_visits = tt;
      no_visits = λ apart low below. absurd (apart same);
    }

pub returns-in_default-clause-answer : goal.returns-in_default-clause-answer
returns-in_default-clause-answer g c = λ t said.
    record { walk = tt; visits = none_is_visited (IsAtOrAbove t.history c.args.from.0 c.args.to.0) }

pub returns-in_default-clause-right : goal.returns-in_default-clause-right
returns-in_default-clause-right g c = λ t said right.
    let h = t.history in
    let never_rises = right.never_rise in
    record {
      walk = tt;
      none = (rw c.in_default.is at c.in_ok-least.ensures.none) t said right;
      visits = none_is_visited (IsAtOrAbove h c.args.from.0 c.args.to.0);
      walk_visits = tt;
      none_visits = none_is_above h c.args.from.0 c.args.to.0 never_rises
          ((rw c.in_default.is at c.in_ok-least.ensures.below) t said);
      no_visits = λ apart low below. refl;
    }
