use Rattle.std.proofs.Common.{◌≡◌, ◌<◌, ℕ, List, ◌∷◌, [], length, ap, eq-eqb, eqb-true, refl, ◌∙◌, sym, subst, arith}
use Rattle.std.proofs.lemmas.Bool.{false≢true}
use Rattle.graph_walks.specs.Walks.{IsWalkBetween}
use Rattle.commit_search.specs.Positions.{numbers_of}
use Rattle.commit_search.specs.WalkAnswer.{IsAtOrAboveBoth, IsShortestWalk}
use Rattle.commit_search.proofs.KnownAnswerLemmas.{none_is_visited, one_is_shortest, one_is_visited, one_walk}
use Rattle.commit_search.proofs.RankedLemmas.{none_above_both, one_both, ranks_say_no}
use Rattle.commit_search.proofs.any.MarkSearcher.ancestor_walk_by.Goals as goal

pub returns-then-eq-clause-answer : goal.returns-then-eq-clause-answer
returns-then-eq-clause-answer g c = λ t said.
    let h = t.history in
    let p = c.args.from.0 in
    let same : p ≡ c.args.to.0 = eqb-true p c.args.to.0 (sym c.if-eq.ensures) in
    let told = c.num_commits-commits.ensures.told t said in
    let within : p < length h = omega (arith, told, c.requires.from, c.num_commits-commits.ensures.count) in
    let walk : numbers_of c.in_ok-walk.walk.items ≡ p ∷ [] = ap numbers_of c.in_ok-walk.ensures in
    record {
      walk = subst (λ (xs : List ℕ). IsWalkBetween h p c.args.to.0 xs) (sym walk) (one_walk h p c.args.to.0 same within);
      visits = one_is_visited h p c.args.to.0 same within;
    }

pub returns-then-eq-clause-right : goal.returns-then-eq-clause-right
returns-then-eq-clause-right g c = λ t said counts along.
    let h = t.history in
    let p = c.args.from.0 in
    let same : p ≡ c.args.to.0 = eqb-true p c.args.to.0 (sym c.if-eq.ensures) in
    let told = c.num_commits-commits.ensures.told t said in
    let within : p < length h = omega (arith, told, c.requires.from, c.num_commits-commits.ensures.count) in
    let walk : numbers_of c.in_ok-walk.walk.items ≡ p ∷ [] = ap numbers_of c.in_ok-walk.ensures in
    record {
      walk = subst (λ (xs : List ℕ). IsShortestWalk h p c.args.to.0 xs) (sym walk) (one_is_shortest h p c.args.to.0 same within);
      none = tt;
      visits = one_both h (g.R.Ranks.ranking c.args.ranks.now t) p c.args.to.0 same within;
      walk_visits = omega (arith, ap length c.in_ok-walk.ensures);
      none_visits = tt;
      no_visits = λ apart neither. absurd (apart same);
    }

pub returns-in_default-clause-right : goal.returns-in_default-clause-right
returns-in_default-clause-right g c = λ t said counts along.
    let h = t.history in
    let k = g.R.Ranks.ranking c.args.ranks.now t in
    let none = (rw c.in_default.is at c.in_ok-least.ensures.none) t said in
    let apart = λ (same : c.args.from.0 ≡ c.args.to.0). false≢true (c.if-eq.ensures ∙ eq-eqb _ _ same) in
    record {
      walk = tt;
      none = ranks_say_no h k c.args.from.0 c.args.to.0 along none apart;
      visits = none_is_visited (IsAtOrAboveBoth h k c.args.from.0 c.args.to.0);
      walk_visits = tt;
      none_visits = none_above_both h k c.args.from.0 c.args.to.0 along none;
      no_visits = λ apart neither. refl;
    }
