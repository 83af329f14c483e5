use Rattle.std.proofs.Common.{◌≡◌, ◌<◌, ◌++◌, ◌∷◌, [], ℕ, List, Contains, length, sym, subst, refl, arith}
use Rattle.std.proofs.lemmas.List.Elements.{All-same}
use Rattle.graph_levels.specs.OnTop.{level_at}
use Rattle.graph_levels.specs.declared.level.Level.{Level}
use Rattle.commit_requests.specs.Dated.{IsDated}
use Rattle.commit_requests.specs.declared.order.Placed.{Placed}
use Rattle.commit_requests.proofs.PlaceLemmas.{dated_more, every_more, numbers_of_places}
use Rattle.commit_requests.proofs.order.places_of.Goals as goal

pub loop-number-preserved : goal.loop-number-preserved
loop-number-preserved c =
    let levels : List Level = c.args.levels.now in
    let old : List Placed = c.loop-number.places.items in
    let number : ℕ = c.loop-number.number in
    let place : Placed = record { date = (level_at levels number).date; number = number } in
    let items : c.push.new.self.items ≡ old ++ place ∷ [] = c.in_ok-push.ensures.items in
    let lt : number < length levels = omega arith in
    let dated : IsDated levels place = (lt, refl) in
    record {
      each = All-same (IsDated levels) c.push.new.self.items (old ++ place ∷ []) items
          (dated_more levels old place dated c.loop-number.invariant.each);
      every = λ n less. subst (λ (xs : List Placed). Contains (numbers_of_places xs) n) (sym items)
          (every_more levels old place dated c.loop-number.invariant.every n less);
    }

pub returns : goal.returns
returns c =
    record {
      each = c.loop-number.invariant.each;
      every = λ n less. c.loop-number.invariant.every n (omega (arith, less, c.loop-number-test.false));
    }
