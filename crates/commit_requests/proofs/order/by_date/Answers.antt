use Rattle.std.proofs.Common.{List, rules}
use Rattle.std.proofs.lemmas.List.Sorted.{All-permutation, Contains-permutation, IsNonDecreasingBy-from_sort_by_key}
use Rattle.std.proofs.lemmas.List.Sorted.{IsPermutation-map}
use Rattle.commit_requests.specs.Dated.{IsDated}
use Rattle.commit_requests.specs.declared.order.Placed.{Placed}
use Rattle.commit_requests.proofs.PlaceLemmas.{numbers_of_places}
use Rattle.commit_requests.proofs.order.by_date.Goals as goal

pub returns : goal.returns
returns c =
    let old : List Placed = c.in_ok-places.places.items in
    let new : List Placed = c.sort_unstable_by_key.new.self.items in
    record {
      each = All-permutation (IsDated c.args.levels.now) old new c.sort_unstable_by_key.ensures.permutation
          c.in_ok-places.ensures.each;
      every = λ n less.
          Contains-permutation (numbers_of_places old) (numbers_of_places new) n
          (IsPermutation-map (λ (place : Placed). place.number) old new c.sort_unstable_by_key.ensures.permutation)
          (c.in_ok-places.ensures.every n less);
      rising = IsNonDecreasingBy-from_sort_by_key (λ (place : Placed). place.date) new c.sort_unstable_by_key.ensures.sorted
          (λ a r q k. search rules);
    }
