use Rattle.std.proofs.Common.{◌<◌, All, Contains, map, ℕ}
use Rattle.commit_requests.specs.Dated.{IsDated}
use Rattle.commit_requests.specs.declared.order.Placed.{Placed}
use Rattle.commit_requests.proofs.order.places_of.Given as goal

-- the first of them
abbrev pub invariant-loop-number : goal.invariant-loop-number
invariant-loop-number l =
    record {
      each : All (IsDated l.levels) l.places.items;
      every : (n : ℕ) → n < l.number → Contains (map (λ (place : Placed). place.number) l.places.items) n;
    }
