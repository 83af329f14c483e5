use Rattle.std.proofs.Common.{◌≡◌, ◌+◌, ◌<◌, ◌++◌, ◌∷◌, [], ℕ, List, Option, Some, Bool, length, map, take, get_or}
use Rattle.std.proofs.Common.{sym, ap, ◌∙◌, arith, add-one, below_more}
use Rattle.std.proofs.Math.Seq.{take-suc}
use Rattle.std.proofs.lemmas.List.{map_push}
use Rattle.std.proofs.lemmas.Option.{get_or_from_slice_get}
use Rattle.gix_hash_core.specs.Oid.{oid_bytes}
use Rattle.std.proofs.lemmas.List.Elements.{All-push, All-same}
use Rattle.graph_format.specs.Lookup.{scan}
use Rattle.graph_writer.specs.Known.{is_unknown_to, all_ids}
use Rattle.graph_writer.proofs.positions.KnownSteps.{position-at, position-none}
use Rattle.graph_writer.proofs.resolve.Known.put_parents.Goals as goal

pub returns-in-None-clause-unknown : goal.returns-in-None-clause-unknown
returns-in-None-clause-unknown g c =
    let p : List ℕ → Bool = is_unknown_to c.args.self.now in
    let xs : List (List ℕ) = c.args.commit.now.parents.items in
    let n : ℕ = c.loop-number.number in
    let lt : n < length xs = omega (arith, c.parent_count-number-end.ensures) in
    let item : List ℕ = oid_bytes c.parent.result in
    let read : get_or xs n [] ≡ item = get_or_from_slice_get xs n item [] c.parent.ensures in
    sym (position-at p xs n [] lt c.loop-number.invariant.known (ap p read ∙ sym c.in-None.ensures.none))

pub loop-number-preserved : goal.loop-number-preserved
loop-number-preserved g c =
    let k = c.args.self.now in
    let p : List ℕ → Bool = is_unknown_to k in
    let xs : List (List ℕ) = c.args.commit.now.parents.items in
    let n : ℕ = c.loop-number.number in
    let lt : n < length xs = omega (arith, c.parent_count-number-end.ensures) in
    let item : List ℕ = oid_bytes c.parent.result in
    let inv = c.loop-number.invariant in
    let old : List ℕ = c.loop-number.positions.items in
    let pushed : c.push.new.self.items ≡ old ++ c.in-Some.position ∷ [] = c.in_ok-push-in-Some.ensures.items in
    let read : get_or xs n [] ≡ item = get_or_from_slice_get xs n item [] c.parent.ensures in
    let taken : take (n + 1) xs ≡ take n xs ++ get_or xs n [] ∷ [] = ap (λ (m : ℕ). take m xs) (add-one n)
    ∙ take-suc xs n [] lt in
    record {
      known = below_more _ _ inv.known (ap p read ∙ sym c.in-Some.ensures.none);
      within =
          All-same (λ (q : ℕ). q < k.start + length k.commits.now) c.push.new.self.items (old ++ c.in-Some.position ∷ []) pushed
          (All-push (λ (q : ℕ). q < k.start + length k.commits.now) old c.in-Some.position inv.within c.in-Some.ensures.within);
      ids =
          let f : List ℕ → Option ℕ = scan (all_ids k) in
          let some : ℕ → Option ℕ = λ q. Some q in
          ap (map some) pushed
          ∙ map_push some old c.in-Some.position
          ∙ ap (λ (os : List (Option ℕ)). os ++ some c.in-Some.position ∷ []) inv.ids
          ∙ ap (λ (o : Option ℕ). map f (take n xs) ++ o ∷ []) (sym (ap f read ∙ c.in-Some.ensures.first))
          ∙ sym (map_push f (take n xs) (get_or xs n []))
          ∙ ap (map f) (sym taken);
    }

pub returns-clause-unknown : goal.returns-clause-unknown
returns-clause-unknown g c =
    let p : List ℕ → Bool = is_unknown_to c.args.self.now in
    let xs : List (List ℕ) = c.args.commit.now.parents.items in
    sym (position-none p xs [] (λ k lt. c.loop-number.invariant.known k (omega (arith, lt, c.parent_count-number-end.ensures))))
