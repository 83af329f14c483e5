use Rattle.std.proofs.Common.{◌≡◌, ◌<◌, [], ℕ, List, Bool, length, get_or, position, sym, ap, ◌∙◌, arith, below_more}
use Rattle.std.proofs.lemmas.Option.{get_or_from_slice_get}
use Rattle.gix_hash_core.specs.Oid.{oid_bytes}
use Rattle.graph_writer.specs.Known.{is_unknown_to}
use Rattle.graph_writer.proofs.positions.KnownSteps.{position-at, position-none}
use Rattle.graph_writer.proofs.resolve.Known.unknown_parent.Goals as goal

pub returns-in-None : goal.returns-in-None
returns-in-None g c =
    let p : List ℕ → Bool = is_unknown_to c.args.self.now in
    let xs : List (List ℕ) = c.args.commit.now.parents.items in
    let n : ℕ = c.loop-number.number in
    let lt : n < length xs = omega (arith, c.parent_count-number-end.ensures) in
    let item : List ℕ = oid_bytes c.parent.result in
    let read : get_or xs n [] ≡ item = get_or_from_slice_get xs n item [] c.parent.ensures in
    sym (position-at p xs n [] lt c.loop-number.invariant (ap p read ∙ sym c.in-None.ensures.none))

pub loop-number-preserved : goal.loop-number-preserved
loop-number-preserved g c =
    let p : List ℕ → Bool = is_unknown_to c.args.self.now in
    let xs : List (List ℕ) = c.args.commit.now.parents.items in
    let n : ℕ = c.loop-number.number in
    let lt : n < length xs = omega (arith, c.parent_count-number-end.ensures) in
    let item : List ℕ = oid_bytes c.parent.result in
    let read : get_or xs n [] ≡ item = get_or_from_slice_get xs n item [] c.parent.ensures in
    below_more _ _ c.loop-number.invariant (ap p read ∙ sym c.in-Some.ensures.none)

pub returns : goal.returns
returns g c =
    let p : List ℕ → Bool = is_unknown_to c.args.self.now in
    let xs : List (List ℕ) = c.args.commit.now.parents.items in
    sym (position-none p xs [] (λ k lt. c.loop-number.invariant k (omega (arith, lt, c.parent_count-number-end.ensures))))
