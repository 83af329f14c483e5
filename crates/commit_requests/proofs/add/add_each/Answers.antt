use Rattle.std.proofs.Common.{◌≡◌, ◌<◌, ◌∙◌, ℕ, List, All, Some, length, slice_get, sym, subst, arith}
use Rattle.std.proofs.Common.{take}
use Rattle.std.specs.Prelude.{slice_index_or}
use Rattle.std.proofs.lemmas.List.{length-map, take_all}
use Rattle.std.proofs.lemmas.List.Elements.{All-contains}
use Rattle.std.proofs.lemmas.Option.{slice_get-get_or}
use Rattle.gix_hash_core.specs.declared.kind.Kind.{Kind}
use Rattle.commit_objects.specs.CommitContents.{Said, Says}
use Rattle.newer_commits.specs.CommitsOnTop.{CommitsOnTop}
use Rattle.commit_requests.specs.Placing.{AddsOrHas, IsNumberThere, IsOneRefusal, IsTurnRefusal}
use Rattle.commit_requests.specs.declared.order.Placed.{Placed}
use Rattle.commit_requests.proofs.ListSteps.{contains_from_get, get_mapped}
use Rattle.commit_requests.proofs.PlaceLemmas.{numbers_of_places}
use Rattle.commit_requests.proofs.TurnLemmas.{added_more, added_refused}
use Rattle.commit_requests.proofs.add.add_each.Goals as goal

no_place : Placed
no_place = record { date = 0; number = 0 }

-- the number that stands in a place
number_at_place : (places : List Placed) (k : ℕ) (d : Placed) → k < length places
    → slice_get (numbers_of_places places) k ≡ Some ((slice_index_or places k d).number)
number_at_place places k d lt =
    get_mapped (λ (place : Placed). place.number) places k (slice_index_or places k d) (slice_get-get_or places k d lt)

pub of-requires : goal.of-requires
unfolding no_place
of-requires g c =
    let places : List Placed = c.args.places.now in
    let k : ℕ = c.loop-place.place-index in
    let lt : k < length places = omega arith in
    let at = number_at_place places k no_place lt in
    All-contains (λ (n : ℕ). n < length c.args.held.now) (numbers_of_places places) ((slice_index_or places k no_place).number)
    c.requires.order.within (contains_from_get (numbers_of_places places) k ((slice_index_or places k no_place).number) at)

pub add_one-requires : goal.add_one-requires
unfolding no_place
add_one-requires g c =
    let places : List Placed = c.args.places.now in
    let n : ℕ = (slice_index_or places c.loop-place.place-index no_place).number in
    let read : List (List ℕ) = c.args.held.now in
    record {
      readable = subst (λ (kind : Kind). (said : Said) × Says kind c.of.result.now said) (sym c.loop-place.invariant.kind)
          (All-contains (λ (bytes : List ℕ). (said : Said) × Says c.args.newer.now.kind bytes said) read c.of.result.now
          c.requires.order.readable (contains_from_get read n c.of.result.now c.of.ensures));
    }

pub loop-place-preserved : goal.loop-place-preserved
unfolding no_place
loop-place-preserved g c =
    let finds = g.S.Base.finds in
    let facts = g.S.Base.facts in
    let old = c.args.newer.now in
    let mid = c.loop-place.newer in
    let new = c.add_one.new.newer in
    let places : List Placed = c.args.places.now in
    let k : ℕ = c.loop-place.place-index in
    let lt : k < length places = omega arith in
    let n : ℕ = (slice_index_or places k no_place).number in
    let adds : AddsOrHas old.kind (finds (facts old.base)) mid.commits new.commits c.of.result.now =
    subst (λ (kind : Kind). AddsOrHas kind (finds (facts old.base)) mid.commits new.commits c.of.result.now)
    c.loop-place.invariant.kind
    (subst (λ (f : g.S.Base.Facts). AddsOrHas mid.kind (finds f) mid.commits new.commits c.of.result.now)
    c.loop-place.invariant.facts c.in-Ok.ensures.added) in
    record {
      known = c.in-Ok.ensures.known ∙ c.loop-place.invariant.known;
      facts = c.in-Ok.ensures.facts ∙ c.loop-place.invariant.facts;
      kept = λ t told. c.loop-place.invariant.kept t (c.in-Ok.ensures.kept t told);
      kind = c.in-Ok.ensures.kind ∙ c.loop-place.invariant.kind;
      added = added_more old.kind (finds (facts old.base)) old.commits c.args.held.now (numbers_of_places places) k mid.commits
          c.loop-place.invariant.added n c.of.result.now (number_at_place places k no_place lt) c.of.ensures new.commits adds;
    }

pub returns-clause-there : goal.returns-clause-there
returns-clause-there g c =
    let places : List Placed = c.args.places.now in
    let old = c.args.newer.now in
    let base = g.S.Base.finds (g.S.Base.facts old.base) in
    let all : take c.loop-place.place-index (numbers_of_places places) ≡ numbers_of_places places =
    take_all c.loop-place.place-index (numbers_of_places places)
    (omega (arith, length-map places (λ (place : Placed). place.number))) in
    subst (All (IsNumberThere old.kind base c.loop-place.newer.commits c.args.held.now)) all c.loop-place.invariant.added.there

pub returns-in-Err-clause-refused : goal.returns-in-Err-clause-refused
unfolding no_place
returns-in-Err-clause-refused g c =
    let finds = g.S.Base.finds in
    let facts = g.S.Base.facts in
    let may_fail = g.S.CommitSource.may_fail in
    let known = g.S.CommitSource.known in
    let old = c.args.newer.now in
    let mid = c.loop-place.newer in
    let places : List Placed = c.args.places.now in
    let read : List (List ℕ) = c.args.held.now in
    let k : ℕ = c.loop-place.place-index in
    let lt : k < length places = omega arith in
    let n : ℕ = (slice_index_or places k no_place).number in
    let bytes : List ℕ = c.of.result.now in
    let refused : IsOneRefusal old.kind (finds (facts old.base)) (may_fail (known old.base)) mid.commits bytes c.in-Err.error =
    subst
    (λ (kind : Kind). IsOneRefusal kind (finds (facts old.base)) (may_fail (known old.base)) mid.commits bytes c.in-Err.error)
    c.loop-place.invariant.kind
    (subst (λ (f : g.S.Base.Facts). IsOneRefusal mid.kind (finds f) (may_fail (known old.base)) mid.commits bytes c.in-Err.error)
    c.loop-place.invariant.facts
    (subst
    (λ (x : g.S.CommitSource.Known). IsOneRefusal mid.kind (finds (facts mid.base)) (may_fail x) mid.commits bytes c.in-Err.error)
    c.loop-place.invariant.known c.in-Err.ensures.refused)) in
    subst
    (λ (t : CommitsOnTop). IsTurnRefusal old.kind (finds (facts old.base)) (may_fail (known old.base)) t read c.in-Err.error)
    (sym c.in-Err.ensures.same)
    (added_refused old.kind (finds (facts old.base)) old.commits read (numbers_of_places places) k mid.commits
    c.loop-place.invariant.added n bytes (number_at_place places k no_place lt) c.of.ensures c.requires.order
    (may_fail (known old.base)) c.in-Err.error refused)
