use Rattle.std.proofs.Common.{◌≡◌, ◌<◌, [], ℕ, List, Bool, true, get_or, length, sym, ap, ◌∙◌, arith, below_more}
use Rattle.std.proofs.lemmas.List.{get_or_default}
use Rattle.std.proofs.lemmas.List.Sums.{list_all-from_AllPass}
use Rattle.std.proofs.lemmas.Option.{get_or_from_slice_get}
use Rattle.gix_hash_core.specs.Oid.{oid_bytes}
use Rattle.graph_writer.specs.WriteRefusal.{is_of_kind}
use Rattle.graph_writer.proofs.positions.KindSteps.{not-all}
use Rattle.graph_writer.proofs.check.has_parents_of_kind.Goals as goal

pub returns-then-not-is_of_kind : goal.returns-then-not-is_of_kind
returns-then-not-is_of_kind g c =
    let p : List ℕ → Bool = is_of_kind c.args.kind in
    let xs : List (List ℕ) = c.args.commit.now.parents.items in
    sym
    (not-all p xs c.loop-number.number (oid_bytes c.parent.result) c.parent.ensures
    (sym c.is_of_kind.ensures ∙ c.if-not-is_of_kind.true))

pub loop-number-preserved : goal.loop-number-preserved
loop-number-preserved g c =
    let p : List ℕ → Bool = is_of_kind c.args.kind in
    let xs : List (List ℕ) = c.args.commit.now.parents.items in
    let n : ℕ = c.loop-number.number in
    below_more _ _ c.loop-number.invariant
    (ap p (get_or_from_slice_get xs n (oid_bytes c.parent.result) [] c.parent.ensures)
    ∙ sym c.is_of_kind.ensures
    ∙ c.if-not-is_of_kind.false)

pub returns : goal.returns
returns g c =
    let p : List ℕ → Bool = is_of_kind c.args.kind in
    let xs : List (List ℕ) = c.args.commit.now.parents.items in
    sym
    (list_all-from_AllPass p xs
    (λ k d lt.
    ap p (get_or_default xs k d [] lt) ∙ c.loop-number.invariant k (omega (arith, lt, c.parent_count-number-end.ensures))))
