use Rattle.std.proofs.Common.{◌≡◌, ℕ, length, slice_get, Some, refl, ap, ◌∙◌, subst, arith}
use Rattle.std.proofs.lemmas.List.{length_push}
use Rattle.std.proofs.lemmas.Option.{slice_get_within, slice_get-get_or, get_or_from_slice_get}
use Rattle.graph_format.specs.declared.parents.ParentEdge.{ParentEdge}
use Rattle.commit_search.specs.Search.{IsParentNumber}
use Rattle.commit_search.proofs.AheadLemmas.{numbers_kept, numbers_push}
use Rattle.commit_search.proofs.ahead.read_numbers.Goals as goal

pub loop-first-init : goal.loop-first-init
loop-first-init g c = record {
  known = refl;
  kept = λ t said. said;
  len = ap length c.clear.ensures.items;
  numbers = λ i both number at there.
      absurd (omega (arith, ap length c.clear.ensures.items, slice_get_within c.clear.new.self.items i number there));
}

pub number_of-requires : goal.number_of-requires
number_of-requires g c =
    rw c.loop-first.invariant.known
    (c.requires c.loop-first.first-index _
    (slice_get-get_or c.args.fields.now c.loop-first.first-index _ c.loop-first-test.true))

pub loop-first-preserved : goal.loop-first-preserved
loop-first-preserved g c =
    let l = c.loop-first in
    let inv = l.invariant in
    let n = c.in_ok-number.number in
    let pushed = c.in_ok-push_number.ensures in
    record {
      known = c.number_of.ensures.known ∙ inv.known;
      kept = λ t said. inv.kept t (c.number_of.ensures.kept t said);
      len = omega (arith, inv.len, ap length pushed, length_push l.numbers.items n);
      numbers = numbers_push _ c.args.fields.now l.numbers.items c.push_number.new.numbers.items n pushed
          (numbers_kept _ _ c.number_of.ensures.kept c.args.fields.now l.numbers.items inv.numbers)
          (λ both at.
          subst (λ (x : ParentEdge × ParentEdge). IsParentNumber (g.S.CommitSource.says c.number_of.new.commits) x.0 n)
          (get_or_from_slice_get c.args.fields.now l.first-index both _
          (subst (λ (k : ℕ). slice_get c.args.fields.now k ≡ Some both) inv.len at))
          c.in_ok-number.ensures.number);
    }
