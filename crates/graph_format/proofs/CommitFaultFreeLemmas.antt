-- Where the check of the commits' ids names no fault.
use Rattle.std.proofs.Common.{◌≡◌, ℕ, zero, suc, ◌+◌, ◌-◌, ◌<◌, ◌≤◌, Bool, true, false, not, ltb, eqb, List, [], length, get_or}
use Rattle.std.proofs.Common.{All, None, Ordering, refl, sym, ap, subst, ◌∙◌, ⊎_elim, arith}
use Rattle.std.specs.Prelude.{◌↔◌}
use Rattle.std.specs.Ordering.{nat_cmp}
use Rattle.std.specs.Cmp.Lexicographic.{slice_cmp}
use Rattle.std.specs.declared.cmp.Ordering.TheVariants.{Less, Equal, Greater}
use Rattle.std.proofs.lemmas.Bool.{not-false, both_ways, false_from_ne_true, eqb-true, eq-eqb, lt-ltb, and_cases, and_left}
use Rattle.std.proofs.lemmas.Bool.{and_right, cases_lt}
use Rattle.std.proofs.lemmas.Cmp.{nat_list_cmp_total}
use Rattle.std.proofs.lemmas.List.{get_or_default}
use Rattle.std.proofs.lemmas.List.Elements.{All-weaker}
use Rattle.std.proofs.lemmas.List.Sums.{AllPass-from_list_all, list_all-from_AllPass}
use Rattle.std.proofs.lemmas.Option.{unwrap_or-slice_get}
use Rattle.gix_chunk_core.proofs.FirstFaultLemmas.{option_or-none, then_some-false, otherwise-none, when-none}
use Rattle.graph_format.specs.Format.{Record}
use Rattle.graph_format.specs.Layer.{Layer, no_record, record_at}
use Rattle.graph_format.specs.Order.{AreAscending}
use Rattle.graph_format.specs.Faults.{is_null, id_at, is_out_of_order, commit_fault}
use Rattle.graph_format.specs.RightLayer.{IsNull}
use Rattle.graph_format.proofs.LayerHistoryLemmas.{IsPaired}

-- ids with no byte but zero

is_null-iff : (id : List ℕ) → (is_null id ≡ true) ↔ IsNull id
is_null-iff id = (
  λ h. All-weaker (λ byte. eqb byte 0 ≡ true) (λ byte. byte ≡ 0) (λ byte e. eqb-true byte 0 e) id
      (AllPass-from_list_all (λ byte. eqb byte 0) id h),
  λ null. list_all-from_AllPass (λ byte. eqb byte 0) id
      (All-weaker (λ byte. byte ≡ 0) (λ byte. eqb byte 0 ≡ true) (λ byte e. eq-eqb byte 0 e) id null),
)

not_null-iff : (id : List ℕ) → (is_null id ≡ false) ↔ (¬ IsNull id)
not_null-iff id = (
  λ h null. both_ways (is_null id) h ((is_null-iff id).1 null),
  λ h. false_from_ne_true (is_null id) (λ null. h ((is_null-iff id).0 null)),
)

-- the order of neighbours

abbrev is_less : Ordering → Bool
is_less Less = true
is_less Equal = false
is_less Greater = false

less-from_test : (o : Ordering) → is_less o ≡ true → o ≡ Less
less-from_test Less h = refl
less-from_test Equal h = cc
less-from_test Greater h = cc

abbrev id_cmp : List ℕ → List ℕ → Ordering
id_cmp = slice_cmp nat_cmp

in_order-iff : (layer : Layer) (pos : ℕ) → (is_out_of_order layer pos ≡ false)
    ↔ (0 < pos → id_cmp (id_at layer (pos - 1)) (id_at layer pos) ≡ Less)
in_order-iff layer pos = (
  λ h positive. ⊎_elim
      (λ (none : ltb 0 pos ≡ false). absurd (both_ways (ltb 0 pos) none (lt-ltb 0 pos positive)))
      (λ (ordered : not (is_less (id_cmp (id_at layer (pos - 1)) (id_at layer pos))) ≡ false). less-from_test _
      (not-false _ ordered))
      (and_cases (ltb 0 pos) _ h),
  λ h. ⊎_elim
      (λ (positive : 0 < pos). and_right (ltb 0 pos) _ (ap (λ (o : Ordering). not (is_less o)) (h positive)))
      (λ (first : pos ≤ 0). and_left (ltb 0 pos) _ (ap (ltb 0) (no_more pos first)))
      (cases_lt 0 pos),
) where
  no_more : (n : ℕ) → n ≤ 0 → n ≡ 0
  no_more n h = omega arith

-- What the check of one commit's ids looks for.
pub record IsRightCommit (layer : Layer) (pos : ℕ) : Type 0 where
  pub id : ¬ IsNull (id_at layer pos)
  pub ordered : 0 < pos → id_cmp (id_at layer (pos - 1)) (id_at layer pos) ≡ Less
  pub tree : ¬ IsNull (record_at layer pos).tree

commit_fault-iff : (layer : Layer) (pos : ℕ) → (commit_fault layer pos ≡ None) ↔ IsRightCommit layer pos
unfolding commit_fault
commit_fault-iff layer pos = (
  λ h.
      let both = otherwise-none _ _ h in
      let id = otherwise-none _ _ both.0 in
      record {
        id = (not_null-iff (id_at layer pos)).0 (when-none _ _ id.0);
        ordered = (in_order-iff layer pos).0 (when-none _ _ id.1);
        tree = (not_null-iff (record_at layer pos).tree).0 (when-none _ _ both.1);
      },
  λ right.
      option_or-none _ _ (option_or-none _ _ (then_some-false _ _ ((not_null-iff (id_at layer pos)).1 right.id))
      (then_some-false _ _ ((in_order-iff layer pos).1 right.ordered)))
      (then_some-false _ _ ((not_null-iff (record_at layer pos).tree).1 right.tree)),
)

-- neighbours in order are all in order

id_at-is : (layer : Layer) (pos : ℕ) → id_at layer pos ≡ get_or layer.ids pos []
id_at-is layer pos = unwrap_or-slice_get layer.ids pos []

pub record_at-get_or : (layer : Layer) (pos : ℕ) → record_at layer pos ≡ get_or layer.records pos no_record
unfolding record_at
record_at-get_or layer pos = unwrap_or-slice_get layer.records pos no_record

abbrev AreNeighboursOrdered : List (List ℕ) → Type 0
AreNeighboursOrdered ids = (k : ℕ) → suc k < length ids → id_cmp (get_or ids k []) (get_or ids (suc k) []) ≡ Less

later-greater : (ids : List (List ℕ)) → AreNeighboursOrdered ids → (i n : ℕ) → i + suc n < length ids
    → id_cmp (get_or ids i []) (get_or ids (i + suc n) []) ≡ Less
later-greater ids next i zero within =
    let one : i + suc zero ≡ suc i = omega arith in
    rw one (next i (omega arith))
later-greater ids next i (suc n) within =
    let more : i + suc (suc n) ≡ suc (i + suc n) = omega arith in
    rw more (nat_list_cmp_total.trans _ (get_or ids (i + suc n) []) _ (later-greater ids next i n (omega arith))
    (next (i + suc n) (omega arith)))

ascending-from_next : (ids : List (List ℕ)) → AreNeighboursOrdered ids → AreAscending ids
ascending-from_next ids next i j d before within =
    let later : i + suc (j - i - 1) ≡ j = omega arith in
    let first : get_or ids i [] ≡ get_or ids i d = get_or_default ids i [] d (omega arith) in
    let second : get_or ids j [] ≡ get_or ids j d = get_or_default ids j [] d within in
    let less : id_cmp (get_or ids i []) (get_or ids (i + suc (j - i - 1)) []) ≡ Less =
    later-greater ids next i (j - i - 1) (omega arith) in
    rw (← first, ← second) (rw later at less)

-- What the checks of all ids of a layer look for.
pub record AreRightIds (layer : Layer) : Type 0 where
  pub ascending : AreAscending layer.ids
  pub ids : All (λ id. ¬ IsNull id) layer.ids
  pub trees : All (λ r. ¬ IsNull r.tree) layer.records

abbrev pub AreRightCommits : Layer → Type 0
AreRightCommits layer = (pos : ℕ) → pos < length layer.ids → IsRightCommit layer pos

ids-from_commits : (layer : Layer) → IsPaired layer → AreRightCommits layer → AreRightIds layer
ids-from_commits layer paired each = record {
  ascending = ascending-from_next layer.ids (λ k within.
      let less : id_cmp (id_at layer (suc k - 1)) (id_at layer (suc k)) ≡ Less = (each (suc k) within).ordered (omega arith) in
      let before : suc k - 1 ≡ k = omega arith in
      rw (id_at-is layer (suc k - 1), id_at-is layer (suc k), before) at less);
  ids = λ k d within.
      subst (λ (id : List ℕ). ¬ IsNull id) (id_at-is layer k ∙ get_or_default layer.ids k [] d within) (each k within).id;
  trees = λ k d within.
      subst (λ (r : Record). ¬ IsNull r.tree) (record_at-get_or layer k ∙ get_or_default layer.records k no_record d within)
      (each k (omega arith)).tree;
}

commits-from_ids : (layer : Layer) → IsPaired layer → AreRightIds layer → AreRightCommits layer
commits-from_ids layer paired right pos within = record {
  id = subst (λ (id : List ℕ). ¬ IsNull id) (sym (id_at-is layer pos)) (right.ids pos [] within);
  ordered = λ positive. rw (id_at-is layer (pos - 1), id_at-is layer pos) (right.ascending (pos - 1) pos [] (omega arith) within);
  tree = subst (λ (r : Record). ¬ IsNull r.tree) (sym (record_at-get_or layer pos)) (right.trees pos no_record (omega arith));
}

pub commit_faults-iff : (layer : Layer) → IsPaired layer → ((pos : ℕ) → pos < length layer.ids → commit_fault layer pos ≡ None)
    ↔ AreRightIds layer
commit_faults-iff layer paired = (
  λ h. ids-from_commits layer paired (λ pos within. (commit_fault-iff layer pos).0 (h pos within)),
  λ right pos within. (commit_fault-iff layer pos).1 (commits-from_ids layer paired right pos within),
)
