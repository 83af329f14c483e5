-- A hash table, as places of numbers are put into it.
use Rattle.std.proofs.Common.{◌≡◌, ◌≢◌, ℕ, ◌+◌, ◌<◌, ◌≤◌, List, [], ◌∷◌, ◌++◌, length, take, get_or, sym, ap, ◌∙◌}
use Rattle.std.proofs.Common.{subst, ⊎_elim, arith}
use Rattle.std.proofs.lemmas.Bool.{cases_eq}
use Rattle.std.proofs.lemmas.List.{length-set, get_or-set_same, get_or-set_other, length_push, take_more, length-take-le}
use Rattle.std.proofs.lemmas.Option.{slice_get-get_or}
use Rattle.std.specs.Option.{option_map_or}
use Rattle.commit_search.specs.Marks.{Marked, number_in}
use Rattle.commit_search.specs.HashTable.{slot_in, looked_at, StandsAt, AreFew, Puts}
use Rattle.commit_search.proofs.QueueLemmas.{commit_old, commit_new, cases_pushed}

-- the place of a number is put into an empty slot
module _ (old new : List ℕ) (n p : ℕ) (puts : Puts old new n p) where
  pub same_len : length new ≡ length old
  same_len = ap length puts.put ∙ length-set old (slot_in (length old) n puts.step) (p + 1)

  kept : (i : ℕ) → get_or old i 0 ≢ 0 → get_or new i 0 ≡ get_or old i 0
  kept i taken =
      ap (λ t. get_or t i 0) puts.put
      ∙ get_or-set_other old (slot_in (length old) n puts.step) i (p + 1) 0
      (λ e. taken (ap (λ k. get_or old k 0) e ∙ puts.empty))

  looked_kept : (m k : ℕ) → looked_at old m k ≢ 0 → looked_at new m k ≡ looked_at old m k
  looked_kept m k taken =
      ap (λ l. get_or new (slot_in l m k) 0) same_len ∙ kept (slot_in (length old) m k) taken

  still_taken : (m k : ℕ) → looked_at old m k ≢ 0 → looked_at new m k ≢ 0
  still_taken m k taken none = taken (sym (looked_kept m k taken) ∙ none)

  pub stands_kept : (m q : ℕ) → StandsAt old m q → StandsAt new m q
  stands_kept m q s = record {
    step = s.step;
    few = s.few;
    here = looked_kept m s.step (λ none. absurd (omega (arith, none, s.here))) ∙ s.here;
    before = λ k lt. still_taken m k (s.before k lt);
  }

  pub stands_new : StandsAt new n p
  stands_new = record {
    step = puts.step;
    few = puts.few;
    here = ap (λ l. get_or new (slot_in l n puts.step) 0) same_len
        ∙ ap (λ t. get_or t (slot_in (length old) n puts.step) 0) puts.put
        ∙ get_or-set_same old (slot_in (length old) n puts.step) (p + 1) 0 puts.inside;
    before = λ k lt. still_taken n k (puts.before k lt);
  }

  pub within_new : (i most : ℕ) → get_or old i 0 ≤ most → p < most + 1 → get_or new i 0 ≤ most + 1
  within_new i most le lt =
      ⊎_elim
      (λ (none : get_or old i 0 ≡ 0).
      ⊎_elim
      (λ (here : i ≡ slot_in (length old) n puts.step).
      omega (
        arith,
        lt,
        ap (λ k. get_or new k 0) here,
        ap (λ t. get_or t (slot_in (length old) n puts.step) 0) puts.put,
        get_or-set_same old (slot_in (length old) n puts.step) (p + 1) 0 puts.inside,
      ))
      (λ (there : i ≢ slot_in (length old) n puts.step).
      omega (
        arith,
        le,
        ap (λ t. get_or t i 0) puts.put,
        get_or-set_other old (slot_in (length old) n puts.step) i (p + 1) 0 there,
      ))
      (cases_eq i (slot_in (length old) n puts.step)))
      (λ (taken : get_or old i 0 ≢ 0). omega (arith, le, kept i taken))
      (cases_eq (get_or old i 0) 0)

  pub few_put : (marked : List Marked) (e : Marked) → e.number ≡ n → p ≡ length marked → AreFew old marked
      → AreFew new (marked ++ e ∷ [])
  few_put marked e number place few = record {
    few = omega (arith, few.few, same_len);
    within = λ i. omega (arith, within_new i (length marked) (few.within i) (omega (arith, place)), length_push marked e);
    stand = λ q lt.
        ⊎_elim
        (λ (lo : q < length marked).
        subst (λ (m : ℕ). StandsAt new m q) (sym (commit_old marked e q lo)) (stands_kept _ q (few.stand q lo)))
        (λ (hi : q ≡ length marked).
        subst (λ (k : ℕ). StandsAt new (number_in (marked ++ e ∷ []) k) k) (place ∙ sym hi)
        (subst (λ (m : ℕ). StandsAt new m p) (sym (commit_new marked e p place ∙ number)) stands_new))
        (cases_pushed marked e q lt);
  }

  -- of a list of numbers, those before a place stand in the table, and then that one does
  pub few_more : (marked : List Marked) → p < length marked → number_in marked p ≡ n → AreFew old (take p marked)
      → AreFew new (take (p + 1) marked)
  few_more marked lt number few =
      let none : Marked = record { number = 0; mark = 0 } in
      let at : number_in marked p ≡ (get_or marked p none).number =
      ap (λ o. option_map_or (λ (e : Marked). e.number) o 0) (slice_get-get_or marked p none lt) in
      subst (AreFew new) (sym (take_more marked p none lt))
      (few_put (take p marked) (get_or marked p none) (sym at ∙ number) (sym (length-take-le p marked (omega arith))) few)
