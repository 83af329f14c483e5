-- A queue, as commits are added to it.
use Rattle.std.proofs.Common.{◌≡◌, ◌≢◌, ◌⊎◌, ℕ, suc, zero, ◌<◌, ◌≤◌, List, [], ◌∷◌, ◌++◌, length, slice_get, Some, refl, sym, ap}
use Rattle.std.proofs.Common.{◌∙◌, subst, inl, inr, ⊎_elim, arith}
use Rattle.std.specs.Option.{option_map_or}
use Rattle.std.proofs.lemmas.Bool.{cases_lt}
use Rattle.std.proofs.lemmas.List.{length_push}
use Rattle.commit_search.specs.Marks.{Marked, IsMarked}
use Rattle.commit_search.specs.Queue.{commit_in, child_in, IsQueueOf, IsQueued, Extends}

slice_get_push_old : {A : Type 0} (xs : List A) (x : A) (i : ℕ) → i < length xs → slice_get (xs ++ x ∷ []) i ≡ slice_get xs i
slice_get_push_old [] x i lt = absurd (omega arith)
slice_get_push_old (y ∷ ys) x zero lt = refl
slice_get_push_old (y ∷ ys) x (suc i) lt = slice_get_push_old ys x i (omega arith)

slice_get_push_new : {A : Type 0} (xs : List A) (x : A) → slice_get (xs ++ x ∷ []) (length xs) ≡ Some x
slice_get_push_new [] x = refl
slice_get_push_new (y ∷ ys) x = slice_get_push_new ys x

leads_same : (Leads : ℕ → ℕ → Type 0) (p q r s : ℕ) → p ≡ r → q ≡ s → Leads r s → Leads p q
leads_same Leads p q r s e f leads = subst (λ (x : ℕ). Leads x q) (sym e) (subst (λ (y : ℕ). Leads r y) (sym f) leads)

-- the places of a list and one more
module _ (queued : List Marked) (f : Marked) where
  pub cases_pushed : (i : ℕ) → i < length (queued ++ f ∷ []) → (i < length queued) ⊎ (i ≡ length queued)
  cases_pushed i lt = let len = length_push queued f in
      ⊎_elim (λ (lo : i < length queued). inl lo) (λ (hi : length queued ≤ i). inr (omega arith)) (cases_lt i (length queued))

  pub commit_old : (i : ℕ) → i < length queued → commit_in (queued ++ f ∷ []) i ≡ commit_in queued i
  commit_old i lt = ap (λ o. option_map_or (λ (x : Marked). x.number) o 0) (slice_get_push_old queued f i lt)

  child_old : (i : ℕ) → i < length queued → child_in (queued ++ f ∷ []) i ≡ child_in queued i
  child_old i lt = ap (λ o. option_map_or (λ (x : Marked). x.mark) o 0) (slice_get_push_old queued f i lt)

  pub commit_new : (i : ℕ) → i ≡ length queued → commit_in (queued ++ f ∷ []) i ≡ f.number
  commit_new i e = ap (commit_in (queued ++ f ∷ [])) e
      ∙ ap (λ o. option_map_or (λ (x : Marked). x.number) o 0) (slice_get_push_new queued f)

  child_new : (i : ℕ) → i ≡ length queued → child_in (queued ++ f ∷ []) i ≡ f.mark
  child_new i e = ap (child_in (queued ++ f ∷ [])) e
      ∙ ap (λ o. option_map_or (λ (x : Marked). x.mark) o 0) (slice_get_push_new queued f)

  pub marked_new : IsMarked (queued ++ f ∷ []) f.number
  marked_new = (length queued, (let len = length_push queued f in omega arith), commit_new (length queued) refl)

  pub marked_old : (n : ℕ) → IsMarked queued n → IsMarked (queued ++ f ∷ []) n
  marked_old n (i, lt, at) = (i, (let len = length_push queued f in omega arith), commit_old i lt ∙ at)

  pub marked_cases : (n : ℕ) → IsMarked (queued ++ f ∷ []) n → IsMarked queued n ⊎ (f.number ≡ n)
  marked_cases n (i, lt, at) =
      ⊎_elim
      (λ (lo : i < length queued). inl (i, lo, sym (commit_old i lo) ∙ at))
      (λ (hi : i ≡ length queued). inr (sym (commit_new i hi) ∙ at))
      (cases_pushed i lt)

  pub extends_push : Extends queued (queued ++ f ∷ []) f.mark
  extends_push = record {
    longer = let len = length_push queued f in omega arith;
    same = λ i lt.
        slice_get_push_old queued f i lt;
    since = λ i from lt. child_new i (let len = length_push queued f in omega arith);
  }

pub extends_refl : (queued : List Marked) (c : ℕ) → Extends queued queued c
extends_refl queued c = record { longer = omega arith; same = λ i lt. refl; since = λ i from lt. absurd (omega arith) }

pub commit_extends : (a b : List Marked) (c i : ℕ) → Extends a b c → i < length a → commit_in b i ≡ commit_in a i
commit_extends a b c i x lt = ap (λ o. option_map_or (λ (f : Marked). f.number) o 0) (x.same i lt)

pub child_extends : (a b : List Marked) (c i : ℕ) → Extends a b c → i < length a → child_in b i ≡ child_in a i
child_extends a b c i x lt = ap (λ o. option_map_or (λ (f : Marked). f.mark) o 0) (x.same i lt)

pub extends_trans : (a b d : List Marked) (c : ℕ) → Extends a b c → Extends b d c → Extends a d c
extends_trans a b d c x y = record {
  longer = let p = x.longer in let q = y.longer in omega arith;
  same = λ i lt. y.same i (let p = x.longer in omega arith) ∙ x.same i lt;
  since = λ i from lt.
      ⊎_elim
      (λ (lo : i < length b). child_extends b d c i y lo ∙ x.since i from lo)
      (λ (hi : length b ≤ i). y.since i hi lt)
      (cases_lt i (length b));
}

pub queued_extends : (a b : List Marked) (c p : ℕ) → Extends a b c → IsQueued a p → IsQueued b p
queued_extends a b c p x (i, lt, at) = (i, (let l = x.longer in omega arith), commit_extends a b c i x lt ∙ at)

-- one commit alone
one_commit : (from i : ℕ) → i < 1 → commit_in (record { number = from; mark = 0 } ∷ []) i ≡ from
one_commit from zero lt = refl
one_commit from (suc i) lt = absurd (omega arith)

pub one_is_queue : (count : ℕ) (Keeps : ℕ → Type 0) (Leads : ℕ → ℕ → Type 0) (from : ℕ) (queued : List Marked)
    → queued ≡ record { number = from; mark = 0 } ∷ [] → from < count → Keeps from → IsQueueOf count Keeps Leads queued
one_is_queue count Keeps Leads from queued is within kept =
    subst (IsQueueOf count Keeps Leads) (sym is) (record {
      within = λ i lt. omega (arith, one_commit from i (omega arith));
      kept = λ i lt. subst Keeps (sym (one_commit from i (omega arith))) kept;
      once = λ i j lt lt' same. omega arith;
      parents = λ i pos lt. absurd (omega arith);
      earlier = λ i pos lt. absurd (omega arith);
    })

-- a commit that was not queued is queued
module _ (count : ℕ) (Keeps : ℕ → Type 0) (Leads : ℕ → ℕ → Type 0) (queued : List Marked) (e : Marked)
    (queue : IsQueueOf count Keeps Leads queued) (child : e.mark < length queued) (inside : e.number < count)
    (leads : Leads (commit_in queued e.mark) e.number) (unqueued : IsQueued queued e.number → ⊥) (keeps : Keeps e.number) where
  not_queued : (i : ℕ) → i < length queued → commit_in queued i ≢ e.number
  not_queued i lt at = unqueued (i, lt, at)

  pushed_within : (i : ℕ) → i < length (queued ++ e ∷ []) → commit_in (queued ++ e ∷ []) i < count
  pushed_within i lt =
      ⊎_elim
      (λ (lo : i < length queued). let same = commit_old queued e i lo in let b = queue.within i lo in omega arith)
      (λ (hi : i ≡ length queued). let same = commit_new queued e i hi in omega arith)
      (cases_pushed queued e i lt)

  pushed_kept : (i : ℕ) → i < length (queued ++ e ∷ []) → Keeps (commit_in (queued ++ e ∷ []) i)
  pushed_kept i lt =
      ⊎_elim
      (λ (lo : i < length queued). subst Keeps (sym (commit_old queued e i lo)) (queue.kept i lo))
      (λ (hi : i ≡ length queued). subst Keeps (sym (commit_new queued e i hi)) keeps)
      (cases_pushed queued e i lt)

  pushed_once : (i j : ℕ) → i < length (queued ++ e ∷ []) → j < length (queued ++ e ∷ [])
      → commit_in (queued ++ e ∷ []) i ≡ commit_in (queued ++ e ∷ []) j → i ≡ j
  pushed_once i j lt lt' same =
      ⊎_elim
      (λ (lo : i < length queued). ⊎_elim
      (λ (lo' : j < length queued). queue.once i j lo lo' (sym (commit_old queued e i lo) ∙ same ∙ commit_old queued e j lo'))
      (λ (hi' : j ≡ length queued). absurd (not_queued i lo (sym (commit_old queued e i lo) ∙ same ∙ commit_new queued e j hi')))
      (cases_pushed queued e j lt'))
      (λ (hi : i ≡ length queued). ⊎_elim
      (λ (lo' : j < length queued).
      absurd (not_queued j lo' (sym (commit_old queued e j lo') ∙ sym same ∙ commit_new queued e i hi)))
      (λ (hi' : j ≡ length queued). hi ∙ sym hi')
      (cases_pushed queued e j lt'))
      (cases_pushed queued e i lt)

  pushed_parents : (i : ℕ) → 0 < i → i < length (queued ++ e ∷ [])
      → Leads (commit_in (queued ++ e ∷ []) (child_in (queued ++ e ∷ []) i)) (commit_in (queued ++ e ∷ []) i)
  pushed_parents i pos lt =
      ⊎_elim
      (λ (lo : i < length queued).
      let below : child_in queued i < length queued = (let b = queue.earlier i pos lo in omega arith) in
      leads_same Leads _ _ (commit_in queued (child_in queued i)) (commit_in queued i)
      (ap (commit_in (queued ++ e ∷ [])) (child_old queued e i lo) ∙ commit_old queued e (child_in queued i) below)
      (commit_old queued e i lo) (queue.parents i pos lo))
      (λ (hi : i ≡ length queued).
      leads_same Leads _ _ (commit_in queued e.mark) e.number (ap (commit_in (queued ++ e ∷ [])) (child_new queued e i hi)
      ∙ commit_old queued e e.mark child) (commit_new queued e i hi) leads)
      (cases_pushed queued e i lt)

  pushed_earlier : (i : ℕ) → 0 < i → i < length (queued ++ e ∷ []) → child_in (queued ++ e ∷ []) i < i
  pushed_earlier i pos lt =
      ⊎_elim
      (λ (lo : i < length queued). let same = child_old queued e i lo in let b = queue.earlier i pos lo in omega arith)
      (λ (hi : i ≡ length queued). let same = child_new queued e i hi in omega arith)
      (cases_pushed queued e i lt)

  pub queue_push : IsQueueOf count Keeps Leads (queued ++ e ∷ [])
  queue_push = record {
    within = pushed_within;
    kept = pushed_kept;
    once = pushed_once;
    parents = pushed_parents;
    earlier = pushed_earlier;
  }

-- a queue of commits that are of another kind too, and led to in another way too
pub queue_weaker : (count : ℕ) (Keeps Holds : ℕ → Type 0) (Leads Goes : ℕ → ℕ → Type 0) (queued : List Marked)
    → ((p : ℕ) → Keeps p → Holds p) → ((p q : ℕ) → Leads p q → Goes p q) → IsQueueOf count Keeps Leads queued
    → IsQueueOf count Holds Goes queued
queue_weaker count Keeps Holds Leads Goes queued holds goes queue = record {
  within = queue.within;
  kept = λ i lt. holds (commit_in queued i) (queue.kept i lt);
  once = queue.once;
  parents = λ i pos lt. goes (commit_in queued (child_in queued i)) (commit_in queued i) (queue.parents i pos lt);
  earlier = queue.earlier;
}
