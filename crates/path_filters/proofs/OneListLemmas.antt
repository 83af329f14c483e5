-- Texts that rise are fixed by which they are, and so is the filter that Git writes.
use Rattle.std.proofs.Common.{◌≡◌, ℕ, ◌<◌, ◌≤◌, ◌⊎◌, List, [], ◌∷◌, length, refl, sym, ap, ◌∙◌, subst, arith, inl, inr}
use Rattle.std.specs.Prelude.{All, Contains}
use Rattle.std.specs.Ordering.{nat_cmp, ordering_reverse}
use Rattle.std.specs.Cmp.Lexicographic.{slice_cmp}
use Rattle.std.specs.declared.cmp.Ordering.TheVariants.{Less}
use Rattle.std.proofs.lemmas.Cmp.{nat_list_cmp_total}
use Rattle.std.proofs.lemmas.List.Elements.{All-contains}
use Rattle.tree_changes.specs.Changes.{AreRisingTexts}
use Rattle.path_filters.specs.Touched.{IsTouched, AreTouched, AreMoreTouched}
use Rattle.path_filters.specs.Made.{IsFilterOf, IsWritten, reading_of}
use Rattle.path_filters.specs.declared.settings.Settings.{Settings}
use Rattle.path_filters.proofs.ListLemmas.{first, later, cases, nothing_in}
use Rattle.path_filters.proofs.MadeLemmas.{one_filter}

abbrev IsBehind : List ℕ → List ℕ → Type 0
IsBehind text other = slice_cmp nat_cmp text other ≡ Less

not_both_ways : (a b : List ℕ) → IsBehind a b → ¬ IsBehind b a
not_both_ways a b h k =
    let e = sym h ∙ nat_list_cmp_total.antisymm a b ∙ ap ordering_reverse k in cc

-- what is behind the first of some texts is behind the first of others, where that one is among the others
tail_within : (x : List ℕ) (xs : List (List ℕ)) (y : List ℕ) (ys : List (List ℕ)) → All (IsBehind x) xs → All (IsBehind y) ys
    → Contains (y ∷ ys) x → (e : List ℕ) → Contains xs e → Contains (y ∷ ys) e → Contains ys e
tail_within x xs y ys h k there e within among =
    elim (cases y ys e among) [
      | inr i ↦ i
      | inl same ↦
          let less : IsBehind x y = subst (IsBehind x) (sym same) (All-contains (IsBehind x) xs e h within) in
          elim (cases y ys x there) [
            | inl is ↦
                let itself : IsBehind y y = subst (λ t. IsBehind t y) (sym is) less in
                absurd (not_both_ways y y itself itself)
            | inr j ↦ absurd (not_both_ways x y less (All-contains (IsBehind y) ys x k j))
          ]
    ]

no_longer : (xs ys : List (List ℕ)) → AreRisingTexts xs → AreRisingTexts ys
    → ((e : List ℕ) → Contains xs e → Contains ys e) → length xs ≤ length ys
no_longer [] ys h k f = omega arith
no_longer (x ∷ xs) [] h k f = absurd (nothing_in x (f x (first x xs)))
no_longer (x ∷ xs) (y ∷ ys) h k f =
    let rest =
    no_longer xs ys h.1 k.1
    (λ e i. tail_within x xs y ys h.0 k.0 (f x (first x xs)) e i (f e (later x xs e i))) in
    omega (arith, rest)

same_lists : (xs ys : List (List ℕ)) → AreRisingTexts xs → AreRisingTexts ys
    → ((e : List ℕ) → Contains xs e → Contains ys e) → ((e : List ℕ) → Contains ys e → Contains xs e) → xs ≡ ys
same_lists [] [] h k f g = refl
same_lists [] (y ∷ ys) h k f g = absurd (nothing_in y (g y (first y ys)))
same_lists (x ∷ xs) [] h k f g = absurd (nothing_in x (f x (first x xs)))
same_lists (x ∷ xs) (y ∷ ys) h k f g =
    let here = f x (first x xs) in
    let there = g y (first y ys) in
    let heads : x ≡ y = elim (cases y ys x here) [
      | inl e ↦ sym e
      | inr i ↦
          elim (cases x xs y there) [
            | inl e ↦ e
            | inr j ↦
                absurd (not_both_ways x y (All-contains (IsBehind x) xs y h.0 j) (All-contains (IsBehind y) ys x k.0 i))
          ]
    ] in
    let tails =
    same_lists xs ys h.1 k.1 (λ e i. tail_within x xs y ys h.0 k.0 here e i (f e (later x xs e i)))
    (λ e i. tail_within y ys x xs k.0 h.0 there e i (g e (later y ys e i))) in
    ap (λ t. t ∷ xs) heads ∙ ap (λ ts. y ∷ ts) tails

-- no more texts are touched than all that are
not_more : (P : List ℕ → Type 0) (most : ℕ) (paths : List (List ℕ)) → AreMoreTouched P most → AreTouched P paths
    → ¬ (length paths ≤ most)
not_more P most paths more all few =
    let within =
    no_longer more.paths paths more.rising all.rising (λ e i. all.all e (All-contains (IsTouched P) more.paths e more.each i)) in
    omega (arith, within, few, more.more)

pub one_written : (settings : Settings) (P : List ℕ → Type 0) (one other : List ℕ) → All (λ byte. byte < 256) one
    → All (λ byte. byte < 256) other → IsWritten settings P one → IsWritten settings P other → one ≡ other
one_written settings P one other small small_too (inl h) (inl k) = h.1 ∙ sym k.1
one_written settings P one other small small_too (inl h) (inr k) = absurd (not_more P settings.most k.0 h.0 k.1 k.2)
one_written settings P one other small small_too (inr h) (inl k) = absurd (not_more P settings.most h.0 k.0 h.1 h.2)
one_written settings P one other small small_too (inr h) (inr k) =
    let same : h.0 ≡ k.0 =
    same_lists h.0 k.0 h.1.rising k.1.rising (λ e i. k.1.all e (All-contains (IsTouched P) h.0 e h.1.each i))
    (λ e i. h.1.all e (All-contains (IsTouched P) k.0 e k.1.each i)) in
    let reading = reading_of settings.version in
    one_filter reading settings.bits settings.hashes k.0 one other small small_too
    (subst (λ paths. IsFilterOf reading settings.bits settings.hashes paths one) same h.3) k.3
