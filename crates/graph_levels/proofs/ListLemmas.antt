-- One more list.
use Rattle.std.proofs.Common.{◌≡◌, ◌≢◌, ℕ, zero, suc, ◌-◌, ◌<◌, ◌≤◌, List, [], ◌∷◌, ◌++◌, length, take, drop, get_or, slice_range}
use Rattle.std.proofs.Common.{refl, ap, ◌∙◌, ⊎_elim, arith, length-append, length-drop}
use Rattle.std.proofs.Math.Seq.{get_or-append_seam, drop-append_seam, take-length}
use Rattle.std.proofs.lemmas.Bool.{cases_lt}
use Rattle.std.proofs.lemmas.List.{get_or_append_left, take-append-le, drop-append-le, length_push}
use Rattle.graph_levels.specs.ListEnds.{start_in, HasEnds}

-- a part of a list is the same with more after it
pub range_before : (xs ys : List ℕ) (a b : ℕ) → a ≤ b → b ≤ length xs → slice_range (xs ++ ys) a b ≡ slice_range xs a b
range_before xs ys a b le within =
    ap (take (b - a)) (drop-append-le a xs ys (omega arith))
    ∙ take-append-le (b - a) (drop a xs) ys (omega (arith, length-drop a xs))

-- and what was added is the part after it
pub range_after : (xs ys : List ℕ) (a b : ℕ) → a ≡ length xs → b ≡ length (xs ++ ys) → slice_range (xs ++ ys) a b ≡ ys
range_after xs ys a b start end =
    ap (λ (n : ℕ). take (b - n) (drop n (xs ++ ys))) start
    ∙ ap (take (b - length xs)) (drop-append_seam xs ys)
    ∙ ap (λ (n : ℕ). take n ys) (let it : b - length xs ≡ length ys = omega (arith, length-append xs ys) in it)
    ∙ take-length ys

pub start_before : (ends : List ℕ) (end i : ℕ) → i ≤ length ends → start_in (ends ++ end ∷ []) i ≡ start_in ends i
unfolding start_in
start_before ends end zero le = refl
start_before ends end (suc i) le = get_or_append_left ends (end ∷ []) 0 i (omega arith)

pub start_after : (ends : List ℕ) (i : ℕ) → start_in ends (suc i) ≡ get_or ends i 0
unfolding start_in
start_after ends i = refl

pub start_at_zero : (ends : List ℕ) (i : ℕ) → i ≡ 0 → 0 ≡ start_in ends i
unfolding start_in
start_at_zero ends zero is = refl
start_at_zero ends (suc i) is = absurd (omega arith)

pub start_above_zero : (ends : List ℕ) (i : ℕ) → i ≢ 0 → get_or ends (i - 1) 0 ≡ start_in ends i
unfolding start_in
start_above_zero ends zero apart = absurd (apart refl)
start_above_zero ends (suc i) apart =
    let one : suc i - 1 ≡ i = omega arith in ap (λ (n : ℕ). get_or ends n 0) one

module _ (positions ends parents : List ℕ) (has : HasEnds positions ends) where
  abbrev more : List ℕ
  more = positions ++ parents

  abbrev longer : List ℕ
  longer = ends ++ length more ∷ []

  pub old_list : (i : ℕ) → i < length ends
      → slice_range more (start_in longer i) (get_or longer i 0) ≡ slice_range positions (start_in ends i) (get_or ends i 0)
  old_list i lt =
      ap (λ (a : ℕ). slice_range more a (get_or longer i 0)) (start_before ends (length more) i (omega arith))
      ∙ ap (slice_range more (start_in ends i)) (get_or_append_left ends (length more ∷ []) 0 i lt)
      ∙ range_before positions parents (start_in ends i) (get_or ends i 0) (has.rising i lt) (has.within i lt)

  pub new_list : slice_range more (start_in longer (length ends)) (get_or longer (length ends) 0) ≡ parents
  new_list =
      range_after positions parents _ _
      (start_before ends (length more) (length ends) (omega arith) ∙ has.closed)
      (get_or-append_seam ends (length more) [] 0)

  pub still_ends : HasEnds more longer
  still_ends = record {
    rising = λ i lt.
        ⊎_elim
        (λ (old : i < length ends).
        let start = start_before ends (length more) i (omega arith) in
        let end = get_or_append_left ends (length more ∷ []) 0 i old in
        omega (arith, start, end, has.rising i old))
        (λ (new : length ends ≤ i).
        let last : i ≡ length ends = omega (arith, length_push ends (length more)) in
        let start : start_in longer i ≡ length positions =
        ap (start_in longer) last ∙ start_before ends (length more) (length ends) (omega arith) ∙ has.closed in
        let end : get_or longer i 0 ≡ length more = ap (λ (n : ℕ). get_or longer n 0) last
        ∙ get_or-append_seam ends (length more) [] 0 in
        omega (arith, start, end, length-append positions parents))
        (cases_lt i (length ends));
    within = λ i lt.
        ⊎_elim
        (λ (old : i < length ends).
        let end = get_or_append_left ends (length more ∷ []) 0 i old in
        omega (arith, end, has.within i old, length-append positions parents))
        (λ (new : length ends ≤ i).
        let last : i ≡ length ends = omega (arith, length_push ends (length more)) in
        let end : get_or longer i 0 ≡ length more = ap (λ (n : ℕ). get_or longer n 0) last
        ∙ get_or-append_seam ends (length more) [] 0 in
        omega (arith, end))
        (cases_lt i (length ends));
    closed = last_end (length ends) refl;
  }
    where
      last_end : (n : ℕ) → n ≡ length ends → start_in longer (length longer) ≡ length more
      last_end n is =
          let size : length longer ≡ suc (length ends) = omega (arith, length_push ends (length more)) in
          ap (start_in longer) size
          ∙ start_after longer (length ends)
          ∙ get_or-append_seam ends (length more) [] 0

pub no_ends : HasEnds [] []
unfolding start_in
no_ends = record { rising = λ i lt. absurd (omega arith); within = λ i lt. absurd (omega arith); closed = refl }
