-- Parts of bytes to which others were added.
use Rattle.std.proofs.Common.{◌≡◌, ◌-◌, ◌≤◌, ◌++◌, ℕ, List, length, take, drop, ap, ◌∙◌, arith}
use Rattle.std.specs.Prelude.{slice_range}
use Rattle.std.proofs.lemmas.List.{take-append-le, drop-append-le, length-drop}
use Rattle.std.proofs.lemmas.Grind.{common_steps}

pub range_kept : (xs ys : List ℕ) (start end : ℕ) → start ≤ end → end ≤ length xs
    → slice_range (xs ++ ys) start end ≡ slice_range xs start end
range_kept xs ys start end order within =
    let front : start ≤ length xs = omega arith in
    let fits : end - start ≤ length (drop start xs) = omega (arith, length-drop start xs) in
    ap (λ (l : List ℕ). take (end - start) l) (drop-append-le start xs ys front)
    ∙ take-append-le (end - start) (drop start xs) ys fits

pub range_added : (xs ys : List ℕ) → slice_range (xs ++ ys) (length xs) (length (xs ++ ys)) ≡ ys
range_added xs ys = grind (arith, common_steps)
