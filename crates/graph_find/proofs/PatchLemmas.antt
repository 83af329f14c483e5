-- a file with a part in the place of what stood there
use Rattle.std.proofs.Common.{◌≡◌, ℕ, ◌+◌, ◌≤◌, List, ◌++◌, length, take, drop, slice_range, sym, ap, ◌∙◌, arith, length-append}
use Rattle.std.proofs.Common.{length-take, length-drop}
use Rattle.std.proofs.Math.Seq.{take-append_seam, drop-append_seam}
use Rattle.std.proofs.lemmas.List.{take-take, take-append-le}
use Rattle.std.proofs.lemmas.Slice.{between_is}

pub patched : List ℕ → ℕ → List ℕ → List ℕ
patched file start part = (take start file ++ part) ++ drop (start + length part) file

before-len : (file : List ℕ) (start : ℕ) (part : List ℕ) → start + length part ≤ length file
    → length (take start file ++ part) ≡ start + length part
before-len file start part fits = omega (arith, length-append (take start file) part, length-take start file)

pub patched-len : (file : List ℕ) (start : ℕ) (part : List ℕ) → start + length part ≤ length file
    → length (patched file start part) ≡ length file
unfolding patched
patched-len file start part fits =
    omega (
      arith,
      length-append (take start file ++ part) (drop (start + length part) file),
      before-len file start part fits,
      length-drop (start + length part) file,
    )

-- what stands before the part stays
pub patched-take : (file : List ℕ) (start : ℕ) (part : List ℕ) (n : ℕ) → start + length part ≤ length file → n ≤ start
    → take n (patched file start part) ≡ take n file
unfolding patched
patched-take file start part n fits h =
    take-append-le n (take start file ++ part) (drop (start + length part) file)
    (omega (arith, before-len file start part fits))
    ∙ take-append-le n (take start file) part (omega (arith, length-take start file))
    ∙ take-take n start file h

pub patched-before : (file : List ℕ) (start : ℕ) (part : List ℕ) (s e : ℕ) → start + length part ≤ length file → e ≤ start
    → slice_range (patched file start part) s e ≡ slice_range file s e
patched-before file start part s e fits h =
    between_is (patched file start part) s e
    ∙ ap (drop s) (patched-take file start part e fits h)
    ∙ sym (between_is file s e)

-- and the part stands there
pub patched-part : (file : List ℕ) (start : ℕ) (part : List ℕ) → start + length part ≤ length file
    → slice_range (patched file start part) start (start + length part) ≡ part
unfolding patched
patched-part file start part fits =
    let front = take start file ++ part in
    let rest = drop (start + length part) file in
    between_is (front ++ rest) start (start + length part)
    ∙ ap (λ (n : ℕ). drop start (take n (front ++ rest))) (sym (before-len file start part fits))
    ∙ ap (drop start) (take-append_seam front rest)
    ∙ ap (λ (n : ℕ). drop n front) (same file start fits)
    ∙ drop-append_seam (take start file) part
  where
    same : (xs : List ℕ) (n : ℕ) → n + length part ≤ length xs → n ≡ length (take n xs)
    same xs n h = omega (arith, length-take n xs)
