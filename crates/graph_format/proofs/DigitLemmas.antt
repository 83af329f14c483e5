-- laws of the number of binary digits
use Rattle.std.proofs.Common.{◌≡◌, ℕ, zero, suc, ◌+◌, ◌*◌, ◌/◌, ◌^◌, ◌<◌, ◌≤◌, ap, ◌∙◌, add-one, arith, ⊎_elim}
use Rattle.std.proofs.lemmas.Bool.{cases_lt}
use Rattle.std.proofs.lemmas.Int.Digits.{length-digits_of_step, length-digits_of-le}
use Rattle.std.proofs.lemmas.Nat.{pow_pos}
use Rattle.std.proofs.Math.Nat.{pow-suc}
use Rattle.graph_format.specs.Lookup.{digits}
use Rattle.graph_format.specs.LookupLaw.{IsDigitCount}

pub digits-half : (n : ℕ) → 0 < n → digits n ≡ digits (n / 2) + 1
unfolding digits
digits-half n some = length-digits_of_step 2 n (omega arith) some

-- so many digits are enough
pub digits-enough : (n k : ℕ) → n < 2 ^ k → digits n ≤ k
unfolding digits
digits-enough n k h = length-digits_of-le 2 k n (omega arith) h

-- twice a number and more is below the next power
below-next : (n d : ℕ) → n / 2 < 2 ^ d → n < 2 ^ (d + 1)
below-next n d h = let e : 2 ^ (d + 1) ≡ 2 ^ d * 2 = ap (λ (k : ℕ). 2 ^ k) (add-one d) ∙ pow-suc 2 d in omega (arith, e)

below-power : (turns n : ℕ) → n ≤ turns → n < 2 ^ digits n
below-power zero n h = let p : 0 < 2 ^ digits n = pow_pos (digits n) in omega arith
below-power (suc turns) n h = ⊎_elim
    (λ (some : 0 < n). rw (digits-half n some) (below-next n (digits (n / 2)) (below-power turns (n / 2) (omega arith))))
    (λ (none : n ≤ 0). let p : 0 < 2 ^ digits n = pow_pos (digits n) in omega arith)
    (cases_lt 0 n)

-- so many digits are needed
pub digits-needed : (n : ℕ) → n < 2 ^ digits n
digits-needed n = below-power n n (omega arith)

-- half of a number has a digit less
pub digits-lower : (n half : ℕ) → 0 < n → half ≤ n / 2 → digits half + 1 ≤ digits n
digits-lower n half some h =
    let needed : n / 2 < 2 ^ digits (n / 2) = digits-needed (n / 2) in
    omega (arith, digits-half n some, digits-enough half (digits (n / 2)) (omega arith))

pub digits-count : (n : ℕ) → IsDigitCount n (digits n)
digits-count n = record { enough = digits-needed n; needed = digits-enough n }

pub ruleset digit_laws = (digits-count)
