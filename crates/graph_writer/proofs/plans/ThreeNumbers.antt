-- Three numbers that fit in four bytes each.
use Rattle.std.proofs.Common.{ℕ, zero, suc, ◌^◌, ◌<◌, [], ◌∷◌, All, arith}

pub three-fit : (a b c : ℕ) → a < 2 ^ 32 → b < 2 ^ 32 → c < 2 ^ 32 → All (λ n. n < 2 ^ 32) (a ∷ b ∷ c ∷ [])
three-fit a b c first second third zero d lt = first
three-fit a b c first second third (suc zero) d lt = second
three-fit a b c first second third (suc (suc zero)) d lt = third
three-fit a b c first second third (suc (suc (suc k))) d lt = absurd (omega (arith, lt))
