-- What depends on a part that is known alone does so too where it is lent.
use Rattle.std.specs.Prelude.{◌≡◌, ℕ}
use Rattle.std.proofs.Common.{ap}

pub follow_lent : {S K F : Type 0} (known : S → K) (facts : S → F)
    → ((one other : S) → known one ≡ known other → facts one ≡ facts other) → (one other : S) (a b : ℕ)
    → ◌≡◌ {A = K × ℕ} (known one, a) (known other, b) → facts one ≡ facts other
follow_lent {K = K} known facts follow one other a b same = follow one other (ap (λ (pair : K × ℕ). pair.0) same)
