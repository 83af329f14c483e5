-- What depends on a part that is known alone does so too where there may be none.
use Rattle.std.specs.Prelude.{◌≡◌, Option, Some, None, refl}
use Rattle.std.specs.Option.{option_map}
use Rattle.std.proofs.Common.{ap}

pub follow_each : {S K F : Type 0} (known : S → K) (facts : S → F)
    → ((one other : S) → known one ≡ known other → facts one ≡ facts other) → (one other : Option S)
    → option_map known one ≡ option_map known other → option_map facts one ≡ option_map facts other
follow_each known facts follow None None same = refl
follow_each known facts follow None (Some other) same = cc
follow_each known facts follow (Some one) None same = cc
follow_each known facts follow (Some one) (Some other) same = ap (λ x. Some x) (follow one other (cc))
