-- A buffer that has nothing.
use Rattle.std.proofs.Common.{◌≡◌, ℕ, List, [], Option, Some, None, refl, ap, append-nil}
use Rattle.graph_commands.specs.Buffer.{with_buffer}

pub with_nothing : (old : Option (List ℕ)) → with_buffer old [] ≡ old
with_nothing None = refl
with_nothing (Some bytes) = ap (λ (l : List ℕ). Some l) (append-nil bytes)
