-- Whether an id is null.
use Rattle.std.proofs.Common.{◌≡◌, ◌==◌, ℕ, List, refl}
use Rattle.std.specs.Prelude.{All}
use Rattle.std.specs.Bool.{Decides}
use Rattle.std.specs.List.{list_all}
use Rattle.std.proofs.lemmas.Bool.Decides.{Decides-by_and, Decides-eqb}
use Rattle.graph_format.specs.Faults.{is_null}

pub is_null-decides : (id : List ℕ) → Decides (is_null id) (All (λ byte. byte ≡ 0) id)
is_null-decides =
    Decides-by_and (λ byte. byte == 0) (λ byte. byte ≡ 0) (list_all (λ byte. byte == 0)) (λ byte. Decides-eqb byte 0) refl (λ _ _.
    refl)
