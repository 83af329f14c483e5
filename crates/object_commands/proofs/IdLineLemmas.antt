-- The lines of the ids in a range, one after another.
use Rattle.std.proofs.Common.{◌≡◌, ℕ, ◌+◌, ◌-◌, ◌<◌, ◌≤◌, List, [], ◌∷◌, ◌++◌, get_or, take, drop, length, ap, sym, subst, ◌∙◌}
use Rattle.std.proofs.Common.{arith, length-drop}
use Rattle.std.specs.Prelude.{Option, Some, slice_get, slice_range}
use Rattle.std.specs.Io.KnownBytes.{Appends}
use Rattle.std.specs.List.{flat_map}
use Rattle.std.proofs.KnownBytes.{Appends-trans}
use Rattle.std.proofs.lemmas.List.{flat_map_more, get_or-drop, take_more}
use Rattle.std.proofs.lemmas.Option.{get_or_from_slice_get, slice_get_within}
use Rattle.hex.specs.Hex.{encode_lower}
use Rattle.object_commands.specs.CommitIds.{line_of_id}

-- a range that ends one later has one more element
slice_range-push : {X : Type 0} (xs : List X) (from n : ℕ) (x : X) → from ≤ n → slice_get xs n ≡ Some x
    → slice_range xs from (n + 1) ≡ slice_range xs from n ++ x ∷ []
slice_range-push {X = X} xs from n x order there =
    let within : n < length xs = slice_get_within xs n x there in
    let longer : (n + 1) - from ≡ (n - from) + 1 = omega arith in
    let same : from + (n - from) ≡ n = omega arith in
    let last : get_or (drop from xs) (n - from) x ≡ x =
    get_or-drop from xs (n - from) x ∙ ap (λ (i : ℕ). get_or xs i x) same ∙ get_or_from_slice_get xs n x x there in
    ap (λ (i : ℕ). take i (drop from xs)) longer
    ∙ take_more (drop from xs) (n - from) x (omega (arith, length-drop from xs))
    ∙ ap (λ (y : X). take (n - from) (drop from xs) ++ y ∷ []) last

-- the digits of an id and a line feed, added to the lines of those before it
pub adds_id : (ids : List (List ℕ)) (from n : ℕ) (id : List ℕ) (a b c d : Option (List ℕ)) → from ≤ n
    → slice_get ids n ≡ Some id → Appends a b (flat_map line_of_id (slice_range ids from n)) → Appends b c (encode_lower id)
    → Appends c d (10 ∷ []) → Appends a d (flat_map line_of_id (slice_range ids from (n + 1)))
adds_id ids from n id a b c d order there before digits feed =
    subst (Appends a d)
    (flat_map_more line_of_id [] (slice_range ids from n) id
    ∙ ap (flat_map line_of_id) (sym (slice_range-push ids from n id order there)))
    (Appends-trans a b d _ _ before (Appends-trans b c d _ _ digits feed))
