-- The trees of commits, by what a graph says.
use Rattle.std.proofs.Common.{◌≡◌, ℕ, ◌<◌, List, [], ◌∷◌, ◌++◌, Option, Some, None, map, refl, sym, ap, ◌∙◌, subst}
use Rattle.std.specs.Prelude.{All, slice_get, option_map, Ok}
use Rattle.std.specs.Option.{option_and_then}
use Rattle.std.proofs.lemmas.List.Elements.{All-head}
use Rattle.std.proofs.lemmas.Option.{slice_get-map, none-some, same_Some}
use Rattle.graph_walks.specs.History.{parents_at}
use Rattle.graph_format.specs.Layer.{Layer}
use Rattle.graph_format.specs.Parents.{DecodedParents, fault_items, first_of, items_of}
use Rattle.graph_format.specs.StoredHistory.{history_of}
use Rattle.graph_format.specs.declared.Position.{Position}
use Rattle.graph_format.specs.declared.parents.ParentError.{ParentError}
use Rattle.filter_checks.specs.RightFilters.{root_tree_at, parent_tree_at}

first_with : (positions : List Position) (fault : Option ParentError) → fault ≡ None
    → first_of (map (λ pos. Ok pos) positions ++ fault_items fault) ≡ Ok (slice_get positions 0)
first_with [] fault e = ap (λ f. first_of (fault_items f)) e
first_with (pos ∷ positions) fault e = refl

-- the first parent, where all can be decoded
pub first_parent : (parents : DecodedParents) → parents.fault ≡ None
    → first_of (items_of parents) ≡ Ok (slice_get parents.positions 0)
first_parent parents e = first_with parents.positions parents.fault e

first_in : (n : ℕ) (positions : List Position) (pos : Position) → slice_get positions 0 ≡ Some pos
    → All (λ q. q < n) (map (λ q. q.0) positions) → pos.0 < n
first_in n [] pos e h = absurd (none-some pos e)
first_in n (x ∷ xs) pos e h =
    subst (λ (q : Position). q.0 < n) (same_Some x pos e) (All-head (λ q. q < n) x.0 (map (λ q. q.0) xs) h)

-- the first parent is among so many commits, if all are
pub first_within : (parents : DecodedParents) (n : ℕ) (pos : Position) → parents.fault ≡ None
    → first_of (items_of parents) ≡ Ok (Some pos) → All (λ q. q < n) (map (λ q. q.0) parents.positions) → pos.0 < n
first_within parents n pos e first all =
    let there : Ok (slice_get parents.positions 0) ≡ Ok (Some pos) = sym (first_parent parents e) ∙ first in
    let here : slice_get parents.positions 0 ≡ Some pos = let t = there in cc in
    first_in n parents.positions pos here all

pub parent_tree_is : (layers : List Layer) (p : ℕ) (positions : List Position)
    → parents_at (history_of layers) p ≡ map (λ q. q.0) positions
    → parent_tree_at layers p ≡ option_and_then (root_tree_at layers) (option_map (λ q. q.0) (slice_get positions 0))
parent_tree_is layers p positions e =
    ap (λ ps. option_and_then (root_tree_at layers) (slice_get ps 0)) e
    ∙ ap (option_and_then (root_tree_at layers)) (slice_get-map (λ (q : Position). q.0) positions 0)
