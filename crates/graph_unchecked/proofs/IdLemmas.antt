-- ids that are read one after another
use Rattle.std.proofs.Common.{◌≡◌, ℕ, ◌+◌, ◌<◌, List, [], ◌∷◌, ◌++◌, length, get_or, take, slice_get, slice_index_or, Some}
use Rattle.std.proofs.Common.{sym, ap, ◌∙◌}
use Rattle.std.proofs.lemmas.List.{map_more, map_push}
use Rattle.std.proofs.lemmas.Option.{get_or_from_slice_get}
use Rattle.graph_format.specs.Layer.{Layer}
use Rattle.graph_format.specs.declared.Position.{Position}
use Rattle.gix_commitgraph.specs.Graph.{graph_ids}
use Rattle.gix_commitgraph.specs.IdWalks.{ids_at}
use Rattle.commit_search.specs.Positions.{numbers_of}

-- one id more
pub ids-more : (layers : List Layer) (positions : List Position) (i : ℕ) (none : Position) (ids more : List (List ℕ))
    (id : List ℕ) → i < length positions → ids ≡ ids_at layers (numbers_of (take i positions))
    → slice_get (graph_ids layers) (get_or positions i none).0 ≡ Some id → more ≡ ids ++ id ∷ []
    → more ≡ ids_at layers (numbers_of (take (i + 1) positions))
ids-more layers positions i none ids more id within before at pushed =
    let pos = (get_or positions i none).0 in
    pushed
    ∙ ap (λ (xs : List (List ℕ)). xs ++ id ∷ []) before
    ∙ ap (λ (x : List ℕ). ids_at layers (numbers_of (take i positions)) ++ x ∷ [])
    (sym (get_or_from_slice_get (graph_ids layers) pos id [] at))
    ∙ sym (map_push (λ (p : ℕ). slice_index_or (graph_ids layers) p []) (numbers_of (take i positions)) pos)
    ∙ sym (ap (ids_at layers) (map_more (λ (p : Position). p.0) positions i none within))
