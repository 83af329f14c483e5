-- Laws of the extra edge list.
use Rattle.std.proofs.Common.{◌≡◌, ℕ, ◌/◌, ◌≤◌, List, [], ◌∷◌, length, ◌∙◌, lit≤, arith}
use Rattle.std.specs.Int.{w32, from_be_bytes}
use Rattle.std.proofs.lemmas.List.{length-map}
use Rattle.graph_format.specs.Format.{pieces, words}
use Rattle.graph_format.specs.Parents.{items_of, extra_edge_of, extra_parent, listed}
use Rattle.graph_format.specs.declared.parents.ExtraEdge.TheVariants.{Internal, Last}
use Rattle.graph_format.proofs.PieceLemmas.{length-pieces}

pub length-words : (bytes : List ℕ) → length (words bytes) ≡ length bytes / 4
unfolding words
length-words bytes = length-map (pieces 4 bytes) (from_be_bytes w32) ∙ length-pieces 4 bytes

-- a list of words gives one item at least
pub listed-positive : (ws : List ℕ) → 1 ≤ length (items_of (listed ws))
listed-positive [] = lit≤ tt
listed-positive (word ∷ rest) =
    elim (extra_edge_of word) as (λ e. 1 ≤ length (items_of (extra_parent e (listed rest)))) [
      | Internal pos ↦ omega arith
      | Last pos ↦ omega arith
    ]
