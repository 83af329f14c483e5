-- What a graph says of the kind of its ids.
use Rattle.std.proofs.Common.{◌≡◌, ◌<◌, List, [], ◌∷◌, All, Some, length, sym, ap, arith}
use Rattle.std.proofs.lemmas.List.Elements.{All-head}
use Rattle.gix_hash_core.specs.declared.kind.Kind.{Kind}
use Rattle.graph_format.specs.Layer.{Layer}
use Rattle.write_commands.specs.WrittenCommits.{kind_below}

pub kind_of_all : (layers : List Layer) (kind : Kind) → All (λ layer. layer.kind ≡ kind) layers → 0 < length layers
    → Some kind ≡ kind_below layers
kind_of_all [] kind all some = absurd (omega arith)
kind_of_all (layer ∷ layers) kind all some =
    ap (λ k. Some k) (sym (All-head (λ (l : Layer). l.kind ≡ kind) layer layers all))
