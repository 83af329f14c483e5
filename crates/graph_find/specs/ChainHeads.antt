-- The heads of a chain's layers.
use Rattle.std.specs.Prelude.{◌≡◌, ◌<◌, ◌≤◌, ℕ, List, All, length, sum_by, string_bytes, true, Option, Some}
use Rattle.std.specs.List.{AllZip}
use Rattle.std.specs.Option.{ForSome}
use Rattle.std.specs.Str.{is_utf8}
use Rattle.std.specs.Str.Lines.{lines}
use Rattle.gix_hash_core.specs.declared.kind.Kind.{Kind}
use Rattle.graph_folder.specs.Tree.{Tree, file_at}
use Rattle.graph_format.specs.declared.TheConstants.{MAX_COMMITS}
use Rattle.gix_commitgraph.specs.Paths.{chain_path, layer_path}
use Rattle.graph_find.specs.ReadHead.{BeginsAt, IsHead}
use Rattle.graph_find.specs.declared.chain.ChainLayer.{ChainLayer}

-- The head is that of the file at the layer's path.
pub record IsHeadOfLayer (known : Option Tree) (layer : ChainLayer) : Type 0 where
  pub head : IsHead layer.head
  pub begins : BeginsAt known (string_bytes layer.path) layer.head

-- A line of the folder's chain file names the layer.
pub record IsHeadOfLine (known : Option Tree) (folder line : List ℕ) (layer : ChainLayer) : Type 0 where
  pub text : is_utf8 line ≡ true
  pub path : string_bytes layer.path ≡ layer_path folder line
  pub read : IsHeadOfLayer known layer

-- The lines of the folder's chain file name the layers.
pub record AreHeadsOfChain (known : Option Tree) (folder : List ℕ) (layers : List ChainLayer) : Type 0 where
  pub text : List ℕ
  pub stands : ForSome known (λ tree. file_at tree (chain_path folder) ≡ Some text)
  pub each : AllZip (IsHeadOfLine known folder) (lines text) layers

-- The heads say of the layers what makes them a graph.
pub record SayGraph (layers : List ChainLayer) : Type 0 where
  pub kind : Kind
  pub some : 0 < length layers
  pub few : sum_by (λ layer. layer.head.layout.commits) layers ≤ MAX_COMMITS
  pub alike : All (λ layer. layer.head.layout.kind ≡ kind) layers
