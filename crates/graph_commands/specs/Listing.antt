-- the listing of a layer: a line for the layer, one for each base id and one for each commit
use Rattle.std.specs.Prelude.{ℕ, List, [], ◌∷◌, Result, Ok, Err, Option, codes, decimal, length}
use Rattle.std.specs.List.{flat_map, join_by, enumerate_from, zip}
use Rattle.hex.specs.Hex.{encode_lower}
use Rattle.gix_hash_core.specs.declared.kind.Kind.{Kind}
use Rattle.gix_hash_core.specs.declared.kind.Kind.TheVariants.{Sha1, Sha256}
use Rattle.graph_format.specs.declared.Position.{Position}
use Rattle.graph_format.specs.declared.parents.ParentError.{ParentError}
use Rattle.graph_format.specs.Format.{Record}
use Rattle.graph_format.specs.Layer.{Layer}
use Rattle.graph_format.specs.Parents.{items_of, parents_of}
use Rattle.graph_format.specs.ErrorNumbers.{parent_number}
use Rattle.graph_commands.specs.Text.{◌⧺◌, newline}

-- the name of a kind of hash
abbrev pub kind_text : Kind → List ℕ
kind_text Sha1 = codes "sha1"
kind_text Sha256 = codes "sha256"

-- the line of the layer
abbrev pub layer_line : Layer → List ℕ
layer_line layer =
    codes "layer " ⧺ kind_text layer.kind ⧺ codes " bases " ⧺ decimal (length layer.bases)
    ⧺ codes " commits " ⧺ decimal (length layer.ids) ⧺ newline

-- the line of a base id
abbrev pub base_line : List ℕ → List ℕ
base_line id = codes "base " ⧺ encode_lower id ⧺ newline

-- a parent by its position, or a fault by its number
abbrev pub item_text : Result Position ParentError → List ℕ
item_text (Ok parent) = decimal parent.0
item_text (Err fault) = codes "!" ⧺ decimal (parent_number fault)

-- the items of a commit's parents with commas between them, or a dash where there is none
abbrev pub parents_text : List (Result Position ParentError) → List ℕ
parents_text [] = codes "-"
parents_text (item ∷ items) = join_by item_text (codes ",") (item ∷ items)

-- the line of the commit at a position with an id and a record, in a layer with these edges
abbrev pub commit_line : Option (List ℕ) → ℕ × (List ℕ × Record) → List ℕ
commit_line edges (pos, (id, r)) =
    decimal pos ⧺ codes " " ⧺ encode_lower id ⧺ codes " " ⧺ encode_lower r.tree
    ⧺ codes " " ⧺ decimal r.generation ⧺ codes " " ⧺ decimal r.time
    ⧺ codes " " ⧺ parents_text (items_of (parents_of r edges)) ⧺ newline

-- the lines of the commits, by position
abbrev pub commit_lines : Layer → List ℕ
commit_lines layer = flat_map (commit_line layer.edges) (enumerate_from 0 (zip layer.ids layer.records))

-- the whole listing
abbrev pub listing_text : Layer → List ℕ
listing_text layer = layer_line layer ⧺ flat_map base_line layer.bases ⧺ commit_lines layer
