-- A commit, as its layer and its position there.
use Rattle.std.specs.Prelude.{ℕ, ◌==◌, Bool, List}
use Rattle.std.specs.Cmp.Lexicographic.{pointwise}
use Rattle.std.specs.Ordering.{on, eq_of_both}
use Rattle.graph_format.specs.Format.{Record}
use Rattle.graph_format.specs.Layer.{Layer, record_at, bytes_of}
use Rattle.graph_format.specs.Parents.{DecodedParents, parents_of}
use Rattle.graph_layer.specs.declared.file.commit.Commit.{Commit}

-- the layer that it is in
abbrev pub commit_layer : Commit → Layer
commit_layer c = c.file.now

-- its position there
abbrev pub commit_pos : Commit → ℕ
commit_pos c = c.pos.0

-- its layer and its position
abbrev pub layer_and_position : Commit → Layer × ℕ
layer_and_position c = (commit_layer c, commit_pos c)

-- its record in "Commit Data"
abbrev pub commit_record : Commit → Record
commit_record c = record_at (commit_layer c) (commit_pos c)

-- its parents, by its record and its layer's "Extra Edge List"
abbrev pub commit_parents : Commit → DecodedParents
commit_parents c = parents_of (commit_record c) (commit_layer c).edges

-- the bytes of its file
abbrev pub commit_bytes : Commit → List ℕ
commit_bytes c = bytes_of (commit_layer c)

-- whether two commits have equal positions, in files of equal bytes
abbrev pub commit_eq : Commit → Commit → Bool
commit_eq = eq_of_both (on commit_pos ◌==◌) (on commit_bytes (pointwise ◌==◌))
