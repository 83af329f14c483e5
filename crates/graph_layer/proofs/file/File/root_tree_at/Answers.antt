use Rattle.std.proofs.Common.{ap, ◌∙◌}
use Rattle.gix_hash_core.specs.Kind.{id_len}
use Rattle.graph_layer.proofs.FileViewLemmas.{view-tree, view-tree-fits}
use Rattle.graph_layer.proofs.file.File.root_tree_at.Goals as goal

pub id_from-requires : goal.id_from-requires
id_from-requires c =
    let size = rw c.object_hash-kind.ensures at c.record_len.ensures in
    let kept = c.shared-shared.ensures in
    rw c.as_slice-bytes.ensures
    (view-tree-fits _ _ _ _ kept.layout kept.layer _ _ _ c.requires size
    (ap id_len c.object_hash-kind.ensures))

pub returns : goal.returns
returns c =
    let size = rw c.object_hash-kind.ensures at c.record_len.ensures in
    let kept = c.shared-shared.ensures in
    let tree = view-tree _ _ _ _ kept.layout kept.layer _ _ _ c.requires size (ap id_len c.object_hash-kind.ensures) in
    rw c.as_slice-bytes.ensures at c.id_from.ensures ∙ tree
