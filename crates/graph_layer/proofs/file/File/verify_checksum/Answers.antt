use Rattle.std.proofs.Common.{sym, ◌∙◌}
use Rattle.std.specs.Cmp.Lexicographic.{same_text, other_text}
use Rattle.std.proofs.lemmas.List.{length-take-le}
use Rattle.graph_layer.proofs.ChecksumLemmas.{view-body, view-body-in_file}
use Rattle.graph_layer.proofs.file.File.verify_checksum.Goals as goal

pub slice_bounds-digest-end : goal.slice_bounds-digest-end
slice_bounds-digest-end c =
    let kept = c.shared-shared.ensures in
    rw c.as_slice-bytes.ensures (sym (length-take-le _ _ (view-body-in_file _ _ _ _ kept.layout kept.layer)))

pub returns-then-eq-clause-digest : goal.returns-then-eq-clause-digest
returns-then-eq-clause-digest c =
    let kept = c.shared-shared.ensures in
    rw (c.object_hash.ensures, c.as_slice-bytes.ensures, view-body _ _ _ _ kept.layout kept.layer) at c.digest-actual.ensures

pub returns-then-eq-clause-trailer : goal.returns-then-eq-clause-trailer
returns-then-eq-clause-trailer c =
    sym c.checksum.ensures ∙ sym (same_text _ _ (sym c.if-eq.true ∙ c.eq.ensures)) ∙ c.as_oid.ensures
    ∙ returns-then-eq-clause-digest c

pub returns-else-eq-clause-trailer : goal.returns-else-eq-clause-trailer
returns-else-eq-clause-trailer c same =
    let kept = c.shared-shared.ensures in
    other_text _ _ (sym c.if-eq.false ∙ c.eq.ensures)
    (c.as_oid.ensures
    ∙ (rw (c.object_hash.ensures, c.as_slice-bytes.ensures, view-body _ _ _ _ kept.layout kept.layer) at
    c.digest-actual.ensures)
    ∙ sym same
    ∙ sym c.checksum.ensures)
