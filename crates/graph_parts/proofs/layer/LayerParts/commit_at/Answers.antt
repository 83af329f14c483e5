-- The record is that of the position.
use Rattle.std.proofs.Common.{string_bytes, ap, ◌∙◌}
use Rattle.graph_parts.specs.PieceBlocks.{ReadsMore}
use Rattle.graph_parts.specs.declared.pieces.Series.{Series}
use Rattle.graph_parts.proofs.LayerPartLemmas.{parts-records, sees-records, shown-record}
use Rattle.graph_parts.specs.PiecesRead.{PiecesWereRead}
use Rattle.graph_parts.proofs.GivenLemmas.{given-records}
use Rattle.graph_parts.proofs.layer.LayerParts.commit_at.Goals as goal

pub piece-fields-requires-clause-kept : goal.piece-fields-requires-clause-kept
piece-fields-requires-clause-kept g c = rw c.in-Some.is at c.in_ok-kept.ensures.kept

pub commit_of-requires : goal.commit_of-requires
commit_of-requires g c =
    c.piece-fields.ensures.size
    ∙ ap (λ (p : Series). p.size) c.in_ok-kept.ensures.reads.series
    ∙ c.requires.parts.records.size

pub returns-in_err-kept-clause-sees : goal.returns-in_err-kept-clause-sees
returns-in_err-kept-clause-sees g c =
    let known = g.T.Folder.tree c.args.folder.now in
    let part = c.args.self.now in
    let reads : ReadsMore known (string_bytes part.file.path) part.records c.read.new.self =
    rw (← c.as_str-path.ensures.value) c.read.ensures.reads in
    sees-records known part c.read.new.self reads

pub returns-in_default-clause-sees : goal.returns-in_default-clause-sees
returns-in_default-clause-sees g c =
    let known = g.T.Folder.tree c.args.folder.now in
    let part = c.args.self.now in
    let reads : ReadsMore known (string_bytes part.file.path) part.records c.read.new.self =
    rw (← c.as_str-path.ensures.value) c.read.ensures.reads in
    sees-records known part c.read.new.self reads

pub returns-clause-sees : goal.returns-clause-sees
returns-clause-sees g c =
    let known = g.T.Folder.tree c.args.folder.now in
    let part = c.args.self.now in
    let reads : ReadsMore known (string_bytes part.file.path) part.records c.read.new.self =
    rw (← c.as_str-path.ensures.value) c.read.ensures.reads in
    sees-records known part c.read.new.self reads

pub returns-clause-stores : goal.returns-clause-stores
returns-clause-stores g c = λ layer shows.
    let known = g.T.Folder.tree c.args.folder.now in
    let part = c.args.self.now in
    let reads : ReadsMore known (string_bytes part.file.path) part.records c.read.new.self =
    rw (← c.as_str-path.ensures.value) c.read.ensures.reads in
    rw (shown-record known _ layer (parts-records known part c.read.new.self reads c.requires.parts) shows c.args.pos
    c.piece-fields.result.now c.requires.pos
    (c.piece-fields.ensures.piece shows.of.file shows.records)) c.commit_of.ensures

pub returns-in_err-kept-clause-given : goal.returns-in_err-kept-clause-given
returns-in_err-kept-clause-given g c =
    let part = c.args.self.now in
    let gives = g.T.Folder.gives_part in
    let path = string_bytes part.file.path in
    let len = part.file.head.len in
    let reads : PiecesWereRead gives path len part.records → PiecesWereRead gives path len c.read.new.self =
    rw (← c.as_str-path.ensures.value) c.read.ensures.given in
    given-records gives part c.read.new.self reads

pub returns-in_default-clause-given : goal.returns-in_default-clause-given
returns-in_default-clause-given g c =
    let part = c.args.self.now in
    let gives = g.T.Folder.gives_part in
    let path = string_bytes part.file.path in
    let len = part.file.head.len in
    let reads : PiecesWereRead gives path len part.records → PiecesWereRead gives path len c.read.new.self =
    rw (← c.as_str-path.ensures.value) c.read.ensures.given in
    given-records gives part c.read.new.self reads

pub returns-clause-given : goal.returns-clause-given
returns-clause-given g c =
    let part = c.args.self.now in
    let gives = g.T.Folder.gives_part in
    let path = string_bytes part.file.path in
    let len = part.file.head.len in
    let reads : PiecesWereRead gives path len part.records → PiecesWereRead gives path len c.read.new.self =
    rw (← c.as_str-path.ensures.value) c.read.ensures.given in
    given-records gives part c.read.new.self reads
