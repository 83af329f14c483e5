-- More ids are read.
use Rattle.std.proofs.Common.{string_bytes}
use Rattle.graph_parts.specs.PieceBlocks.{ReadsMore}
use Rattle.graph_parts.proofs.LayerPartLemmas.{parts-ids, sees-ids}
use Rattle.graph_parts.specs.PiecesRead.{PiecesWereRead}
use Rattle.graph_parts.proofs.GivenLemmas.{given-ids}
use Rattle.graph_parts.proofs.layer.LayerParts.read_id.Goals as goal

pub returns-clause-parts : goal.returns-clause-parts
returns-clause-parts g c =
    let known = g.T.Folder.tree c.args.folder.now in
    let part = c.args.self.now in
    let reads : ReadsMore known (string_bytes part.file.path) part.ids c.read.new.self =
    rw (← c.as_str.ensures.value) c.read.ensures.reads in
    parts-ids known part c.read.new.self reads c.requires.parts

pub returns-clause-sees : goal.returns-clause-sees
returns-clause-sees g c =
    let known = g.T.Folder.tree c.args.folder.now in
    let part = c.args.self.now in
    let reads : ReadsMore known (string_bytes part.file.path) part.ids c.read.new.self =
    rw (← c.as_str.ensures.value) c.read.ensures.reads in
    sees-ids known part c.read.new.self reads

pub returns-clause-given : goal.returns-clause-given
returns-clause-given g c =
    let part = c.args.self.now in
    let gives = g.T.Folder.gives_part in
    let path = string_bytes part.file.path in
    let len = part.file.head.len in
    let reads : PiecesWereRead gives path len part.ids → PiecesWereRead gives path len c.read.new.self =
    rw (← c.as_str.ensures.value) c.read.ensures.given in
    given-ids gives part c.read.new.self reads
