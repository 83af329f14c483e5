-- The word is that of the index.
use Rattle.std.proofs.Common.{string_bytes, sym, ap, ◌∙◌, arith}
use Rattle.graph_format.specs.Parents.{extra_edge_of}
use Rattle.graph_parts.specs.PieceBlocks.{ReadsMore}
use Rattle.graph_parts.specs.declared.pieces.Series.{Series}
use Rattle.graph_parts.proofs.LayerPartLemmas.{parts-edges, sees-edges, shown-word}
use Rattle.graph_parts.specs.PiecesRead.{PiecesWereRead}
use Rattle.graph_parts.proofs.GivenLemmas.{given-edges}
use Rattle.graph_parts.proofs.layer.LayerParts.edge_at.Goals as goal

pub piece-word-requires-clause-kept : goal.piece-word-requires-clause-kept
piece-word-requires-clause-kept g c = rw c.in-Some.is at c.in_ok-kept.ensures.kept

pub word_at-requires : goal.word_at-requires
word_at-requires g c =
    let size = ap (λ (p : Series). p.size) c.in_ok-kept.ensures.reads.series in
    omega (arith, c.piece-word.ensures.size, size, c.requires.parts.edges.size)

pub returns-in_err-kept-clause-sees : goal.returns-in_err-kept-clause-sees
returns-in_err-kept-clause-sees g c =
    let known = g.T.Folder.tree c.args.folder.now in
    let part = c.args.self.now in
    let reads : ReadsMore known (string_bytes part.file.path) part.edges c.read.new.self =
    rw (← c.as_str-path.ensures.value) c.read.ensures.reads in
    sees-edges known part c.read.new.self reads

pub returns-in_default-clause-sees : goal.returns-in_default-clause-sees
returns-in_default-clause-sees g c =
    let known = g.T.Folder.tree c.args.folder.now in
    let part = c.args.self.now in
    let reads : ReadsMore known (string_bytes part.file.path) part.edges c.read.new.self =
    rw (← c.as_str-path.ensures.value) c.read.ensures.reads in
    sees-edges known part c.read.new.self reads

pub returns-clause-sees : goal.returns-clause-sees
returns-clause-sees g c =
    let known = g.T.Folder.tree c.args.folder.now in
    let part = c.args.self.now in
    let reads : ReadsMore known (string_bytes part.file.path) part.edges c.read.new.self =
    rw (← c.as_str-path.ensures.value) c.read.ensures.reads in
    sees-edges known part c.read.new.self reads

pub returns-clause-says : goal.returns-clause-says
returns-clause-says g c = λ layer shows.
    let known = g.T.Folder.tree c.args.folder.now in
    let part = c.args.self.now in
    let reads : ReadsMore known (string_bytes part.file.path) part.edges c.read.new.self =
    rw (← c.as_str-path.ensures.value) c.read.ensures.reads in
    c.from_raw.ensures
    ∙ ap extra_edge_of
    (c.word_at.ensures
    ∙ sym (shown-word known _ layer (parts-edges known part c.read.new.self reads c.requires.parts) shows c.args.index
    c.piece-word.result.now c.requires.index
    (c.piece-word.ensures.piece shows.of.file shows.edges)))

pub returns-in_err-kept-clause-given : goal.returns-in_err-kept-clause-given
returns-in_err-kept-clause-given g c =
    let part = c.args.self.now in
    let gives = g.T.Folder.gives_part in
    let path = string_bytes part.file.path in
    let len = part.file.head.len in
    let reads : PiecesWereRead gives path len part.edges → PiecesWereRead gives path len c.read.new.self =
    rw (← c.as_str-path.ensures.value) c.read.ensures.given in
    given-edges gives part c.read.new.self reads

pub returns-in_default-clause-given : goal.returns-in_default-clause-given
returns-in_default-clause-given g c =
    let part = c.args.self.now in
    let gives = g.T.Folder.gives_part in
    let path = string_bytes part.file.path in
    let len = part.file.head.len in
    let reads : PiecesWereRead gives path len part.edges → PiecesWereRead gives path len c.read.new.self =
    rw (← c.as_str-path.ensures.value) c.read.ensures.given in
    given-edges gives part c.read.new.self reads

pub returns-clause-given : goal.returns-clause-given
returns-clause-given g c =
    let part = c.args.self.now in
    let gives = g.T.Folder.gives_part in
    let path = string_bytes part.file.path in
    let len = part.file.head.len in
    let reads : PiecesWereRead gives path len part.edges → PiecesWereRead gives path len c.read.new.self =
    rw (← c.as_str-path.ensures.value) c.read.ensures.given in
    given-edges gives part c.read.new.self reads
