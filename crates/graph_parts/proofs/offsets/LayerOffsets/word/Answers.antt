-- The word is that of the index.
use Rattle.std.proofs.Common.{◌≡◌, ◌<◌, length, codes, ap, ◌∙◌, arith}
use Rattle.graph_parts.specs.declared.pieces.Series.{Series}
use Rattle.graph_parts.proofs.GivenLemmas.{given-words}
use Rattle.graph_parts.proofs.OffsetLemmas.{reads-words, right-words, word-there}
use Rattle.graph_parts.proofs.offsets.LayerOffsets.word.Goals as goal

pub piece-requires-clause-kept : goal.piece-requires-clause-kept
piece-requires-clause-kept g c = rw c.in-Some.is at c.in_ok-kept.ensures.kept

pub word_at-requires : goal.word_at-requires
word_at-requires g c =
    let size = ap (λ (p : Series). p.size) c.in_ok-kept.ensures.reads.series in
    omega (arith, c.piece.ensures.size, size, c.requires.offsets.words.size)

pub returns-in_err-kept-clause-offsets : goal.returns-in_err-kept-clause-offsets
returns-in_err-kept-clause-offsets g c =
    right-words (g.T.Folder.tree c.args.folder.now) c.args.path.now c.args.head.now c.args.self.now c.requires.offsets
    c.read.new.self c.read.ensures.reads

pub returns-in_err-kept-clause-reads : goal.returns-in_err-kept-clause-reads
returns-in_err-kept-clause-reads g c =
    reads-words (g.T.Folder.tree c.args.folder.now) c.args.path.now c.args.head.now c.args.self.now c.requires.offsets
    c.read.new.self c.read.ensures.reads

pub returns-in_err-kept-clause-given : goal.returns-in_err-kept-clause-given
returns-in_err-kept-clause-given g c =
    given-words g.T.Folder.gives_part c.args.path.now c.args.head.now.len c.args.self.now c.read.new.self
    c.read.ensures.given

pub returns-in_default-clause-offsets : goal.returns-in_default-clause-offsets
returns-in_default-clause-offsets g c =
    right-words (g.T.Folder.tree c.args.folder.now) c.args.path.now c.args.head.now c.args.self.now c.requires.offsets
    c.read.new.self c.read.ensures.reads

pub returns-in_default-clause-reads : goal.returns-in_default-clause-reads
returns-in_default-clause-reads g c =
    reads-words (g.T.Folder.tree c.args.folder.now) c.args.path.now c.args.head.now c.args.self.now c.requires.offsets
    c.read.new.self c.read.ensures.reads

pub returns-in_default-clause-given : goal.returns-in_default-clause-given
returns-in_default-clause-given g c =
    given-words g.T.Folder.gives_part c.args.path.now c.args.head.now.len c.args.self.now c.read.new.self
    c.read.ensures.given

pub returns-clause-offsets : goal.returns-clause-offsets
returns-clause-offsets g c =
    right-words (g.T.Folder.tree c.args.folder.now) c.args.path.now c.args.head.now c.args.self.now c.requires.offsets
    c.read.new.self c.read.ensures.reads

pub returns-clause-reads : goal.returns-clause-reads
returns-clause-reads g c =
    reads-words (g.T.Folder.tree c.args.folder.now) c.args.path.now c.args.head.now c.args.self.now c.requires.offsets
    c.read.new.self c.read.ensures.reads

pub returns-clause-given : goal.returns-clause-given
returns-clause-given g c =
    given-words g.T.Folder.gives_part c.args.path.now c.args.head.now.len c.args.self.now c.read.new.self
    c.read.ensures.given

pub returns-clause-word : goal.returns-clause-word
returns-clause-word g c = λ file begins of.
    let known = g.T.Folder.tree c.args.folder.now in
    let new = c.read.new.self in
    let right = right-words known c.args.path.now c.args.head.now c.args.self.now c.requires.offsets new c.read.ensures.reads in
    let within : c.args.index < new.series.count = rw c.read.ensures.reads.series c.requires.index in
    let size : length c.piece.result.now ≡ 4 = c.piece.ensures.size ∙ right.words.size in
    c.word_at.ensures
    ∙ word-there c.args.head.now (codes "GDA2") file c.piece.result.now new.series c.args.index begins within
    (c.piece.ensures.piece file of.words) right.words size
