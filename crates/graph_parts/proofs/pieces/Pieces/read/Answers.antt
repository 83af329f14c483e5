-- One stretch more is kept at most, and it is one of the piece.
use Rattle.std.proofs.Common.{◌≡◌, false, is_some, rules}
use Rattle.graph_parts.proofs.BlockLemmas.{can-keep, if-missing, reads-same, reads-stretch, same-start, stretch-within}
use Rattle.graph_parts.proofs.GivenLemmas.{given-added, given-same}
use Rattle.graph_parts.proofs.pieces.Pieces.read.Goals as goal

pub returns-then-is_some-clause-reads : goal.returns-then-is_some-clause-reads
returns-then-is_some-clause-reads g c =
    let pieces = c.args.self.now in
    reads-same (g.T.Folder.tree c.args.folder.now) c.args.path.now pieces pieces (same-start pieces) c.requires.sized

pub read_stretch-requires-clause-within : goal.read_stretch-requires-clause-within
read_stretch-requires-clause-within g c =
    stretch-within c.stretch_of-stretch.result c.args.index c.args.self.now.series.count c.stretch_of-stretch.ensures
    c.requires.index

pub returns-in_err-bytes-clause-reads : goal.returns-in_err-bytes-clause-reads
returns-in_err-bytes-clause-reads g c =
    let pieces = c.args.self.now in
    reads-same (g.T.Folder.tree c.args.folder.now) c.args.path.now pieces pieces (same-start pieces) c.requires.sized

pub keep-requires-clause-new : goal.keep-requires-clause-new
keep-requires-clause-new g c =
    let no : is_some c.kept-known.result ≡ false = search rules in
    can-keep c.args.self.now c.stretch_of-stretch.result c.args.index c.stretch_of-stretch.ensures
    (if-missing c.kept-known.result _ c.kept-known.ensures.none no)

pub keep-requires-clause-long : goal.keep-requires-clause-long
keep-requires-clause-long g c = rw c.in-Some.is at c.in_ok-bytes.ensures.size

pub returns-in_err-kept-in-Some-clause-reads : goal.returns-in_err-kept-in-Some-clause-reads
returns-in_err-kept-in-Some-clause-reads g c =
    reads-same (g.T.Folder.tree c.args.folder.now) c.args.path.now c.args.self.now c.keep.new.self
    c.in_err-kept-in-Some.ensures.same c.requires.sized

pub returns-in_ok-kept-in-Some-clause-reads : goal.returns-in_ok-kept-in-Some-clause-reads
returns-in_ok-kept-in-Some-clause-reads g c =
    reads-stretch (g.T.Folder.tree c.args.folder.now) c.args.path.now c.args.self.now c.keep.new.self
    c.stretch_of-stretch.result c.in-Some.bytes.items c.in_ok-kept-in-Some.ensures.adds c.keep.ensures.sized
    (λ tree is. rw c.in-Some.is at (c.in_ok-bytes.ensures.part tree is))

pub returns-in_ok-kept-in-Some-clause-kept : goal.returns-in_ok-kept-in-Some-clause-kept
returns-in_ok-kept-in-Some-clause-kept g c = c.in_ok-kept-in-Some.ensures.kept c.args.index c.stretch_of-stretch.ensures

pub returns-in-None-clause-reads : goal.returns-in-None-clause-reads
returns-in-None-clause-reads g c =
    let pieces = c.args.self.now in
    reads-same (g.T.Folder.tree c.args.folder.now) c.args.path.now pieces pieces (same-start pieces) c.requires.sized

pub returns-in_err-kept-in-Some-clause-given : goal.returns-in_err-kept-in-Some-clause-given
returns-in_err-kept-in-Some-clause-given g c =
    given-same g.T.Folder.gives_part c.args.path.now c.args.file_len c.args.self.now c.keep.new.self
    c.in_err-kept-in-Some.ensures.same

pub returns-in_ok-kept-in-Some-clause-given : goal.returns-in_ok-kept-in-Some-clause-given
returns-in_ok-kept-in-Some-clause-given g c =
    given-added g.T.Folder.gives_part c.args.path.now c.args.file_len c.args.self.now c.keep.new.self
    c.stretch_of-stretch.result c.in-Some.bytes.items c.in_ok-kept-in-Some.ensures.adds
    (rw c.in-Some.is at c.in_ok-bytes.ensures.given)
