-- The date is the time and the offset together.
use Rattle.std.proofs.Common.{◌<◌, string_bytes, ◌∙◌}
use Rattle.graph_parts.specs.Offsets.{ReadsOffsets}
use Rattle.graph_parts.specs.PartFiles.{commits_in}
use Rattle.graph_parts.specs.PiecesRead.{OffsetsWereRead}
use Rattle.graph_parts.proofs.GivenLemmas.{given-offsets}
use Rattle.graph_parts.proofs.LayerPartLemmas.{sees-after, shown-date}
use Rattle.graph_parts.proofs.OffsetLemmas.{parts-offsets, sees-offsets}
use Rattle.graph_parts.proofs.layer.LayerParts.date_at.Goals as goal

pub returns-in_err-offset-clause-parts : goal.returns-in_err-offset-clause-parts
returns-in_err-offset-clause-parts g c =
    parts-offsets (g.T.Folder.tree c.args.folder.now) c.commit_at.new.self c.offset.new.self c.offset.ensures.offsets
    c.commit_at.ensures.parts

pub returns-in_err-offset-clause-sees : goal.returns-in_err-offset-clause-sees
returns-in_err-offset-clause-sees g c =
    let known = g.T.Folder.tree c.args.folder.now in
    let mid = c.commit_at.new.self in
    let reads : ReadsOffsets known (string_bytes mid.file.path) mid.offsets c.offset.new.self =
    rw (← c.as_str-path.ensures.value) (rw c.commit_at.ensures.tree at c.offset.ensures.reads) in
    sees-after known c.args.self.now mid _ c.commit_at.ensures.sees (sees-offsets known mid c.offset.new.self reads)

pub returns-in_err-offset-clause-given : goal.returns-in_err-offset-clause-given
returns-in_err-offset-clause-given g c =
    let gives = g.T.Folder.gives_part in
    let mid = c.commit_at.new.self in
    let path = string_bytes mid.file.path in
    let len = mid.file.head.len in
    let reads : OffsetsWereRead gives path len mid.offsets → OffsetsWereRead gives path len c.offset.new.self =
    rw (← c.as_str-path.ensures.value) c.offset.ensures.given in
    λ were. given-offsets gives mid c.offset.new.self reads (c.commit_at.ensures.given were)

pub returns-in_default-2-clause-parts : goal.returns-in_default-2-clause-parts
returns-in_default-2-clause-parts g c =
    parts-offsets (g.T.Folder.tree c.args.folder.now) c.commit_at.new.self c.offset.new.self c.offset.ensures.offsets
    c.commit_at.ensures.parts

pub returns-in_default-2-clause-sees : goal.returns-in_default-2-clause-sees
returns-in_default-2-clause-sees g c =
    let known = g.T.Folder.tree c.args.folder.now in
    let mid = c.commit_at.new.self in
    let reads : ReadsOffsets known (string_bytes mid.file.path) mid.offsets c.offset.new.self =
    rw (← c.as_str-path.ensures.value) (rw c.commit_at.ensures.tree at c.offset.ensures.reads) in
    sees-after known c.args.self.now mid _ c.commit_at.ensures.sees (sees-offsets known mid c.offset.new.self reads)

pub returns-in_default-2-clause-given : goal.returns-in_default-2-clause-given
returns-in_default-2-clause-given g c =
    let gives = g.T.Folder.gives_part in
    let mid = c.commit_at.new.self in
    let path = string_bytes mid.file.path in
    let len = mid.file.head.len in
    let reads : OffsetsWereRead gives path len mid.offsets → OffsetsWereRead gives path len c.offset.new.self =
    rw (← c.as_str-path.ensures.value) c.offset.ensures.given in
    λ were. given-offsets gives mid c.offset.new.self reads (c.commit_at.ensures.given were)

pub returns-clause-parts : goal.returns-clause-parts
returns-clause-parts g c =
    parts-offsets (g.T.Folder.tree c.args.folder.now) c.commit_at.new.self c.offset.new.self c.offset.ensures.offsets
    c.commit_at.ensures.parts

pub returns-clause-sees : goal.returns-clause-sees
returns-clause-sees g c =
    let known = g.T.Folder.tree c.args.folder.now in
    let mid = c.commit_at.new.self in
    let reads : ReadsOffsets known (string_bytes mid.file.path) mid.offsets c.offset.new.self =
    rw (← c.as_str-path.ensures.value) (rw c.commit_at.ensures.tree at c.offset.ensures.reads) in
    sees-after known c.args.self.now mid _ c.commit_at.ensures.sees (sees-offsets known mid c.offset.new.self reads)

pub returns-clause-given : goal.returns-clause-given
returns-clause-given g c =
    let gives = g.T.Folder.gives_part in
    let mid = c.commit_at.new.self in
    let path = string_bytes mid.file.path in
    let len = mid.file.head.len in
    let reads : OffsetsWereRead gives path len mid.offsets → OffsetsWereRead gives path len c.offset.new.self =
    rw (← c.as_str-path.ensures.value) c.offset.ensures.given in
    λ were. given-offsets gives mid c.offset.new.self reads (c.commit_at.ensures.given were)

pub returns-clause-date : goal.returns-clause-date
returns-clause-date g c = λ layer shows.
    let known = g.T.Folder.tree c.args.folder.now in
    let mid = c.commit_at.new.self in
    let more = c.offset.new.self in
    let reads : ReadsOffsets known (string_bytes mid.file.path) mid.offsets more =
    rw (← c.as_str-path.ensures.value) (rw c.commit_at.ensures.tree at c.offset.ensures.reads) in
    let within : c.args.pos < commits_in mid.file = rw c.commit_at.ensures.sees.same c.requires.pos in
    let stores = (rw c.in-Some.is at c.in_ok-commit.ensures.stores) layer
    ((sees-offsets known mid more reads).kept layer shows) in
    let at = (rw c.in-Some-2.is at c.in_ok-offset.ensures.offset) shows.of.file shows.of.begins shows.offsets in
    c.saturating_add.ensures
    ∙ shown-date known (record mid { offsets = more }) layer
    (parts-offsets known mid more c.offset.ensures.offsets c.commit_at.ensures.parts) shows c.args.pos c.in-Some.commit.time
    c.in-Some-2.offset within stores.time at
