use Rattle.std.proofs.Common.{arith}
use Rattle.changed_paths.proofs.FiltersLemmas.{seen_placed, seen_at}
use Rattle.changed_paths.proofs.filters.PathFilters.filter_at.Goals as goal

pub start_of-start-requires : goal.start_of-start-requires
start_of-start-requires c =
    let placed =
    seen_placed c.self.inside.index.now c.self.inside.body.now c.self.inside.version c.self.inside.hashes c.args.pos.0
    c.args.self.now c.self.invariant c.self.view_is c.requires in
    omega (arith, placed.index_size)

pub word_at-end-requires : goal.word_at-end-requires
word_at-end-requires c =
    let placed =
    seen_placed c.self.inside.index.now c.self.inside.body.now c.self.inside.version c.self.inside.hashes c.args.pos.0
    c.args.self.now c.self.invariant c.self.view_is c.requires in
    placed.index_size

pub slice_bounds-result-count : goal.slice_bounds-result-count
slice_bounds-result-count c =
    let placed =
    seen_placed c.self.inside.index.now c.self.inside.body.now c.self.inside.version c.self.inside.hashes c.args.pos.0
    c.args.self.now c.self.invariant c.self.view_is c.requires in
    omega (arith, placed.order, c.start_of-start.ensures, c.word_at-end.ensures)

pub slice_bounds-result-start : goal.slice_bounds-result-start
slice_bounds-result-start c =
    let placed =
    seen_placed c.self.inside.index.now c.self.inside.body.now c.self.inside.version c.self.inside.hashes c.args.pos.0
    c.args.self.now c.self.invariant c.self.view_is c.requires in
    omega (arith, placed.order, c.start_of-start.ensures, c.word_at-end.ensures)

pub slice_bounds-result-end : goal.slice_bounds-result-end
slice_bounds-result-end c =
    let placed =
    seen_placed c.self.inside.index.now c.self.inside.body.now c.self.inside.version c.self.inside.hashes c.args.pos.0
    c.args.self.now c.self.invariant c.self.view_is c.requires in
    omega (arith, placed.within, c.word_at-end.ensures)

pub returns-clause-bytes : goal.returns-clause-bytes
returns-clause-bytes c =
    let at =
    seen_at c.self.inside.index.now c.self.inside.body.now c.self.inside.version c.self.inside.hashes c.args.pos.0
    c.args.self.now c.self.view_is c.requires in
    let start = c.start_of-start.ensures in
    let end = c.word_at-end.ensures in
    cc
