use Rattle.std.proofs.Common.{refl, ◌∙◌}
use Rattle.graph_chunks.specs.GraphFilters.{settings_in}
use Rattle.graph_chunks.proofs.GraphFilterLemmas.{names-layer, own-settings, own-filters, read-fault, read-differ, read-test}
use Rattle.graph_chunks.proofs.filters.read_layer.Goals as goal

pub in_graph-requires-clause-place : goal.in_graph-requires-clause-place
in_graph-requires-clause-place c =
    rw c.num_commits.ensures.ids (names-layer c.args.file.now c.in-Err.error c.in-Err.ensures.refusal)

pub returns-then-differ-clause-refusal : goal.returns-then-differ-clause-refusal
returns-then-differ-clause-refusal c =
    let e = c.in-Ok.ensures in
    let own = own-settings c.args.file.now c.in-Ok.filters e.none e.some e.version e.hashes in
    read-differ c.args.layer c.args.before c.args.lowest c.args.file.now e.refusal
    (read-test c.args.lowest c.settings_by-own.result (settings_in c.args.file.now) c.or.result c.differ.result
    (c.settings_by-own.ensures ∙ own) c.or.ensures c.differ.ensures
    ∙ c.if-differ.true)

pub returns-clause-refusal : goal.returns-clause-refusal
returns-clause-refusal c =
    let e = c.in-Ok.ensures in
    let own = own-settings c.args.file.now c.in-Ok.filters e.none e.some e.version e.hashes in
    read-fault c.args.layer c.args.before c.args.lowest c.args.file.now e.refusal
    (read-test c.args.lowest c.settings_by-own.result (settings_in c.args.file.now) c.or.result c.differ.result
    (c.settings_by-own.ensures ∙ own) c.or.ensures c.differ.ensures
    ∙ c.if-differ.false)

pub returns-clause-kept : goal.returns-clause-kept
returns-clause-kept c =
    let e = c.in-Ok.ensures in
    let own = own-settings c.args.file.now c.in-Ok.filters e.none e.some e.version e.hashes in
    record {
      counted = refl;
      filters = own-filters c.args.file.now c.in-Ok.filters c.args.lowest e.none e.some e.filters e.commits own
          (read-test c.args.lowest c.settings_by-own.result (settings_in c.args.file.now) c.or.result c.differ.result
          (c.settings_by-own.ensures ∙ own) c.or.ensures c.differ.ensures
          ∙ c.if-differ.false);
    }

pub returns-clause-settings : goal.returns-clause-settings
returns-clause-settings c =
    let e = c.in-Ok.ensures in
    own-settings c.args.file.now c.in-Ok.filters e.none e.some e.version e.hashes
