use Rattle.std.proofs.Common.{◌∙◌, ap, ◌++◌, length, arith}
use Rattle.graph_encoder.specs.DateOffsets.{large_offsets, offset_words}
use Rattle.graph_encoder.specs.Sizes.{number_there, total_size, table_by_sizes}
use Rattle.graph_encoder.specs.Written.{words_bytes, longs_bytes, ids_bytes, possible_chunks}
use Rattle.graph_encoder.specs.DateOffsets.{offsets_of}
use Rattle.graph_encoder.proofs.PlannedChunks.{offsets-few}
use Rattle.graph_encoder.proofs.PlannedFile.{sizes-small}
use Rattle.graph_encoder.proofs.PossibleChunks.{count_of_those}
use Rattle.graph_encoder.proofs.BuiltBody.{body-added}
use Rattle.graph_encoder.proofs.builder.push_body.Goals as goal

pub push_table-requires : goal.push_table-requires
push_table-requires g c =
    let plan = g.P.PlanView.as_plan c.args.plan.now in
    omega (
      arith,
      c.first_offset.ensures,
      c.chunk_count-count.type_inv,
      ap total_size c.requires.sizes,
      sizes-small plan c.requires.plan,
    )

pub push_offset_words-requires : goal.push_offset_words-requires
push_offset_words-requires g c =
    let plan = g.P.PlanView.as_plan c.args.plan.now in
    omega (
      arith,
      ap length c.offsets_or_none.ensures,
      offsets-few (offsets_of plan) (length plan.commits.items) c.requires.plan.offsets
          c.requires.plan.few_commits,
    )

pub returns-clause-body : goal.returns-clause-body
returns-clause-body g c =
    let plan = g.P.PlanView.as_plan c.args.plan.now in
    body-added plan c.chunk_count-count.result c.first_offset.result c.args.file.now.items _ _ _ _ _ _ _ _ _ _
    (c.chunk_count-count.ensures ∙ ap number_there c.requires.sizes ∙ count_of_those (possible_chunks plan))
    c.first_offset.ensures
    c.in_ok-push_header.ensures
    (c.in_ok-push_table.ensures
    ∙ ap (λ chunks. c.push_header.new.file.items ++ table_by_sizes c.first_offset.result chunks) c.requires.sizes)
    c.in_ok-push_fan.ensures.fan c.in_ok-push_commit_ids.ensures c.in_ok-push_records.ensures
    (c.in_ok-push_offset_words.ensures
    ∙ ap (λ offsets. c.push_records.new.file.items ++ words_bytes (offset_words offsets)) c.offsets_or_none.ensures)
    (c.in_ok-push_large_offsets.ensures
    ∙ ap (λ offsets. c.push_offset_words.new.file.items ++ longs_bytes (large_offsets offsets)) c.offsets_or_none-2.ensures)
    c.in_ok-push_edges.ensures c.in_ok-push_filters.ensures
    (c.in_ok-push_ids.ensures ∙ ap (λ ids. c.push_filters.new.file.items ++ ids_bytes ids) c.bases.ensures)
