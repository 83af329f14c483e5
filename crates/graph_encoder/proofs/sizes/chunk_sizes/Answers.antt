use Rattle.std.proofs.Common.{◌≡◌, ◌∙◌, sym, ap, ◌*◌, ◌+◌, length, Some, [], arith}
use Rattle.std.specs.Prelude.{unwrap_or}
use Rattle.gix_hash_core.specs.Kind.{id_len}
use Rattle.graph_encoder.specs.DateOffsets.{offsets_of, large_offsets}
use Rattle.graph_encoder.specs.ExtraEdges.{all_extra_words}
use Rattle.graph_encoder.specs.Sizes.{unless_zero}
use Rattle.graph_encoder.specs.Written.{words_bytes, longs_bytes, ids_bytes, exact_fan, ids_of, records_from}
use Rattle.graph_format.specs.Format.{fan_id, ids_id, records_id}
use Rattle.graph_encoder.proofs.OffsetLemmas.{length-longs_bytes, large_offsets-few}
use Rattle.graph_encoder.proofs.Pieces.{length-words_bytes}
use Rattle.graph_encoder.proofs.PlannedChunks.{offsets-size, offsets-few, length-ids_bytes, index-size, data-size}
use Rattle.graph_encoder.proofs.PlannedFile.{sizes}
use Rattle.graph_encoder.proofs.PossibleChunks.{unless_empty-size}
use Rattle.graph_encoder.proofs.SizeLemmas.{same_size, nine_same}
use Rattle.graph_encoder.proofs.sizes.chunk_sizes.Goals as goal

pub count_large-requires : goal.count_large-requires
count_large-requires g c =
    let plan = g.P.PlanView.as_plan c.args.plan.now in
    omega (
      arith,
      ap length c.offsets_or_none.ensures,
      offsets-few (offsets_of plan) (length plan.commits.items) c.requires.offsets c.requires.few_commits,
    )

pub overflow_mul-count_large : goal.overflow_mul-count_large
overflow_mul-count_large g c =
    let plan = g.P.PlanView.as_plan c.args.plan.now in
    omega (
      arith,
      c.count_large.ensures,
      large_offsets-few c.offsets_or_none.result.now,
      ap length c.offsets_or_none.ensures,
      offsets-few (offsets_of plan) (length plan.commits.items) c.requires.offsets c.requires.few_commits,
    )

pub returns : goal.returns
returns g c =
    let plan = g.P.PlanView.as_plan c.args.plan.now in
    let known = sizes plan c.requires in
    let commits : c.commit_count-commits.result ≡ length plan.commits.items = c.commit_count-commits.ensures in
    let bases : length c.bases.result.now ≡ length plan.bases.items = ap length c.bases.ensures in
    let words : c.count_extra_words-words.result ≡ length (all_extra_words plan.commits.items) =
    c.count_extra_words-words.ensures in
    let large : 8 * c.count_large.result ≡ length (longs_bytes (large_offsets (unwrap_or (offsets_of plan) []))) =
    ap (λ n. 8 * n) (c.count_large.ensures ∙ ap (λ xs. length (large_offsets xs)) c.offsets_or_none.ensures)
    ∙ sym (length-longs_bytes (large_offsets (unwrap_or (offsets_of plan) []))) in
    let ids : id_len plan.kind * length plan.commits.items
    ≡ c.len_in_bytes-id_len.result * c.commit_count-commits.result =
    sym (ap (λ n. n * c.commit_count-commits.result) (c.len_in_bytes-id_len.ensures ∙ ap id_len c.kind.ensures)
    ∙ ap (λ n. id_len plan.kind * n) commits) in
    let records : (id_len plan.kind + 16) * length plan.commits.items
    ≡ (c.len_in_bytes-id_len.result + 16) * c.commit_count-commits.result =
    sym (ap (λ n. (n + 16) * c.commit_count-commits.result) (c.len_in_bytes-id_len.ensures ∙ ap id_len c.kind.ensures)
    ∙ ap (λ n. (id_len plan.kind + 16) * n) commits) in
    let edges : 4 * c.count_extra_words-words.result ≡ length (words_bytes (all_extra_words plan.commits.items)) =
    ap (λ n. 4 * n) words ∙ sym (length-words_bytes (all_extra_words plan.commits.items)) in
    let below : c.len_in_bytes-id_len.result * length c.bases.result.now ≡ length (ids_bytes plan.bases.items) =
    ap (λ n. n * length c.bases.result.now) (c.len_in_bytes-id_len.ensures ∙ ap id_len c.kind.ensures)
    ∙ ap (λ n. id_len plan.kind * n) bases
    ∙ sym (length-ids_bytes plan.kind plan.bases.items c.requires.bases) in
    nine_same c.sized.result c.sized-2.result c.sized-3.result c.sized-4.result c.sized-5.result c.sized-6.result
    c.sized-7.result c.sized-8.result c.sized-9.result _ _ _ _ _ _ _ _ _
    (same_size c.sized.result
    (record { id = fan_id; bytes = Some (words_bytes (exact_fan (ids_of plan.commits.items))) })
    c.sized.ensures.id (c.sized.ensures.size ∙ ap (λ n. Some n) (sym known.fan)))
    (same_size c.sized-2.result (record { id = ids_id; bytes = Some (ids_bytes (ids_of plan.commits.items)) })
    c.sized-2.ensures.id (c.sized-2.ensures.size ∙ ap (λ n. Some n) (sym (known.ids ∙ ids))))
    (same_size c.sized-3.result (record { id = records_id; bytes = Some (records_from 0 plan.commits.items) })
    c.sized-3.ensures.id
    (c.sized-3.ensures.size ∙ ap (λ n. Some n) (sym (known.records ∙ records))))
    (same_size c.sized-4.result _ c.sized-4.ensures.id
    (c.sized-4.ensures.size ∙ c.offsets_size.ensures ∙ sym (offsets-size (offsets_of plan))))
    (same_size c.sized-5.result _ c.sized-5.ensures.id
    (c.sized-5.ensures.size ∙ c.unless_zero.ensures ∙ ap unless_zero large
    ∙ sym (unless_empty-size (longs_bytes (large_offsets (unwrap_or (offsets_of plan) []))))))
    (same_size c.sized-6.result _ c.sized-6.ensures.id
    (c.sized-6.ensures.size ∙ c.unless_zero-2.ensures ∙ ap unless_zero edges
    ∙ sym (unless_empty-size (words_bytes (all_extra_words plan.commits.items)))))
    (same_size c.sized-7.result _ c.sized-7.ensures.id
    (c.sized-7.ensures.size ∙ c.filter_index_size.ensures ∙ sym (index-size plan.filters)))
    (same_size c.sized-8.result _ c.sized-8.ensures.id
    (c.sized-8.ensures.size ∙ c.filter_data_size.ensures ∙ sym (data-size plan.filters)))
    (same_size c.sized-9.result _ c.sized-9.ensures.id
    (c.sized-9.ensures.size ∙ c.unless_zero-3.ensures ∙ ap unless_zero below
    ∙ sym (unless_empty-size (ids_bytes plan.bases.items))))
