-- a plan's file that is put together part by part
use Rattle.std.proofs.Common.{◌≡◌, ℕ, ◌+◌, List, [], ◌++◌, length, refl, sym, ap, ◌∙◌, arith, append_assoc, append-nil}
use Rattle.std.specs.Prelude.{unwrap_or}
use Rattle.graph_encoder.specs.declared.plan.FilePlan.{FilePlan}
use Rattle.graph_encoder.specs.Chunks.{table_from, table_len, chunk_bytes, with_chunks}
use Rattle.graph_encoder.specs.DateOffsets.{offsets_of, large_offsets, offset_words}
use Rattle.graph_encoder.specs.ExtraEdges.{all_extra_words}
use Rattle.graph_encoder.specs.Written.{header, ids_of, exact_fan, words_bytes, longs_bytes, ids_bytes, records_from}
use Rattle.graph_encoder.specs.Written.{possible_chunks, planned_chunks, planned_body}
use Rattle.graph_encoder.specs.Sizes.{sizes_of, table_by_sizes}
use Rattle.graph_encoder.proofs.BuiltFile.{length-header}
use Rattle.graph_encoder.proofs.PlannedChunks.{offsets-bytes, filters_bytes, filters-bytes}
use Rattle.graph_encoder.proofs.PlannedFile.{header_in}
use Rattle.graph_encoder.proofs.PossibleChunks.{bytes_of_those, table_of_those, unless_empty-bytes}

-- the offsets of a plan, none of them where it has no dates
abbrev pub offsets_in : FilePlan → List ℕ
offsets_in plan = unwrap_or (offsets_of plan) []

-- the bytes of all chunks
abbrev pub parts : FilePlan → List ℕ
parts plan =
    words_bytes (exact_fan (ids_of plan.commits.items))
    ++ (ids_bytes (ids_of plan.commits.items)
    ++ (records_from 0 plan.commits.items
    ++ (words_bytes (offset_words (offsets_in plan))
    ++ (longs_bytes (large_offsets (offsets_in plan))
    ++ (words_bytes (all_extra_words plan.commits.items)
    ++ (filters_bytes plan.filters ++ ids_bytes plan.bases.items))))))

bytes-planned : (plan : FilePlan) → chunk_bytes (planned_chunks plan) ≡ parts plan
bytes-planned plan =
    bytes_of_those (possible_chunks plan)
    ∙ rw (
      offsets-bytes (offsets_of plan),
      unless_empty-bytes (longs_bytes (large_offsets (offsets_in plan))),
      unless_empty-bytes (words_bytes (all_extra_words plan.commits.items)),
      unless_empty-bytes (ids_bytes plan.bases.items),
      append-nil (ids_bytes plan.bases.items),
      filters-bytes plan.filters (ids_bytes plan.bases.items),
    ) refl

-- ten additions to a file
ten-added : (old a b c d e g i j k l f1 f2 f3 f4 f5 f6 f7 f8 f9 f10 : List ℕ) → f1 ≡ old ++ a → f2 ≡ f1 ++ b → f3 ≡ f2 ++ c
    → f4 ≡ f3 ++ d → f5 ≡ f4 ++ e → f6 ≡ f5 ++ g → f7 ≡ f6 ++ i → f8 ≡ f7 ++ j → f9 ≡ f8 ++ k → f10 ≡ f9 ++ l
    → f10 ≡ old ++ (a ++ (b ++ (c ++ (d ++ (e ++ (g ++ (i ++ (j ++ (k ++ l)))))))))
ten-added old a b c d e g i j k l f1 f2 f3 f4 f5 f6 f7 f8 f9 f10 h1 h2 h3 h4 h5 h6 h7 h8 h9 h10 =
    rw (h10, h9, h8, h7, h6, h5, h4, h3, h2, h1) (simp append_assoc)

-- the header, the table and the chunks, part by part
pub body-added : (plan : FilePlan) (count offset : ℕ) (old f1 f2 f3 f4 f5 f6 f7 f8 f9 f10 : List ℕ)
    → count ≡ length (planned_chunks plan) → offset ≡ 8 + table_len count
    → f1 ≡ old ++ header plan.kind count (length plan.bases.items) → f2 ≡ f1 ++ table_by_sizes offset (sizes_of plan)
    → f3 ≡ f2 ++ words_bytes (exact_fan (ids_of plan.commits.items)) → f4 ≡ f3 ++ ids_bytes (ids_of plan.commits.items)
    → f5 ≡ f4 ++ records_from 0 plan.commits.items → f6 ≡ f5 ++ words_bytes (offset_words (offsets_in plan))
    → f7 ≡ f6 ++ longs_bytes (large_offsets (offsets_in plan))
    → f8 ≡ f7 ++ words_bytes (all_extra_words plan.commits.items) → f9 ≡ f8 ++ filters_bytes plan.filters
    → f10 ≡ f9 ++ ids_bytes plan.bases.items → f10 ≡ old ++ planned_body plan
unfolding planned_body with_chunks
body-added plan count offset old f1 f2 f3 f4 f5 f6 f7 f8 f9 f10 h k e1 e2 e3 e4 e5 e6 e7 e8 e9 e10 =
    let place : offset ≡ length (header_in plan) + table_len (length (planned_chunks plan)) =
    omega (arith, h, k, length-header plan.kind (length (planned_chunks plan)) (length plan.bases.items)) in
    ten-added old (header plan.kind count (length plan.bases.items)) (table_by_sizes offset (sizes_of plan))
    (words_bytes (exact_fan (ids_of plan.commits.items))) (ids_bytes (ids_of plan.commits.items))
    (records_from 0 plan.commits.items) (words_bytes (offset_words (offsets_in plan)))
    (longs_bytes (large_offsets (offsets_in plan))) (words_bytes (all_extra_words plan.commits.items))
    (filters_bytes plan.filters) (ids_bytes plan.bases.items) f1 f2 f3 f4 f5 f6 f7 f8 f9 f10 e1 e2 e3 e4 e5 e6 e7 e8 e9 e10
    ∙ ap (λ (bytes : List ℕ). old ++ (header plan.kind count (length plan.bases.items)
    ++ (table_by_sizes offset (sizes_of plan) ++ bytes))) (sym (bytes-planned plan))
    ∙ ap (λ (table : List ℕ). old ++ (header plan.kind count (length plan.bases.items)
    ++ (table ++ chunk_bytes (planned_chunks plan)))) (table_of_those offset (possible_chunks plan))
    ∙ ap (λ (n : ℕ). old ++ (header plan.kind n (length plan.bases.items)
    ++ (table_from offset (planned_chunks plan) ++ chunk_bytes (planned_chunks plan)))) h
    ∙ ap (λ (n : ℕ). old ++ (header_in plan
    ++ (table_from n (planned_chunks plan) ++ chunk_bytes (planned_chunks plan)))) place
