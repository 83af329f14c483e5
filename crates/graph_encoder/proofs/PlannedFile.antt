-- the parts of a plan's file
use Rattle.std.proofs.Common.{◌≡◌, ℕ, suc, ◌+◌, ◌*◌, ◌^◌, ◌<◌, ◌≤◌, List, [], ◌∷◌, length, map, slice_index, All, refl, sym, ap}
use Rattle.std.proofs.Common.{subst, ◌∙◌, arith, length-append}
use Rattle.std.specs.Prelude.{fold, unwrap_or}
use Rattle.std.proofs.lemmas.List.{length-map}
use Rattle.gix_hash_core.specs.declared.kind.Kind.{Kind}
use Rattle.gix_hash_core.specs.declared.kind.Kind.TheVariants.{Sha1, Sha256}
use Rattle.gix_hash_core.specs.Kind.{id_len}
use Rattle.gix_hash_core.specs.Digest.{digest_of}
use Rattle.gix_chunk_core.specs.Table.{Chunks}
use Rattle.graph_format.specs.Format.{record_len, words, least_size, table_of, chunk_of}
use Rattle.graph_encoder.specs.declared.plan.FilePlan.{FilePlan}
use Rattle.graph_encoder.specs.declared.plan.PlanCommit.{PlanCommit}
use Rattle.graph_encoder.specs.ExtraEdges.{no_parent, top_bit, extra_words, all_extra_words, listed_words}
use Rattle.graph_encoder.specs.Plan.{IsPlan, IsPlannedCommit}
use Rattle.graph_encoder.specs.Chunks.{chunk_bytes, with_chunks, table_len}
use Rattle.graph_encoder.specs.DateOffsets.{offsets_of, large_offsets}
use Rattle.graph_encoder.specs.Written.{header, ids_of, exact_fan, words_bytes, ids_bytes, records_from, planned_chunks}
use Rattle.graph_encoder.specs.Written.{longs_bytes, possible_chunks, planned_body, planned_file}
use Rattle.graph_encoder.specs.Sizes.{sizes_of, total_size}
use Rattle.graph_encoder.proofs.Pieces.{All-first, All-others, All-cons, All-append, length-words_bytes}
use Rattle.graph_encoder.proofs.BuiltFan.{length-exact_fan}
use Rattle.graph_encoder.proofs.BuiltChunks.{AreLaidOut, length-with_chunks}
use Rattle.graph_encoder.proofs.PossibleChunks.{named_there, bytes_there, found_there, size_of_those, few_there, first-least}
use Rattle.graph_encoder.proofs.PossibleChunks.{unless_empty-len}
use Rattle.graph_encoder.proofs.BuiltFile.{length-header, laid_file, IsHeaded, headed, table-laid, end-laid, chunk_of-laid}
use Rattle.gix_hash_core.proofs.DigestLemmas.{digest_is_sized}
use Rattle.graph_encoder.proofs.PlannedRecords.{length-records_from}
use Rattle.graph_encoder.proofs.PlannedChunks.{offsets-small, filters-small, length-ids_bytes}

-- ids of commits
pub All-map : {X Y : Type 0} (P : Y → Type 0) (f : X → Y) (xs : List X) → All (λ x. P (f x)) xs → All P (map f xs)
All-map P f [] h = λ k d i. absurd (omega (arith, i))
All-map P f (x ∷ xs) h =
    All-cons P (f x) (map f xs) (h 0 x (omega arith)) (All-map P f xs (λ k d i. h (suc k) d (omega (arith, i))))

pub ids_of-sized : (kind : Kind) (commits : List PlanCommit) → All (IsPlannedCommit kind) commits
    → All (λ id. length id ≡ id_len kind) (ids_of commits)
ids_of-sized kind commits h = All-map (λ id. length id ≡ id_len kind) (λ c. c.id) commits (λ k d i. (h k d i).id)

-- extra words fit four bytes
listed_words-small : (parent : ℕ) (more : List ℕ) → All (λ p. p < no_parent) (parent ∷ more)
    → All (λ n. n < 2 ^ 32) (listed_words parent more)
listed_words-small parent [] h =
    All-cons (λ n. n < 2 ^ 32) _ [] (omega (arith, All-first (λ p. p < no_parent) parent [] h)) (λ k d i.
    absurd (omega (arith, i)))
listed_words-small parent (next ∷ more) h =
    All-cons (λ n. n < 2 ^ 32) _ _ (omega (arith, All-first (λ p. p < no_parent) parent (next ∷ more) h))
    (listed_words-small next more (All-others (λ p. p < no_parent) parent (next ∷ more) h))

extra_words-small : (parents : List ℕ) → All (λ p. p < no_parent) parents → All (λ n. n < 2 ^ 32) (extra_words parents)
extra_words-small [] h = λ k d i. absurd (omega (arith, i))
extra_words-small (first ∷ []) h = λ k d i. absurd (omega (arith, i))
extra_words-small (first ∷ second ∷ []) h = λ k d i. absurd (omega (arith, i))
extra_words-small (first ∷ second ∷ third ∷ more) h =
    listed_words-small second (third ∷ more) (All-others (λ p. p < no_parent) first (second ∷ third ∷ more) h)

pub all_extra_words-small : (kind : Kind) (commits : List PlanCommit) → All (IsPlannedCommit kind) commits
    → All (λ n. n < 2 ^ 32) (all_extra_words commits)
unfolding all_extra_words
all_extra_words-small kind [] h = λ k d i. absurd (omega (arith, i))
all_extra_words-small kind (commit ∷ commits) h =
    All-append (λ n. n < 2 ^ 32) (extra_words commit.parents.items) (all_extra_words commits)
    (extra_words-small _ (All-first (IsPlannedCommit kind) commit commits h).parents)
    (all_extra_words-small kind commits (All-others (IsPlannedCommit kind) commit commits h))

-- the parts of a plan's file
abbrev pub header_in : FilePlan → List ℕ
header_in plan = header plan.kind (length (planned_chunks plan)) (length plan.bases.items)

abbrev pub digest_in : FilePlan → List ℕ
digest_in plan = digest_of plan.kind (planned_body plan)

-- The numbers of bytes of the first three chunks.
pub record HasSizes (plan : FilePlan) : Type 0 where
  pub fan : length (words_bytes (exact_fan (ids_of plan.commits.items))) ≡ 1024
  pub ids : length (ids_bytes (ids_of plan.commits.items)) ≡ id_len plan.kind * length plan.commits.items
  pub records : length (records_from 0 plan.commits.items) ≡ record_len plan.kind * length plan.commits.items

pub sizes : (plan : FilePlan) → IsPlan plan → HasSizes plan
sizes plan h =
    let fan : ◌≡◌ {A = ℕ} (length (words_bytes (exact_fan (ids_of plan.commits.items)))) 1024 =
    length-words_bytes (exact_fan (ids_of plan.commits.items))
    ∙ ap (λ (n : ℕ). 4 * n) (length-exact_fan (ids_of plan.commits.items)) in
    let ids : length (ids_bytes (ids_of plan.commits.items)) ≡ id_len plan.kind * length plan.commits.items =
    length-ids_bytes plan.kind (ids_of plan.commits.items) (ids_of-sized plan.kind plan.commits.items h.commits)
    ∙ ap (λ (n : ℕ). id_len plan.kind * n) (length-map plan.commits.items (λ (c : PlanCommit). c.id)) in
    let records : length (records_from 0 plan.commits.items) ≡ record_len plan.kind * length plan.commits.items =
    length-records_from plan.kind 0 plan.commits.items h.commits in
    record { fan = fan; ids = ids; records = records }

-- the sizes are no larger than an offset can be
fits : (kind : Kind) (commits words bases : ℕ) → commits < 2147483648 → words < top_bit → bases ≤ 255
    → 1024 + id_len kind * commits + record_len kind * commits + 16 * commits + 2 ^ 33 + (4 * words + id_len kind * bases)
    < 2 ^ 40
fits Sha1 commits words bases h e k = omega (arith, h, e, k)
fits Sha256 commits words bases h e k = omega (arith, h, e, k)

-- nine sizes together
nine-small : (a b c d e f g i j n : ℕ) → a + b + c + d + e + f + g + i + j < n
    → fold (λ s x. s + x) 0 (a ∷ b ∷ c ∷ d ∷ e ∷ f ∷ g ∷ i ∷ j ∷ []) < n
nine-small a b c d e f g i j n h = omega (arith, h)

pub sizes-small : (plan : FilePlan) → IsPlan plan → total_size (sizes_of plan) < 2 ^ 40
sizes-small plan h =
    let known = sizes plan h in
    let few = offsets-small (offsets_of plan) (length plan.commits.items) h.offsets in
    let kept = filters-small plan.filters (length plan.commits.items) h.filters in
    let bases : length (ids_bytes plan.bases.items) ≡ id_len plan.kind * length plan.bases.items =
    length-ids_bytes plan.kind plan.bases.items h.bases in
    nine-small (length (words_bytes (exact_fan (ids_of plan.commits.items)))) (length (ids_bytes (ids_of plan.commits.items)))
    (length (records_from 0 plan.commits.items)) _ _ _ _ _ _ (2 ^ 40)
    (omega (
      arith,
      known.fan,
      known.ids,
      known.records,
      few.0,
      few.1,
      kept.0,
      kept.1,
      unless_empty-len (longs_bytes (large_offsets (unwrap_or (offsets_of plan) []))),
      unless_empty-len (words_bytes (all_extra_words plan.commits.items)),
      unless_empty-len (ids_bytes plan.bases.items),
      length-words_bytes (all_extra_words plan.commits.items),
      bases,
      fits plan.kind (length plan.commits.items) (length (all_extra_words plan.commits.items)) (length plan.bases.items)
          h.few_commits h.few_words h.few_bases,
    ))

-- how many chunks there are
pub chunks-few : (plan : FilePlan) → length (planned_chunks plan) ≤ 9
chunks-few plan = few_there (possible_chunks plan)

pub chunks-some : (plan : FilePlan) → 3 ≤ length (planned_chunks plan)
chunks-some plan = omega arith

pub id-small : (kind : Kind) → id_len kind ≤ 32
id-small Sha1 = omega arith
id-small Sha256 = omega arith

twenty : (kind : Kind) → 20 ≤ id_len kind
twenty Sha1 = omega arith
twenty Sha256 = omega arith

laid : (plan : FilePlan) → IsPlan plan → AreLaidOut (header_in plan) (digest_in plan) (planned_chunks plan)
laid plan h =
    record {
      named = named_there (possible_chunks plan) refl;
      some = omega (arith, chunks-some plan);
      short = omega (
        arith,
        chunks-few plan,
        length-header plan.kind (length (planned_chunks plan)) (length plan.bases.items),
        size_of_those (possible_chunks plan),
        sizes-small plan h,
      );
    }

-- the file in parts
planned_file-is : (plan : FilePlan) → planned_file plan
    ≡ laid_file plan.kind (length plan.bases.items) (planned_chunks plan) (digest_in plan)
unfolding planned_file planned_body
planned_file-is plan = refl

planned_body-is : (plan : FilePlan) → planned_body plan ≡ with_chunks (header_in plan) (planned_chunks plan)
unfolding planned_body
planned_body-is plan = refl

-- a chunk of the file is the one that was laid out
pub chunk_of-planned : (plan : FilePlan) (id : List ℕ) → IsPlan plan
    → chunk_of (planned_file plan) id ≡ bytes_there (possible_chunks plan) id
chunk_of-planned plan id h = ap (λ (bytes : List ℕ). chunk_of bytes id) (planned_file-is plan)
    ∙ chunk_of-laid plan.kind (length plan.bases.items) (planned_chunks plan) (digest_in plan) id (laid plan h)
    ∙ found_there (possible_chunks plan) id refl

pub end-planned : (plan : FilePlan) → IsPlan plan → (table_of (planned_file plan)).end ≡ length (planned_body plan)
end-planned plan h =
    ap (λ (bytes : List ℕ). (table_of bytes).end) (planned_file-is plan)
    ∙ end-laid plan.kind (length plan.bases.items) (planned_chunks plan) (digest_in plan) (laid plan h)
    ∙ ap length (sym (planned_body-is plan))

pub table-planned : (plan : FilePlan) → IsPlan plan
    → Chunks (planned_file plan) 8 (slice_index (planned_file plan) 6) (table_of (planned_file plan))
table-planned plan h =
    let P : List ℕ → Type 0 = λ bytes. Chunks bytes 8 (slice_index bytes 6) (table_of bytes) in
    subst P (sym (planned_file-is plan))
    (table-laid plan.kind (length plan.bases.items) (planned_chunks plan) (digest_in plan) (laid plan h))

pub headed-planned : (plan : FilePlan)
    → IsHeaded (planned_file plan) plan.kind (length (planned_chunks plan)) (length plan.bases.items)
headed-planned plan =
    let P : List ℕ → Type 0 = λ bytes. IsHeaded bytes plan.kind (length (planned_chunks plan)) (length plan.bases.items) in
    subst P (sym (planned_file-is plan)) (headed plan.kind (length plan.bases.items) (planned_chunks plan) (digest_in plan))

-- how many bytes the file has
length-planned_body : (plan : FilePlan) → IsPlan plan
    → length (planned_body plan) ≡ 8 + table_len (length (planned_chunks plan)) + length (chunk_bytes (planned_chunks plan))
length-planned_body plan h =
    ap length (planned_body-is plan)
    ∙ length-with_chunks (header_in plan) (planned_chunks plan) (laid plan h).named
    ∙ ap (λ (n : ℕ). n + table_len (length (planned_chunks plan)) + length (chunk_bytes (planned_chunks plan)))
    (length-header plan.kind (length (planned_chunks plan)) (length plan.bases.items))

pub planned_file-size : (plan : FilePlan) → IsPlan plan → least_size ≤ length (planned_file plan)
unfolding planned_file
planned_file-size plan h =
    omega (
      arith,
      chunks-some plan,
      length-append (planned_body plan) (digest_in plan),
      length-planned_body plan h,
      first-least (possible_chunks plan),
      (sizes plan h).fan,
      digest_is_sized plan.kind (planned_body plan),
      twenty plan.kind,
    )
