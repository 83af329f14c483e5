-- Plans that say the same have one file.
use Rattle.std.proofs.Common.{◌≡◌, ℕ, ◌+◌, List, [], ◌∷◌, ◌++◌, map, length, Option, Some, None, option_map, refl, sym, ap, ◌∙◌}
use Rattle.std.specs.Prelude.{codes, unwrap_or}
use Rattle.std.specs.List.{flat_map}
use Rattle.gix_hash_core.specs.Digest.{digest_of}
use Rattle.gix_hash_core.specs.declared.kind.Kind.{Kind}
use Rattle.graph_format.specs.Format.{fan_id, ids_id, records_id, edges_id, bases_id}
use Rattle.graph_encoder.specs.Chunks.{NamedChunk, unless_empty, those_there, with_chunks}
use Rattle.graph_encoder.specs.DateOffsets.{offsets_of, large_offsets, offset_words}
use Rattle.graph_encoder.specs.ExtraEdges.{extra_words, all_extra_words}
use Rattle.graph_encoder.specs.SamePlans.{SaidCommit, said_commit, SaidFilters, said_filters, SayTheSame}
use Rattle.graph_encoder.specs.Written.{header, ids_of, exact_fan, words_bytes, longs_bytes, ids_bytes, record_bytes}
use Rattle.graph_encoder.specs.Written.{records_from}
use Rattle.graph_encoder.specs.Written.{filter_index, filter_data, numbers_before, planned_body, planned_file}
use Rattle.graph_encoder.specs.declared.filters.PlanFilters.{PlanFilters}
use Rattle.graph_encoder.specs.declared.plan.FilePlan.{FilePlan}
use Rattle.graph_encoder.specs.declared.plan.PlanCommit.{PlanCommit}

-- the chunks of a file, by what stands in them
abbrev chunks_by : List (List ℕ) → List ℕ → Option (List ℕ) → List ℕ → Option (List ℕ) → Option (List ℕ) → List (List ℕ)
    → List NamedChunk
chunks_by ids records offsets words index body bases =
    those_there
    (record { id = fan_id; bytes = Some (words_bytes (exact_fan ids)) }
    ∷ record { id = ids_id; bytes = Some (ids_bytes ids) }
    ∷ record { id = records_id; bytes = Some records }
    ∷ record { id = codes "GDA2"; bytes = option_map (λ os. words_bytes (offset_words os)) offsets }
    ∷ record { id = codes "GDO2"; bytes = unless_empty (longs_bytes (large_offsets (unwrap_or offsets []))) }
    ∷ record { id = edges_id; bytes = unless_empty (words_bytes words) }
    ∷ record { id = codes "BIDX"; bytes = index }
    ∷ record { id = codes "BDAT"; bytes = body }
    ∷ record { id = bases_id; bytes = unless_empty (ids_bytes bases) }
    ∷ [])

body_by : Kind → List NamedChunk → ℕ → List ℕ
body_by kind chunks bases = with_chunks (header kind (length chunks) bases) chunks

-- the file by its kind, its chunks and the number of its bases
file_by : Kind → List NamedChunk → ℕ → List ℕ
file_by kind chunks bases = body_by kind chunks bases ++ digest_of kind (body_by kind chunks bases)

abbrev chunks_in : FilePlan → List NamedChunk
chunks_in plan =
    chunks_by (ids_of plan.commits.items) (records_from 0 plan.commits.items) (offsets_of plan)
    (all_extra_words plan.commits.items) (option_map filter_index plan.filters) (option_map filter_data plan.filters)
    plan.bases.items

planned-by : (plan : FilePlan) → planned_file plan ≡ file_by plan.kind (chunks_in plan) (length plan.bases.items)
unfolding planned_file planned_body file_by body_by
planned-by plan = refl

-- each part follows from what the plan says
ids-said : (commits : List PlanCommit) → ids_of commits ≡ map (λ (s : SaidCommit). s.id) (map said_commit commits)
ids-said [] = refl
ids-said (c ∷ commits) = ap (λ (ids : List (List ℕ)). c.id ∷ ids) (ids-said commits)

words-said : (commits : List PlanCommit)
    → all_extra_words commits ≡ flat_map (λ (s : SaidCommit). extra_words s.parents) (map said_commit commits)
unfolding all_extra_words
words-said [] = refl
words-said (c ∷ commits) = ap (λ (words : List ℕ). extra_words c.parents.items ++ words) (words-said commits)

record-said : (x y : PlanCommit) (n : ℕ) → said_commit x ≡ said_commit y → record_bytes n x ≡ record_bytes n y
unfolding record_bytes
record-said x y n same =
    let tree : x.tree ≡ y.tree = ap (λ (s : SaidCommit). s.tree) same in
    let parents : x.parents.items ≡ y.parents.items = ap (λ (s : SaidCommit). s.parents) same in
    let generation : x.generation ≡ y.generation = ap (λ (s : SaidCommit). s.generation) same in
    let time : x.time ≡ y.time = ap (λ (s : SaidCommit). s.time) same in
    rw (tree, parents, generation, time) refl

records-said : (xs ys : List PlanCommit) (n : ℕ) → map said_commit xs ≡ map said_commit ys
    → records_from n xs ≡ records_from n ys
records-said [] [] n same = refl
records-said [] (y ∷ ys) n same = cc
records-said (x ∷ xs) [] n same = cc
records-said (x ∷ xs) (y ∷ ys) n same =
    let first : said_commit x ≡ said_commit y = cc in
    let rest : map said_commit xs ≡ map said_commit ys = cc in
    let parents : x.parents.items ≡ y.parents.items = ap (λ (s : SaidCommit). s.parents) first in
    ap (λ (bytes : List ℕ). bytes ++ records_from (n + length (extra_words x.parents.items)) xs) (record-said x y n first)
    ∙ ap (λ (bytes : List ℕ). record_bytes n y ++ bytes)
    (records-said xs ys (n + length (extra_words x.parents.items)) rest
    ∙ ap (λ (ps : List ℕ). records_from (n + length (extra_words ps)) ys) parents)

index-said : (a b : Option PlanFilters) → option_map said_filters a ≡ option_map said_filters b
    → option_map filter_index a ≡ option_map filter_index b
index-said None None same = refl
index-said None (Some g) same = cc
index-said (Some f) None same = cc
index-said (Some f) (Some g) same =
    let is : said_filters f ≡ said_filters g = cc in
    ap (λ (s : SaidFilters). Some (words_bytes s.ends)) is

data-said : (a b : Option PlanFilters) → option_map said_filters a ≡ option_map said_filters b
    → option_map filter_data a ≡ option_map filter_data b
data-said None None same = refl
data-said None (Some g) same = cc
data-said (Some f) None same = cc
data-said (Some f) (Some g) same =
    let is : said_filters f ≡ said_filters g = cc in
    ap (λ (s : SaidFilters). Some (words_bytes (numbers_before s.numbers) ++ s.bytes)) is

-- plans have one file if they have one kind, the same bases and offsets, and commits and filters that give the same
pub same-file-by : (plan other : FilePlan) → plan.kind ≡ other.kind → plan.bases.items ≡ other.bases.items
    → map said_commit plan.commits.items ≡ map said_commit other.commits.items → offsets_of plan ≡ offsets_of other
    → option_map filter_index plan.filters ≡ option_map filter_index other.filters
    → option_map filter_data plan.filters ≡ option_map filter_data other.filters → planned_file plan ≡ planned_file other
same-file-by plan other kind bases commits dates index body =
    planned-by plan
    ∙ by-parts plan.kind other.kind _ _ _ _ _ _ _ _ _ _ _ _ plan.bases.items other.bases.items kind
    (ids-said plan.commits.items ∙ ap (map (λ (s : SaidCommit). s.id)) commits ∙ sym (ids-said other.commits.items))
    (records-said plan.commits.items other.commits.items 0 commits) dates
    (words-said plan.commits.items
    ∙ ap (flat_map (λ (s : SaidCommit). extra_words s.parents)) commits
    ∙ sym (words-said other.commits.items))
    index body bases
    ∙ sym (planned-by other)
  where
    by-parts : (kind others_kind : Kind) (ids others_ids : List (List ℕ)) (records others_records : List ℕ)
        (offsets others_offsets : Option (List ℕ)) (words others_words : List ℕ) (index others_index : Option (List ℕ))
        (body others_body : Option (List ℕ)) (bases others_bases : List (List ℕ)) → kind ≡ others_kind → ids ≡ others_ids
        → records ≡ others_records → offsets ≡ others_offsets → words ≡ others_words → index ≡ others_index
        → body ≡ others_body → bases ≡ others_bases
        → file_by kind (chunks_by ids records offsets words index body bases) (length bases)
        ≡ file_by others_kind (chunks_by others_ids others_records others_offsets others_words others_index others_body
        others_bases) (length others_bases)
    by-parts kind _ ids _ records _ offsets _ words _ index _ body _ bases _ k i r o w x d b =
        rw (k, i, r, o, w, x, d, b) refl

pub same-file : (plan other : FilePlan) → SayTheSame plan other → planned_file plan ≡ planned_file other
same-file plan other same =
    same-file-by plan other same.kind same.bases same.commits same.dates
    (index-said plan.filters other.filters same.filters) (data-said plan.filters other.filters same.filters)
