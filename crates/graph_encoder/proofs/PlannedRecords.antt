-- what the records of a plan say
use Rattle.std.proofs.Common.{◌≡◌, ℕ, zero, suc, ◌+◌, ◌*◌, ◌^◌, ◌<◌, List, [], ◌∷◌, ◌++◌, length, map, take, slice_get, Option}
use Rattle.std.proofs.Common.{Some, IsSomeAnd, All, refl, sym, ap, subst, ◌∙◌, arith, append_assoc, append-nil, length-append}
use Rattle.std.specs.List.{flat_map}
use Rattle.std.proofs.lemmas.List.{map-id}
use Rattle.gix_hash_core.specs.declared.kind.Kind.{Kind}
use Rattle.gix_hash_core.specs.declared.kind.Kind.TheVariants.{Sha1, Sha256}
use Rattle.graph_format.specs.Format.{Record, record_of, record_len, pieces}
use Rattle.graph_encoder.specs.declared.plan.PlanCommit.{PlanCommit}
use Rattle.graph_encoder.specs.ExtraEdges.{no_parent, top_bit, extra_words, all_extra_words, first_field, second_field}
use Rattle.graph_encoder.specs.Plan.{IsPlannedCommit}
use Rattle.graph_encoder.specs.Written.{record_bytes, records_from}
use Rattle.graph_encoder.specs.Said.{SaysCommit}
use Rattle.graph_encoder.proofs.Pieces.{All-first, All-others, All-cons, pieces-flat_map, length-flat_map-sized}
use Rattle.graph_encoder.proofs.BuiltRecords.{length-spelled, record_of-spelled}
use Rattle.graph_encoder.proofs.BuiltParents.{Hold, both_parents-fields}

-- the index of the first extra word of the commit after this one
abbrev pub index_after : ℕ → PlanCommit → ℕ
index_after index commit = index + length (extra_words commit.parents.items)

-- the bytes of each record
abbrev pub record_list : ℕ → List PlanCommit → List (List ℕ)
record_list index [] = []
record_list index (commit ∷ commits) = record_bytes index commit ∷ record_list (index_after index commit) commits

records_from-list : (index : ℕ) (commits : List PlanCommit)
    → records_from index commits ≡ flat_map (λ bytes. bytes) (record_list index commits)
records_from-list index [] = refl
records_from-list index (commit ∷ commits) =
    ap (λ bytes. record_bytes index commit ++ bytes) (records_from-list (index_after index commit) commits)

length-record_list : (index : ℕ) (commits : List PlanCommit) → length (record_list index commits) ≡ length commits
length-record_list index [] = refl
length-record_list index (commit ∷ commits) = ap suc (length-record_list (index_after index commit) commits)

-- what a record says
abbrev pub planned_record : ℕ → PlanCommit → Record
planned_record index commit =
    record {
      tree = commit.tree;
      parent1 = first_field commit.parents.items;
      parent2 = second_field index commit.parents.items;
      generation = commit.generation;
      time = commit.time;
    }

abbrev pub planned_records : ℕ → List PlanCommit → List Record
planned_records index [] = []
planned_records index (commit ∷ commits) = planned_record index commit ∷ planned_records (index_after index commit) commits

pub length-planned_records : (index : ℕ) (commits : List PlanCommit) → length (planned_records index commits) ≡ length commits
length-planned_records index [] = refl
length-planned_records index (commit ∷ commits) = ap suc (length-planned_records (index_after index commit) commits)

-- fields fit four bytes
first_field-fits : (parents : List ℕ) → All (λ p. p < no_parent) parents → first_field parents < 2 ^ 32
first_field-fits [] h = omega arith
first_field-fits (first ∷ more) h = omega (arith, All-first (λ p. p < no_parent) first more h)

second_field-fits : (index : ℕ) (parents : List ℕ) → All (λ p. p < no_parent) parents → index < top_bit
    → second_field index parents < 2 ^ 32
second_field-fits index [] h e = omega arith
second_field-fits index (first ∷ []) h e = omega arith
second_field-fits index (first ∷ second ∷ []) h e =
    omega (arith, All-first (λ p. p < no_parent) second [] (All-others (λ p. p < no_parent) first (second ∷ []) h))
second_field-fits index (first ∷ second ∷ third ∷ more) h e = omega (arith, e)

length-record_bytes : (kind : Kind) (index : ℕ) (commit : PlanCommit) → IsPlannedCommit kind commit
    → length (record_bytes index commit) ≡ record_len kind
unfolding record_bytes
length-record_bytes kind index commit h = length-spelled kind commit.tree _ _ _ h.tree

record_list-sized : (kind : Kind) (index : ℕ) (commits : List PlanCommit) → All (IsPlannedCommit kind) commits
    → All (λ bytes. length bytes ≡ record_len kind) (record_list index commits)
record_list-sized kind index [] h = λ k d i. absurd (omega (arith, i))
record_list-sized kind index (commit ∷ commits) h =
    let rest = record_list-sized kind (index_after index commit) commits (All-others (IsPlannedCommit kind) commit commits h) in
    All-cons (λ bytes. length bytes ≡ record_len kind) _ _
    (length-record_bytes kind index commit (All-first (IsPlannedCommit kind) commit commits h)) rest

pub length-records_from : (kind : Kind) (index : ℕ) (commits : List PlanCommit) → All (IsPlannedCommit kind) commits
    → length (records_from index commits) ≡ record_len kind * length commits
length-records_from kind index commits h =
    ap length (records_from-list index commits)
    ∙ length-flat_map-sized (record_len kind) (λ bytes. bytes) (record_list index commits)
    (record_list-sized kind index commits h)
    ∙ ap (λ (n : ℕ). record_len kind * n) (length-record_list index commits)

record_of-planned : (kind : Kind) (index : ℕ) (commit : PlanCommit) → IsPlannedCommit kind commit → index < top_bit
    → record_of kind (record_bytes index commit) ≡ planned_record index commit
unfolding record_bytes
record_of-planned kind index commit h e =
    record_of-spelled kind commit.tree _ _ commit.generation commit.time h.tree (first_field-fits _ h.parents)
    (second_field-fits index _ h.parents e) (omega (arith, h.generation)) (omega (arith, h.time))

-- the extra words of one commit, and those of others
words-cons : (commit : PlanCommit) (commits : List PlanCommit)
    → all_extra_words (commit ∷ commits) ≡ extra_words commit.parents.items ++ all_extra_words commits
unfolding all_extra_words
words-cons commit commits = refl

records-read : (kind : Kind) (index : ℕ) (commits : List PlanCommit) → All (IsPlannedCommit kind) commits
    → index + length (all_extra_words commits) < top_bit
    → map (record_of kind) (record_list index commits) ≡ planned_records index commits
records-read kind index [] h e = refl
records-read kind index (commit ∷ commits) h e =
    let words : length (all_extra_words (commit ∷ commits))
    ≡ length (extra_words commit.parents.items) + length (all_extra_words commits) = ap length (words-cons commit commits)
    ∙ length-append _ _ in
    ap (λ (r : Record). r ∷ map (record_of kind) (record_list (index_after index commit) commits))
    (record_of-planned kind index commit (All-first (IsPlannedCommit kind) commit commits h) (omega (arith, e)))
    ∙ ap (λ (rs : List Record). planned_record index commit ∷ rs)
    (records-read kind (index_after index commit) commits (All-others (IsPlannedCommit kind) commit commits h)
    (omega (arith, e, words)))

pub kind-whole : (kind : Kind) → 0 < record_len kind
kind-whole Sha1 = omega arith
kind-whole Sha256 = omega arith

-- the records that are read are those of the plan
pub records_from-read : (kind : Kind) (commits : List PlanCommit) → All (IsPlannedCommit kind) commits
    → length (all_extra_words commits) < top_bit
    → map (record_of kind) (pieces (record_len kind) (records_from 0 commits)) ≡ planned_records 0 commits
records_from-read kind commits h e =
    ap (λ (bytes : List ℕ). map (record_of kind) (pieces (record_len kind) bytes)) (records_from-list 0 commits)
    ∙ ap (map (record_of kind))
    (pieces-flat_map (record_len kind) (λ bytes. bytes) (record_list 0 commits) (kind-whole kind)
    (record_list-sized kind 0 commits h) ∙ map-id (record_list 0 commits))
    ∙ records-read kind 0 commits h (omega (arith, e))

-- the second field of a commit with more than two parents
second_field-extra : (index : ℕ) (parents : List ℕ) → 2 < length parents → second_field index parents ≡ top_bit + index
second_field-extra index [] h = absurd (omega (arith, h))
second_field-extra index (first ∷ []) h = absurd (omega (arith, h))
second_field-extra index (first ∷ second ∷ []) h = absurd (omega (arith, h))
second_field-extra index (first ∷ second ∷ third ∷ more) h = refl

-- the words before a commit's
words-none : (before : List ℕ) → length before ≡ length (before ++ all_extra_words [])
unfolding all_extra_words
words-none before = ap length (sym (append-nil before))

words-before : (before : List ℕ) (first : PlanCommit) (commits : List PlanCommit)
    → length ((before ++ extra_words first.parents.items) ++ all_extra_words commits)
    ≡ length (before ++ all_extra_words (first ∷ commits))
words-before before first commits =
    ap length (append_assoc before _ _ ∙ ap (λ (ws : List ℕ). before ++ ws) (sym (words-cons first commits)))

-- each record says its commit, where the edges hold all extra words
pub records-say : (kind : Kind) (before : List ℕ) (commits : List PlanCommit) (edges : Option (List ℕ))
    → All (IsPlannedCommit kind) commits → Hold edges (before ++ all_extra_words commits)
    → (i : ℕ) (commit : PlanCommit) → slice_get commits i ≡ Some commit
    → IsSomeAnd (slice_get (planned_records (length before) commits) i)
    (SaysCommit edges (length (before ++ all_extra_words (take i commits))) commit)
records-say kind before [] edges h e i commit k = absurd (cc)
records-say kind before (first ∷ commits) edges h e zero commit k =
    let here : first ≡ commit = cc in
    let says : SaysCommit edges (length before) first (planned_record (length before) first) =
    record {
      tree = refl;
      parents =
          both_parents-fields first.parents.items before (all_extra_words commits) edges
          (All-first (IsPlannedCommit kind) first commits h).parents
          (let P : List ℕ → Type 0 = λ words. Hold edges (before ++ words) in subst P (words-cons first commits) e);
      extra = second_field-extra (length before) first.parents.items;
      generation = refl;
      time = refl;
    } in
    let P : PlanCommit → Type 0 = λ c. SaysCommit edges (length before) c (planned_record (length before) first) in
    let Q : ℕ → Type 0 = λ n. SaysCommit edges n commit (planned_record (length before) first) in
    subst Q (words-none before) (subst P here says)
records-say kind before (first ∷ commits) edges h e (suc i) commit k =
    let next : length (before ++ extra_words first.parents.items) ≡ index_after (length before) first = length-append before _ in
    let words : before ++ all_extra_words (first ∷ commits)
    ≡ (before ++ extra_words first.parents.items) ++ all_extra_words commits =
    ap (λ (ws : List ℕ). before ++ ws) (words-cons first commits) ∙ sym (append_assoc before _ _) in
    let rest =
    records-say kind (before ++ extra_words first.parents.items) commits edges
    (All-others (IsPlannedCommit kind) first commits h) (let P : List ℕ → Type 0 = λ ws. Hold edges ws in subst P words e)
    i commit k in
    let P : ℕ → Type 0 = λ n.
    IsSomeAnd (slice_get (planned_records n commits) i)
    (SaysCommit edges (length ((before ++ extra_words first.parents.items) ++ all_extra_words (take i commits)))
    commit) in
    let Q : ℕ → Type 0 = λ n.
    IsSomeAnd (slice_get (planned_records (index_after (length before) first) commits) i) (SaysCommit edges n commit) in
    subst Q (words-before before first (take i commits)) (subst P next rest)
