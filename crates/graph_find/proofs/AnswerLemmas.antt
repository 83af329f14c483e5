-- what the parts that were read say of the lookup of an id
use Rattle.std.proofs.Common.{◌≡◌, ℕ, ◌+◌, ◌-◌, ◌*◌, ◌<◌, ◌≤◌, List, length, slice_range, slice_index, Option, Some, None}
use Rattle.std.proofs.Common.{refl, sym, ap, subst, ◌∙◌, arith}
use Rattle.std.specs.Option.{ForSome, IsSomeAnd}
use Rattle.std.proofs.Math.Nat.{mul-add, mul-le-mul_left}
use Rattle.gix_hash_core.specs.Kind.{id_len}
use Rattle.graph_folder.specs.Tree.{Tree, file_at}
use Rattle.graph_format.specs.Format.{fan_of, record_of}
use Rattle.graph_format.specs.Head.{BeginsWith}
use Rattle.graph_format.specs.Layer.{Layer, decoded_layer}
use Rattle.graph_format.specs.Lookup.{Found}
use Rattle.graph_find.specs.Bucket.{IsBucket}
use Rattle.graph_find.specs.ReadHead.{BeginsAt, IsHead, IsBucketSpan}
use Rattle.graph_find.specs.LayerFinding.{AnswersOfLayer, AnswersInLayer, IsLayerOfHead}
use Rattle.graph_find.specs.declared.head.Head.{Head}
use Rattle.graph_find.specs.declared.head.Span.{Span}
use Rattle.graph_find.specs.declared.answer.FoundCommit.{FoundCommit}
use Rattle.graph_find.specs.declared.answer.SearchAnswer.{SearchAnswer}
use Rattle.graph_find.specs.declared.answer.SearchAnswer.TheVariants.{Found as found_at, Missing}
use Rattle.graph_find.proofs.LayerLemmas.{found-other_kind, is-bucket, tells-record}
use Rattle.graph_find.proofs.SeenLemmas.{StandsAs, seen-front, seen-part, seen-parts}

row : (size k n : ℕ) → k < n → size * k + size ≤ size * n
row size k n h = omega (arith, mul-le-mul_left {m = k + 1} {n = n} size (omega arith), mul-add size k 1)

-- the bytes of a bucket end before those of the ids do
bucket-end : (size first end commits : ℕ) → first ≤ end → end ≤ commits → size * first + size * (end - first) ≤ size * commits
bucket-end size first end commits order within =
    omega (
      arith,
      mul-add size first (end - first),
      mul-le-mul_left {m = first + (end - first)} {n = commits} size (omega arith),
    )

module _ (known : Option Tree) (path id : List ℕ) (head : Head) (is : IsHead head) where
  answers-in : (answer : SearchAnswer) (file : List ℕ) → StandsAs known path file → BeginsWith file head.front.items head.len
      → AnswersOfLayer (decoded_layer file path) id answer → AnswersInLayer known path head id answer
  answers-in answer file at begins answers = record {
    layer = decoded_layer file path;
    is = record { file = file; stands = at.stands; begins = begins; decoded = refl };
    answers = answers;
  }

  module _ (front_seen : ForSome known (λ (tree : Tree). IsSomeAnd (file_at tree path) (λ file.
      BeginsWith file head.front.items head.len))) where
    -- the id is of another kind
    pub missing-kind : (length id ≡ id_len head.layout.kind → ⊥) → AnswersInLayer known path head id Missing
    missing-kind differs =
        let seen = seen-front known path head.front.items head.len is.fits front_seen in
        answers-in Missing seen.0 seen.1 seen.2
        (found-other_kind seen.0 path head.layout (is.layout.each seen.0 seen.2) id differs)

-- The bytes of the ids in a bucket were read.
pub record ReadsBucket (known : Option Tree) (path id : List ℕ) (head : Head) (span : Span) (bytes : List ℕ) : Type 0 where
  pub is : IsHead head
  pub begins : BeginsAt known path head
  pub size : ℕ
  pub long : length id ≡ size
  pub kind : size ≡ id_len head.layout.kind
  pub byte : slice_index id 0 < 256
  pub order : span.start ≤ span.end
  pub within : span.end ≤ head.layout.commits
  pub fan : (file : List ℕ) → BeginsWith file head.front.items head.len → IsBucketSpan (fan_of file) (slice_index id 0) span
  pub start : ℕ
  pub len : ℕ
  pub starts : start ≡ head.layout.chunks.ids.start + size * span.start
  pub lasts : len ≡ size * (span.end - span.start)
  pub sized : length bytes ≡ len
  pub part_seen : ForSome known (λ (tree : Tree). IsSomeAnd (file_at tree path) (λ file.
      slice_range file start (start + len) ≡ bytes))

module _ {known : Option Tree} {path id : List ℕ} {head : Head} {span : Span} {bytes : List ℕ}
    (read : ReadsBucket known path id head span bytes) where
  open read use {is, begins as front_seen, size, long, kind, byte, order, within, fan}
  open read use {start, len, starts, lasts, sized, part_seen}

  part-seen : ForSome known (λ (tree : Tree). IsSomeAnd (file_at tree path) (λ file.
      slice_range file start (start + length bytes) ≡ bytes))
  part-seen =
      let P : ℕ → Type 0 = λ n. ForSome known (λ (tree : Tree). IsSomeAnd (file_at tree path) (λ file.
      slice_range file start (start + n) ≡ bytes)) in
      subst P (sym sized) part_seen

  ends : start + length bytes ≤ head.layout.chunks.records.start
  ends =
      let rows = bucket-end size span.start span.end head.layout.commits order within in
      let all : size * head.layout.commits ≡ id_len head.layout.kind * head.layout.commits =
      ap (λ (n : ℕ). n * head.layout.commits) kind in
      omega (arith, is.order.records, rows, all, sized, starts, lasts)

  bucket : (file : List ℕ) → BeginsWith file head.front.items head.len
      → slice_range file start (start + length bytes) ≡ bytes
      → IsBucket (decoded_layer file path) id span.start span.end bytes
  bucket file begins same =
      let P : ℕ → Type 0 = λ n. slice_range file (head.layout.chunks.ids.start + n * span.start)
      (head.layout.chunks.ids.start + n * span.start + n * (span.end - span.start)) ≡ bytes in
      let Q : ℕ → ℕ → Type 0 = λ n m. slice_range file n m ≡ bytes in
      let stop : start + length bytes ≡ head.layout.chunks.ids.start + size * span.start + size * (span.end - span.start) =
      omega (arith, sized, starts, lasts) in
      let moved : Q (head.layout.chunks.ids.start + size * span.start)
      (head.layout.chunks.ids.start + size * span.start + size * (span.end - span.start)) =
      subst (λ (n : ℕ). Q n (head.layout.chunks.ids.start + size * span.start + size * (span.end - span.start))) starts
      (subst (Q start) stop same) in
      is-bucket file path head.layout (is.layout.each file begins) id bytes span (long ∙ kind) byte (fan file begins) order
      within (subst P (sym long) moved)

  -- the id is not in its bucket
  pub missing-bucket : ((layer : Layer) → IsBucket layer id span.start span.end bytes → Found layer id None)
      → AnswersInLayer known path head id Missing
  missing-bucket nowhere =
      let seen =
      seen-part known path head.front.items head.len start bytes (omega (arith, is.order.ids, starts))
      (omega (arith, ends, is.order.end)) front_seen part-seen in
      answers-in known path id head is Missing seen.0 seen.1 seen.2.begins
      (nowhere (decoded_layer seen.0 path) (bucket seen.0 seen.2.begins seen.2.has))

  -- the id is there, and its record was read
  pub found-commit : (pos : ℕ) → pos < span.end
      → ((layer : Layer) → IsBucket layer id span.start span.end bytes → Found layer id (Some pos))
      → (later more_len : ℕ) → more_len ≡ id_len head.layout.kind + 16
      → later ≡ head.layout.chunks.records.start + more_len * pos
      → (more : List ℕ) → length more ≡ more_len
      → ForSome known (λ (tree : Tree). IsSomeAnd (file_at tree path)
      (λ file. slice_range file later (later + more_len) ≡ more))
      → (commit : FoundCommit) → commit.pos ≡ pos
      → commit.generation ≡ (record_of head.layout.kind more).generation
      → commit.time ≡ (record_of head.layout.kind more).time → AnswersInLayer known path head id (found_at commit)
  found-commit pos below there later more_len is_len is_later more more_sized more_seen commit at generation time =
      let R : ℕ → Type 0 = λ n. ForSome known (λ (tree : Tree). IsSomeAnd (file_at tree path) (λ file.
      slice_range file later (later + n) ≡ more)) in
      let rows : more_len * pos + more_len ≤ more_len * head.layout.commits =
      row more_len pos head.layout.commits (omega arith) in
      let all : more_len * head.layout.commits ≡ (id_len head.layout.kind + 16) * head.layout.commits =
      ap (λ (n : ℕ). n * head.layout.commits) is_len in
      let seen =
      seen-parts known path head.front.items head.len start bytes later more (omega (arith, is.order.ids, starts))
      (omega (arith, ends, is_later)) (omega (arith, is.order.end, rows, all, is_later, more_sized)) front_seen part-seen
      (subst R (sym more_sized) more_seen) in
      let file = seen.0 in
      let begins = seen.2.first.begins in
      let kept = is.layout.each file begins in
      let found : Found (decoded_layer file path) id (Some pos) =
      there (decoded_layer file path) (bucket file begins seen.2.first.has) in
      let F : ℕ → Type 0 = λ n. Found (decoded_layer file path) id (Some n) in
      let here : F commit.pos = subst F (sym at) found in
      let wide = id_len head.layout.kind + 16 in
      let Q : ℕ → ℕ → Type 0 = λ n m. slice_range file n m ≡ more in
      let shift : more_len * pos ≡ wide * commit.pos = ap (λ (n : ℕ). n * pos) is_len ∙ ap (λ (n : ℕ). wide * n) (sym at) in
      let from : later ≡ head.layout.chunks.records.start + wide * commit.pos = omega (arith, is_later, shift) in
      let stop : later + length more ≡ head.layout.chunks.records.start + wide * commit.pos + wide =
      omega (arith, from, more_sized, is_len) in
      let moved : Q (head.layout.chunks.records.start + wide * commit.pos)
      (head.layout.chunks.records.start + wide * commit.pos + wide) =
      subst (λ (n : ℕ). Q n (head.layout.chunks.records.start + wide * commit.pos + wide)) from
      (subst (Q later) stop seen.2.has) in
      answers-in known path id head is (found_at commit) file seen.1 begins (
        here,
        tells-record file path head.layout kept id more commit here moved generation time,
      )

-- Some layer of a head that was read.
pub some-layer : (known : Option Tree) (path : List ℕ) (head : Head) → IsHead head → BeginsAt known path head
    → (layer : Layer) × IsLayerOfHead known path head layer
some-layer known path head is begins =
    let seen = seen-front known path head.front.items head.len is.fits begins in
    (decoded_layer seen.0 path, record { file = seen.0; stands = seen.1.stands; begins = seen.2; decoded = refl })
