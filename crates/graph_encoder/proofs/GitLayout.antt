-- A file in Git's layout is that of each plan that its layer says.
use Rattle.std.proofs.Common.{◌≡◌, ℕ, suc, ◌+◌, ◌*◌, ◌<◌, ◌≤◌, List, [], ◌∷◌, ◌++◌, map, length, take, drop, get_or, slice_get}
use Rattle.std.proofs.Common.{slice_range, All, IsSomeAnd, IfSome, MatchOption, Option, Some, None, option_map, refl, sym, ap}
use Rattle.std.proofs.Common.{◌∙◌}
use Rattle.std.proofs.Common.{subst, arith, length-append}
use Rattle.std.specs.Prelude.{codes}
use Rattle.std.specs.List.{flat_map}
use Rattle.std.proofs.lemmas.List.{append_cancel_right, get_or_default, length-map, same_lists, take-append-drop}
use Rattle.std.proofs.lemmas.List.FromFn.{length-map-range_with_len}
use Rattle.std.proofs.lemmas.Option.{none-some, same_Some, slice_get-get_or, slice_get-map, slice_get_within}
use Rattle.gix_hash_core.specs.Digest.{digest_of}
use Rattle.gix_hash_core.specs.Kind.{id_len}
use Rattle.gix_hash_core.specs.declared.kind.Kind.{Kind}
use Rattle.graph_format.specs.Format.{Record, chunk_of, chunk_range_of, pieces, record_len, record_of, table_of, words}
use Rattle.graph_format.specs.Format.{fan_id, ids_id, records_id, edges_id, bases_id}
use Rattle.graph_format.specs.Layer.{Layer, IsLayer, bytes_of}
use Rattle.graph_format.specs.Parents.{DecodedParents, parents_of}
use Rattle.graph_format.specs.declared.Position.{Position}
use Rattle.graph_format.proofs.PieceLemmas.{length-pieces_of}
use Rattle.graph_encoder.specs.Chunks.{NamedChunk, PossibleChunk, those_there, unless_empty, with_chunks}
use Rattle.graph_encoder.specs.ExtraEdges.{all_extra_words, extra_words, top_bit}
use Rattle.graph_encoder.specs.GitLayout.{HasWords, IsInGitLayout, chunks_in_order}
use Rattle.graph_encoder.specs.Said.{SaysPlan, SaysCommit}
use Rattle.graph_encoder.specs.Written.{exact_fan, header, ids_bytes, ids_of, ids_up_to, planned_body, planned_chunks}
use Rattle.graph_encoder.specs.Written.{planned_file, record_bytes, records_from, words_bytes}
use Rattle.graph_encoder.specs.declared.plan.FilePlan.{FilePlan}
use Rattle.graph_encoder.specs.declared.plan.PlanCommit.{PlanCommit}
use Rattle.graph_encoder.proofs.BuiltFan.{exact_fan-at}
use Rattle.graph_encoder.proofs.PlannedChunks.{id-whole}
use Rattle.graph_encoder.proofs.PlannedRecords.{kind-whole}
use Rattle.graph_encoder.proofs.RawBytes.{AreBytes, part-bytes, pieces-again, pieces-bytes, pieces-sized, record-again}
use Rattle.graph_encoder.proofs.RawBytes.{words-again}
use Rattle.graph_encoder.proofs.RawParents.{fields-said}

pub some-and : {X : Type 0} (o : Option X) (P : X → Type 0) → IsSomeAnd o P → (x : X) × (o ≡ Some x) × P x
some-and None P h = absurd h
some-and (Some x) P h = (x, refl, h)

pub there : {X : Type 0} (xs : List X) (p : ℕ) → p < length xs → (x : X) × (slice_get xs p ≡ Some x)
there [] p lt = absurd (omega (arith, lt))
there (x ∷ xs) p lt = (get_or (x ∷ xs) p x, slice_get-get_or (x ∷ xs) p x lt)

unless-some : (bytes : List ℕ) → 0 < length bytes → unless_empty bytes ≡ Some bytes
unless-some [] some = absurd (omega (arith, some))
unless-some (byte ∷ bytes) some = refl

length-fan : (ids : List (List ℕ)) → length (exact_fan ids) ≡ 256
unfolding exact_fan
length-fan ids = length-map-range_with_len (λ byte. ids_up_to byte ids) 0 256

length-words : (bytes : List ℕ) (n : ℕ) → length bytes ≡ 4 * n → length (words bytes) ≡ n
unfolding words
length-words bytes n long = length-map (pieces 4 bytes) _ ∙ length-pieces_of 4 n bytes (omega arith) long

zero-first : (n : ℕ) → 0 + n ≡ n
zero-first n = omega arith

no-words : (ws : List ℕ) → ws ≡ [] → None ≡ unless_empty (words_bytes ws)
unfolding words_bytes
no-words ws none = sym (ap (λ (xs : List ℕ). unless_empty (words_bytes xs)) none)

-- records, one after another, from pieces
records-again : (index : ℕ) (commits : List PlanCommit) (ps : List (List ℕ)) → length ps ≡ length commits
    → ((i : ℕ) (c : PlanCommit) (piece : List ℕ) → slice_get commits i ≡ Some c → slice_get ps i ≡ Some piece
    → record_bytes (index + length (all_extra_words (take i commits))) c ≡ piece)
    → records_from index commits ≡ flat_map (λ piece. piece) ps
unfolding all_extra_words
records-again index [] [] size each = refl
records-again index [] (p ∷ ps) size each = absurd (omega (arith, size))
records-again index (c ∷ commits) [] size each = absurd (omega (arith, size))
records-again index (c ∷ commits) (p ∷ ps) size each =
    let start : index ≡ index + 0 = omega arith in
    ap (λ (bytes : List ℕ). bytes ++ records_from (index + length (extra_words c.parents.items)) commits)
    (ap (λ (n : ℕ). record_bytes n c) start ∙ each 0 c p refl refl)
    ∙ ap (λ (bytes : List ℕ). p ++ bytes)
    (records-again (index + length (extra_words c.parents.items)) commits ps (omega (arith, size))
    (λ i d piece here at.
    let sum : index + length (extra_words c.parents.items) + length (all_extra_words (take i commits))
    ≡ index + length (extra_words c.parents.items ++ all_extra_words (take i commits)) =
    omega (arith, length-append (extra_words c.parents.items) (all_extra_words (take i commits))) in
    ap (λ (n : ℕ). record_bytes n d) sum ∙ each (suc i) d piece here at))

-- the nine chunks, by what stands in them
abbrev nine : Option (List ℕ) → Option (List ℕ) → Option (List ℕ) → Option (List ℕ) → Option (List ℕ) → Option (List ℕ)
    → Option (List ℕ) → Option (List ℕ) → Option (List ℕ) → List PossibleChunk
nine fan ids records offsets overflow edges index body bases =
    record { id = fan_id; bytes = fan }
    ∷ record { id = ids_id; bytes = ids }
    ∷ record { id = records_id; bytes = records }
    ∷ record { id = codes "GDA2"; bytes = offsets }
    ∷ record { id = codes "GDO2"; bytes = overflow }
    ∷ record { id = edges_id; bytes = edges }
    ∷ record { id = codes "BIDX"; bytes = index }
    ∷ record { id = codes "BDAT"; bytes = body }
    ∷ record { id = bases_id; bytes = bases }
    ∷ []

pub same-nine : (a b c d e f g h k : Option (List ℕ)) (l m n o p q r s t : Option (List ℕ)) → a ≡ l → b ≡ m → c ≡ n → d ≡ o
    → e ≡ p → f ≡ q → g ≡ r → h ≡ s → k ≡ t → nine a b c d e f g h k ≡ nine l m n o p q r s t
same-nine a b c d e f g h k l m n o p q r s t e1 e2 e3 e4 e5 e6 e7 e8 e9 = rw (e1, e2, e3, e4, e5, e6, e7, e8, e9) refl

module _ (file path : List ℕ) (layer : Layer) (plan : FilePlan) (is : IsLayer file path layer)
    (layout : IsInGitLayout file layer) (says : SaysPlan plan layer) where
  whole : file ≡ bytes_of layer
  whole =
      sym (take-append-drop (table_of file).end file)
      ∙ ap (λ (front : List ℕ). front ++ drop (table_of file).end file) (sym is.body)
      ∙ ap (λ (rest : List ℕ). layer.body ++ rest) (sym is.checksum)

  chunk-bytes : (id chunk : List ℕ) → chunk_of file id ≡ Some chunk → AreBytes chunk
  unfolding chunk_of
  chunk-bytes id chunk here = by-place (chunk_range_of file id) here
    where
      by-place : (o : Option (ℕ × ℕ)) → option_map (λ place. slice_range file place.0 place.1) o ≡ Some chunk → AreBytes chunk
      by-place None at = absurd (none-some chunk at)
      by-place (Some place) at =
          subst AreBytes (same_Some _ chunk at) (part-bytes file place.0 place.1 layout.bytes)

  fan-said : length layer.fan ≡ 256 → layer.fan ≡ exact_fan (ids_of plan.commits.items)
  fan-said size =
      same_lists layer.fan (exact_fan (ids_of plan.commits.items)) (size ∙ sym (length-fan (ids_of plan.commits.items)))
      (λ b d lt.
      let within : b < 256 = omega (arith, lt, size) in
      get_or_default layer.fan b d 0 lt
      ∙ says.fan b within
      ∙ ap (ids_up_to b) says.ids
      ∙ sym (exact_fan-at (ids_of plan.commits.items) b within)
      ∙ get_or_default (exact_fan (ids_of plan.commits.items)) b 0 d
      (omega (arith, within, length-fan (ids_of plan.commits.items))))

  fan-there : chunk_of file fan_id ≡ Some (words_bytes (exact_fan (ids_of plan.commits.items)))
  fan-there =
      let found = some-and _ _ is.fan in
      let long : length found.0 ≡ 4 * 256 = omega (arith, found.2.0) in
      let size : length layer.fan ≡ 256 = ap length found.2.1 ∙ length-words found.0 256 long in
      found.1
      ∙ ap (λ (chunk : List ℕ). Some chunk)
      (sym (words-again found.0 256 long (chunk-bytes fan_id found.0 found.1))
      ∙ ap words_bytes (sym found.2.1 ∙ fan-said size))

  ids-there : chunk_of file ids_id ≡ Some (ids_bytes (ids_of plan.commits.items))
  unfolding ids_bytes
  ids-there =
      let found = some-and _ _ is.ids in
      found.1
      ∙ ap (λ (chunk : List ℕ). Some chunk)
      (sym (pieces-again (id_len layer.kind) _ found.0 (id-whole layer.kind) found.2.0)
      ∙ ap (flat_map (λ (id : List ℕ). id)) (sym found.2.1 ∙ says.ids))

  -- the record of a commit is what was planned of it
  record-there : (chunk : List ℕ) (are : AreBytes chunk)
      → layer.records ≡ map (record_of layer.kind) (pieces (record_len layer.kind) chunk) → (i : ℕ) (c : PlanCommit)
      (piece : List ℕ) → slice_get plan.commits.items i ≡ Some c
      → slice_get (pieces (record_len layer.kind) chunk) i ≡ Some piece
      → record_bytes (length (all_extra_words (take i plan.commits.items))) c ≡ piece
  record-there chunk are recorded i c piece here at =
      let found = some-and _ _ (says.commits i c here) in
      let read : slice_get layer.records i ≡ Some (record_of layer.kind piece) =
      ap (λ (rs : List Record). slice_get rs i) recorded
      ∙ slice_get-map (record_of layer.kind) (pieces (record_len layer.kind) chunk) i
      ∙ ap (option_map (record_of layer.kind)) at in
      let said : SaysCommit layer.edges (length (all_extra_words (take i plan.commits.items))) c (record_of layer.kind piece) =
      subst (SaysCommit layer.edges (length (all_extra_words (take i plan.commits.items))) c)
      (same_Some found.0 (record_of layer.kind piece) (sym found.1 ∙ read)) found.2 in
      let count : length (parents_of (record_of layer.kind piece) layer.edges).positions ≡ length c.parents.items =
      ap (λ (d : DecodedParents). length d.positions) said.parents
      ∙ length-map c.parents.items (λ (p : ℕ). let pos : Position = record { 0 = p } in pos) in
      let direct = all-there layer.records i (record_of layer.kind piece) layout.direct read in
      let fields =
      fields-said (record_of layer.kind piece).parent1 (record_of layer.kind piece).parent2
      (length (all_extra_words (take i plan.commits.items))) layer.edges c.parents.items said.parents said.extra
      (λ few. direct (omega (arith, few, count))) in
      record-again layer.kind piece
      (piece-at (λ p. length p ≡ record_len layer.kind) (pieces (record_len layer.kind) chunk) i piece
      (pieces-sized (record_len layer.kind) chunk (kind-whole layer.kind)) at)
      (piece-at AreBytes (pieces (record_len layer.kind) chunk) i piece
      (pieces-bytes (record_len layer.kind) chunk (kind-whole layer.kind) are) at)
      (length (all_extra_words (take i plan.commits.items))) c said.tree fields.0 fields.1 said.generation said.time
    where
      piece-at : (P : List ℕ → Type 0) (xs : List (List ℕ)) (k : ℕ) (x : List ℕ) → All P xs → slice_get xs k ≡ Some x → P x
      piece-at P xs k x all e =
          subst P (same_Some _ x (sym (slice_get-get_or xs k x (slice_get_within xs k x e)) ∙ e))
          (all k x (slice_get_within xs k x e))

      all-there : (rs : List Record) (k : ℕ) (x : Record)
          → All (λ r. length (parents_of r layer.edges).positions ≤ 2 → r.parent2 < top_bit) rs → slice_get rs k ≡ Some x
          → length (parents_of x layer.edges).positions ≤ 2 → x.parent2 < top_bit
      all-there rs k x all e =
          subst (λ (r : Record). length (parents_of r layer.edges).positions ≤ 2 → r.parent2 < top_bit)
          (same_Some _ x (sym (slice_get-get_or rs k x (slice_get_within rs k x e)) ∙ e)) (all k x (slice_get_within rs k x e))

  records-there : chunk_of file records_id ≡ Some (records_from 0 plan.commits.items)
  records-there =
      let found = some-and _ _ is.records in
      let size : length (pieces (record_len layer.kind) found.0) ≡ length plan.commits.items =
      sym (length-map (pieces (record_len layer.kind) found.0) (record_of layer.kind))
      ∙ ap length (sym found.2.1)
      ∙ says.count in
      found.1
      ∙ ap (λ (chunk : List ℕ). Some chunk)
      (sym (pieces-again (record_len layer.kind) _ found.0 (kind-whole layer.kind) found.2.0)
      ∙ sym (records-again 0 plan.commits.items (pieces (record_len layer.kind) found.0) size
      (λ i c piece here at.
      ap (λ (n : ℕ). record_bytes n c) (zero-first (length (all_extra_words (take i plan.commits.items))))
      ∙ record-there found.0 (chunk-bytes records_id found.0 found.1) found.2.1 i c piece here at)))

  edges-there : chunk_of file edges_id ≡ unless_empty (words_bytes (all_extra_words plan.commits.items))
  edges-there =
      by-chunk (chunk_of file edges_id)
      (subst (λ (o : Option (List ℕ)). MatchOption o (all_extra_words plan.commits.items ≡ [])
      (λ chunk. words chunk ≡ all_extra_words plan.commits.items)) is.edges says.edges)
      layout.edges (chunk-bytes edges_id)
    where
      by-chunk : (o : Option (List ℕ)) → MatchOption o (all_extra_words plan.commits.items ≡ [])
          (λ chunk. words chunk ≡ all_extra_words plan.commits.items) → IfSome o HasWords
          → ((chunk : List ℕ) → o ≡ Some chunk → AreBytes chunk)
          → o ≡ unless_empty (words_bytes (all_extra_words plan.commits.items))
      by-chunk None said some are = no-words (all_extra_words plan.commits.items) said
      by-chunk (Some chunk) said some are =
          let same : words_bytes (all_extra_words plan.commits.items) ≡ chunk =
          ap words_bytes (sym said) ∙ words-again chunk some.count some.whole (are chunk refl) in
          sym (ap unless_empty same ∙ unless-some chunk some.some)

  bases-there : chunk_of file bases_id ≡ unless_empty (ids_bytes plan.bases.items)
  unfolding ids_bytes
  bases-there = by-chunk _ (chunk_of file bases_id) is.bases layout.bases
    where
      by-chunk : (n : ℕ) (o : Option (List ℕ)) → MatchOption o ((n ≡ 0) × (layer.bases ≡ []))
          (λ chunk. (length chunk ≡ id_len layer.kind * n) × (layer.bases ≡ pieces (id_len layer.kind) chunk))
          → IfSome o (λ chunk. 0 < length chunk)
          → o ≡ unless_empty (flat_map (λ (id : List ℕ). id) plan.bases.items)
      by-chunk n None said some =
          ap (λ (ids : List (List ℕ)). unless_empty (flat_map (λ (id : List ℕ). id) ids)) (sym said.1 ∙ says.bases)
      by-chunk n (Some chunk) said some =
          let same : flat_map (λ (id : List ℕ). id) plan.bases.items ≡ chunk =
          ap (flat_map (λ (id : List ℕ). id)) (sym says.bases ∙ said.1)
          ∙ pieces-again (id_len layer.kind) n chunk (id-whole layer.kind) said.0 in
          sym (ap unless_empty same ∙ unless-some chunk some)

  same-chunks : chunks_in_order file ≡ planned_chunks plan
  same-chunks =
      ap those_there
      (same-nine _ _ _ _ _ _ _ _ _ _ _ _ _ _ _ _ _ _ fan-there ids-there records-there
      (ap (λ (bytes : List ℕ). chunk_of bytes (codes "GDA2")) whole ∙ says.offsets)
      (ap (λ (bytes : List ℕ). chunk_of bytes (codes "GDO2")) whole ∙ says.overflow) edges-there
      (ap (λ (bytes : List ℕ). chunk_of bytes (codes "BIDX")) whole ∙ says.index)
      (ap (λ (bytes : List ℕ). chunk_of bytes (codes "BDAT")) whole ∙ says.filters) bases-there)

  abbrev front : List ℕ
  front = with_chunks (header layer.kind (length (chunks_in_order file)) (length layer.bases)) (chunks_in_order file)

  same-front : front ≡ planned_body plan
  unfolding planned_body
  same-front =
      ap (λ (cs : List NamedChunk). with_chunks (header layer.kind (length cs) (length layer.bases)) cs) same-chunks
      ∙ ap (λ (k : Kind). with_chunks (header k (length (planned_chunks plan)) (length layer.bases)) (planned_chunks plan))
      says.kind
      ∙ ap (λ (bs : List (List ℕ)).
      with_chunks (header plan.kind (length (planned_chunks plan)) (length bs)) (planned_chunks plan)) says.bases

  pub laid-again : file ≡ planned_file plan
  unfolding planned_file
  laid-again =
      let body : layer.body ≡ front = append_cancel_right layer.body front layer.checksum (sym whole ∙ layout.laid) in
      layout.laid
      ∙ ap (λ (bytes : List ℕ). bytes ++ layer.checksum) same-front
      ∙ ap (λ (bytes : List ℕ). planned_body plan ++ bytes)
      (says.checksum ∙ ap (digest_of plan.kind) (body ∙ same-front))
