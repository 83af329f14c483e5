-- A stream is refused for one reason.
use Rattle.std.proofs.Common.{◌≡◌, ◌≢◌, ℕ, zero, suc, ◌<◌, ◌≤◌, ◌⊎◌, List, [], ◌∷◌, take}
use Rattle.std.proofs.Common.{slice_get, refl, sym}
use Rattle.std.proofs.Common.{ap, ◌∙◌, arith, inl, inr, ⊎_elim, subst, Option, Some, None}
use Rattle.std.specs.Prelude.{IsSomeAnd}
use Rattle.std.proofs.lemmas.Bool.{cases_lt}
use Rattle.hex.specs.Hex.{encode_lower}
use Rattle.graph_format.specs.Layer.{Layer}
use Rattle.graph_format.specs.declared.Position.{Position}
use Rattle.gix_commitgraph.specs.Graph.{graph_commits}
use Rattle.commit_objects.proofs.ParentLemmas.{says_one}
use Rattle.commit_objects.specs.CommitContents.{Said, Says}
use Rattle.object_stream.specs.BatchEntry.{BeginsWithEntry}
use Rattle.object_stream.specs.NextEntry.{IsEntryError}
use Rattle.object_stream.specs.declared.error.EntryError.{EntryError}
use Rattle.object_stream.proofs.OnceLemmas.{entry_error_once, entry_not_refused}
use Rattle.object_stream.specs.declared.object_type.ObjectType.TheVariants as object
use Rattle.graph_objects.specs.Matching.{AreContents, MatchesAt, recorded_parents, each_known}
use Rattle.graph_objects.specs.Mismatches.{Mismatches, MismatchesAt, IsAmiss, DifferFirstAt}
use Rattle.graph_objects.specs.Stream.{graph_id_at, IsStreamUpTo, IsEntryErrorAt, IsMismatchIn, IsStreamRefusal}
use Rattle.graph_objects.specs.declared.Mismatch.{Mismatch as Difference}
use Rattle.graph_objects.specs.declared.Mismatch.TheVariants.{OtherContents, Unreadable, Tree, Parent, Time}
use Rattle.graph_objects.specs.declared.error.ObjectsError.{ObjectsError}
use Rattle.graph_objects.specs.declared.error.ObjectsError.TheVariants.{Entry, Mismatch, LeftOver, Device, OutOfMemory}
use Rattle.graph_objects.proofs.DigestLemmas.{contents_there}
use Rattle.graph_objects.proofs.RightStreamLemmas.{entry_once_at, entry_there, not_mismatched, not_refused, same_next}

-- lists that agree up to a place agree before it
agree_before : {A : Type 0} (xs ys : List A) (i j : ℕ) → i < j → take j xs ≡ take j ys → slice_get xs i ≡ slice_get ys i
agree_before xs ys i j less same =
    sym (slice_get-take xs i j less) ∙ ap (λ l. slice_get l i) same ∙ slice_get-take ys i j less
  where
    slice_get-take : {A : Type 0} (xs : List A) (i j : ℕ) → i < j → slice_get (take j xs) i ≡ slice_get xs i
    slice_get-take xs i zero less = absurd (omega (arith, less))
    slice_get-take [] i (suc j) less = refl
    slice_get-take (x ∷ xs) zero (suc j) less = refl
    slice_get-take (x ∷ xs) (suc i) (suc j) less = slice_get-take xs i j (omega (arith, less))

differ_once : {A : Type 0} (xs ys : List A) (i j : ℕ) → DifferFirstAt xs ys i → DifferFirstAt xs ys j → i ≡ j
differ_once xs ys i j one two = ⊎_elim
    (λ (less : i < j). absurd (one.1 (agree_before xs ys i j less two.0)))
    (λ (more : j ≤ i). ⊎_elim
    (λ (less : j < i). absurd (two.1 (agree_before xs ys j i less one.0)))
    (λ (same : i ≤ j). omega (arith, more, same))
    (cases_lt j i))
    (cases_lt i j)

-- a commit differs from what bytes say in one thing first
amiss_once : (layers : List Layer) (layer : Layer) (pos : ℕ) (said : Said) (m n : Difference) → IsAmiss layers layer pos said m
    → IsAmiss layers layer pos said n → m ≡ n
amiss_once layers layer pos said Tree Tree one two = refl
amiss_once layers layer pos said Tree (Parent j) one two = absurd (one two.0)
amiss_once layers layer pos said Tree Time one two = absurd (one two.0)
amiss_once layers layer pos said (Parent i) Tree one two = absurd (two one.0)
amiss_once layers layer pos said (Parent i) (Parent j) one two =
    ap (λ k. Parent k) (differ_once (recorded_parents layers layer pos) (each_known said.parents) i j one.1 two.1)
amiss_once layers layer pos said (Parent i) Time one two = absurd (one.1.1 (ap (λ l. slice_get l i) two.1))
amiss_once layers layer pos said Time Tree one two = absurd (two one.0)
amiss_once layers layer pos said Time (Parent j) one two = absurd (two.1.1 (ap (λ l. slice_get l j) one.1))
amiss_once layers layer pos said Time Time one two = refl
amiss_once layers layer pos said OtherContents n one two = absurd one
amiss_once layers layer pos said Unreadable n one two = absurd one
amiss_once layers layer pos said m OtherContents one two = absurd two
amiss_once layers layer pos said m Unreadable one two = absurd two

-- a difference from what the bytes say, whichever reading of them
abbrev Differs : List Layer → Layer → ℕ → List ℕ → Difference → Type 0
Differs layers layer pos bytes m =
    AreContents layer pos bytes × ((said : Said) × Says layer.kind bytes said × IsAmiss layers layer pos said m)

differs_once : (layers : List Layer) (layer : Layer) (pos : ℕ) (bytes : List ℕ) (m n : Difference)
    → Differs layers layer pos bytes m
    → Differs layers layer pos bytes n → m ≡ n
differs_once layers layer pos bytes m n one two =
    let same = says_one layer.kind bytes two.1.0 one.1.0 two.1.1 one.1.1 in
    amiss_once layers layer pos one.1.0 m n one.1.2 (subst (λ (s : Said). IsAmiss layers layer pos s n) same two.1.2)

mismatch_once : (layers : List Layer) (layer : Layer) (pos : ℕ) (bytes : List ℕ) (m n : Difference)
    → Mismatches layers layer pos bytes m
    → Mismatches layers layer pos bytes n → m ≡ n
mismatch_once layers layer pos bytes OtherContents OtherContents one two = refl
mismatch_once layers layer pos bytes OtherContents Unreadable one two = absurd (one two.0)
mismatch_once layers layer pos bytes OtherContents Tree one two = absurd (one two.0)
mismatch_once layers layer pos bytes OtherContents (Parent j) one two = absurd (one two.0)
mismatch_once layers layer pos bytes OtherContents Time one two = absurd (one two.0)
mismatch_once layers layer pos bytes Unreadable OtherContents one two = absurd (two one.0)
mismatch_once layers layer pos bytes Unreadable Unreadable one two = refl
mismatch_once layers layer pos bytes Unreadable Tree one two = absurd (one.1 two.1.0 two.1.1)
mismatch_once layers layer pos bytes Unreadable (Parent j) one two = absurd (one.1 two.1.0 two.1.1)
mismatch_once layers layer pos bytes Unreadable Time one two = absurd (one.1 two.1.0 two.1.1)
mismatch_once layers layer pos bytes Tree OtherContents one two = absurd (two one.0)
mismatch_once layers layer pos bytes Tree Unreadable one two = absurd (two.1 one.1.0 one.1.1)
mismatch_once layers layer pos bytes (Parent i) OtherContents one two = absurd (two one.0)
mismatch_once layers layer pos bytes (Parent i) Unreadable one two = absurd (two.1 one.1.0 one.1.1)
mismatch_once layers layer pos bytes Time OtherContents one two = absurd (two one.0)
mismatch_once layers layer pos bytes Time Unreadable one two = absurd (two.1 one.1.0 one.1.1)
mismatch_once layers layer pos bytes Tree Tree one two = refl
mismatch_once layers layer pos bytes Tree (Parent j) one two = differs_once layers layer pos bytes Tree (Parent j) one two
mismatch_once layers layer pos bytes Tree Time one two = differs_once layers layer pos bytes Tree Time one two
mismatch_once layers layer pos bytes (Parent i) Tree one two = differs_once layers layer pos bytes (Parent i) Tree one two
mismatch_once layers layer pos bytes (Parent i) (Parent j) one two = differs_once layers layer pos bytes (Parent i) (Parent j)
    one two
mismatch_once layers layer pos bytes (Parent i) Time one two = differs_once layers layer pos bytes (Parent i) Time one two
mismatch_once layers layer pos bytes Time Tree one two = differs_once layers layer pos bytes Time Tree one two
mismatch_once layers layer pos bytes Time (Parent j) one two = differs_once layers layer pos bytes Time (Parent j) one two
mismatch_once layers layer pos bytes Time Time one two = refl

pub mismatch_at_once : (layers : List Layer) (p : ℕ) (bytes : List ℕ) (m n : Difference) → MismatchesAt layers p bytes m
    → MismatchesAt layers p bytes n → m ≡ n
mismatch_at_once layers p bytes m n = by (slice_get (graph_commits layers) p)
  where
    by : (o : Option (Layer × ℕ)) → IsSomeAnd o (λ place. Mismatches layers place.0 place.1 bytes m)
        → IsSomeAnd o (λ place. Mismatches layers place.0 place.1 bytes n) → m ≡ n
    by None one two = absurd one
    by (Some place) one two = mismatch_once layers place.0 place.1 bytes m n one two

-- why the entry of a position is refused, whether it is there or does not match
abbrev IsStop : List Layer → Position → List ℕ → ObjectsError → Type 0
IsStop layers pos bytes (Entry other error) = (other ≡ pos) × IsEntryErrorAt layers pos.0 bytes error
IsStop layers pos bytes (Mismatch other m) = (other ≡ pos) × IsMismatchIn layers pos.0 bytes m
IsStop layers pos bytes error = ⊥

-- the entry is refused for one reason
entry_once_refused : (layers : List Layer) (p : ℕ) (bytes : List ℕ) (e f : EntryError) → IsEntryErrorAt layers p bytes e
    → IsEntryErrorAt layers p bytes f → e ≡ f
entry_once_refused layers p bytes e f = by (slice_get (graph_commits layers) p)
  where
    by : (o : Option (Layer × ℕ))
        → IsSomeAnd o (λ place. IsEntryError place.0.kind object.Commit (Some (graph_id_at layers p)) bytes e)
        → IsSomeAnd o (λ place. IsEntryError place.0.kind object.Commit (Some (graph_id_at layers p)) bytes f) → e ≡ f
    by None one two = absurd one
    by (Some place) one two = entry_error_once place.0.kind object.Commit (Some (graph_id_at layers p)) bytes e f one two

-- what does not match is there
there_or_not : (layers : List Layer) (p : ℕ) (bytes : List ℕ) (e : EntryError) (m : Difference) → IsMismatchIn layers p bytes m
    → ¬ (IsEntryErrorAt layers p bytes e)
there_or_not layers p bytes e m differs refused =
    let a = contents_there layers p differs.0 differs.3 in
    let kind = a.0.kind in
    let here : IsEntryError kind object.Commit (Some (graph_id_at layers p)) bytes e = rw a.2 at refused in
    entry_not_refused kind object.Commit (Some (graph_id_at layers p)) bytes differs.0 differs.1 (rw a.3 at differs.2)
    (ap encode_lower (sym a.3)) e here

stop_once : (layers : List Layer) (pos : Position) (bytes : List ℕ) (e f : ObjectsError) → IsStop layers pos bytes e
    → IsStop layers pos bytes f → e ≡ f
stop_once layers pos bytes (Entry p e) (Entry q f) one two =
    ap (λ x. Entry x e) (one.0 ∙ sym two.0) ∙ ap (λ x. Entry q x) (entry_once_refused layers pos.0 bytes e f one.1 two.1)
stop_once layers pos bytes (Entry p e) (Mismatch q n) one two = absurd (there_or_not layers pos.0 bytes e n two.1 one.1)
stop_once layers pos bytes (Mismatch p m) (Entry q f) one two = absurd (there_or_not layers pos.0 bytes f m one.1 two.1)
stop_once layers pos bytes (Mismatch p m) (Mismatch q n) one two =
    let a = one.1 in
    let b = two.1 in
    let same = entry_once_at layers pos.0 bytes b.0 a.0 b.1 a.1 b.2 a.2 b.3 a.3 in
    ap (λ x. Mismatch x m) (one.0 ∙ sym two.0)
    ∙ ap (λ x. Mismatch q x)
    (mismatch_at_once layers pos.0 a.0 m n a.4 (subst (λ c. MismatchesAt layers pos.0 c n) same.0 b.4))
stop_once layers pos bytes LeftOver f one two = absurd one
stop_once layers pos bytes Device f one two = absurd one
stop_once layers pos bytes OutOfMemory f one two = absurd one
stop_once layers pos bytes e LeftOver one two = absurd two
stop_once layers pos bytes e Device one two = absurd two
stop_once layers pos bytes e OutOfMemory one two = absurd two

-- an entry that matches is not refused
not_stopped : (layers : List Layer) (pos : Position) (bytes contents next : List ℕ) (e : ObjectsError)
    → BeginsWithEntry object.Commit (graph_id_at layers pos.0) bytes contents next → MatchesAt layers pos.0 contents
    → ¬ (IsStop layers pos bytes e)
not_stopped layers pos bytes contents next (Entry p e) entry matches stop =
    not_refused layers pos.0 bytes contents next entry matches e stop.1
not_stopped layers pos bytes contents next (Mismatch p m) entry matches stop =
    not_mismatched layers pos.0 bytes contents next entry matches m stop.1
not_stopped layers pos bytes contents next LeftOver entry matches stop = stop
not_stopped layers pos bytes contents next Device entry matches stop = stop
not_stopped layers pos bytes contents next OutOfMemory entry matches stop = stop

module _ (layers : List Layer) (first end : ℕ) (bytes : List ℕ) where
  -- a stream is refused at an entry, or behind the last one
  abbrev StopsAt : ObjectsError → Type 0
  StopsAt e = (pos : Position) × (next : List ℕ) × (pos.0 < end) × IsStreamUpTo layers first pos.0 bytes next
      × IsStop layers pos next e

  abbrev HasMoreLeft : ObjectsError → Type 0
  HasMoreLeft e = (e ≡ LeftOver) × ((next : List ℕ) × IsStreamUpTo layers first end bytes next × (next ≢ []))

  where_refused : (e : ObjectsError) → IsStreamRefusal layers first end bytes e → StopsAt e ⊎ HasMoreLeft e
  where_refused (Entry pos e) refused = inl (pos, refused.0, refused.1, refused.2, (refl, refused.3))
  where_refused (Mismatch pos m) refused = inl (pos, refused.0, refused.1, refused.2, (refl, refused.3))
  where_refused LeftOver refused = inr (refl, refused)
  where_refused Device refused = absurd refused
  where_refused OutOfMemory refused = absurd refused

  -- more entries match than before the one that is refused
  too_far : (e : ObjectsError) (at : StopsAt e) (q : ℕ) (last : List ℕ) → IsStreamUpTo layers first q bytes last → ¬ (at.0.0 < q)
  too_far e at q last passed less =
      let there = entry_there layers first at.0.0 q bytes at.1 last at.3 passed less in
      not_stopped layers at.0 at.1 there.0 there.1 e there.2 there.3 at.4

  both_stop : (e f : ObjectsError) → StopsAt e → StopsAt f → e ≡ f
  both_stop e f one two = ⊎_elim
      (λ (less : one.0.0 < two.0.0). absurd (too_far e one two.0.0 two.1 two.3 less))
      (λ (more : two.0.0 ≤ one.0.0). ⊎_elim
      (λ (less : two.0.0 < one.0.0). absurd (too_far f two one.0.0 one.1 one.3 less))
      (λ (least : one.0.0 ≤ two.0.0).
      let same : two.0.0 ≡ one.0.0 = omega (arith, more, least) in
      let made : ℕ → Position = λ n. record { 0 = n } in
      let here : two.0 ≡ one.0 = ap made same in
      let passed : IsStreamUpTo layers first one.0.0 bytes two.1 = rw same at two.3 in
      let next = same_next layers first one.0.0 bytes one.1 two.1 one.3 passed in
      let stop : IsStop layers one.0 one.1 f =
      subst (λ l. IsStop layers one.0 l f) (sym next) (subst (λ k. IsStop layers k two.1 f) here two.4) in
      stop_once layers one.0 one.1 e f one.4 stop)
      (cases_lt two.0.0 one.0.0))
      (cases_lt one.0.0 two.0.0)

  pub stream_refused_once : (e f : ObjectsError) → IsStreamRefusal layers first end bytes e
      → IsStreamRefusal layers first end bytes f → e ≡ f
  stream_refused_once e f one two = ⊎_elim
      (λ (a : StopsAt e). ⊎_elim
      (λ (b : StopsAt f). both_stop e f a b)
      (λ (b : HasMoreLeft f). absurd (too_far e a end b.1.0 b.1.1 a.2))
      (where_refused f two))
      (λ (a : HasMoreLeft e). ⊎_elim
      (λ (b : StopsAt f). absurd (too_far f b end a.1.0 a.1.1 b.2))
      (λ (b : HasMoreLeft f). a.0 ∙ sym b.0)
      (where_refused f two))
      (where_refused e one)
