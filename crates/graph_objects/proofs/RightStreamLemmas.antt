-- No refusal holds of a stream that is right.
use Rattle.std.proofs.Common.{◌≡◌, ℕ, ◌+◌, ◌<◌, ◌≤◌, List, [], ◌∷◌, ◌++◌, length, refl, sym, ap, ◌∙◌}
use Rattle.std.proofs.Common.{arith, append_assoc, append-nil, subst, Some}
use Rattle.std.proofs.lemmas.List.{length-append, nil_from_length}
use Rattle.std.proofs.lemmas.Option.{same_Some}
use Rattle.hex.specs.Hex.{encode_lower}
use Rattle.graph_format.specs.Layer.{Layer}
use Rattle.commit_objects.specs.Object.{object_id_of}
use Rattle.object_stream.specs.BatchEntry.{object_entry, BeginsWithEntry}
use Rattle.object_stream.specs.NextEntry.{IsEntryError}
use Rattle.object_stream.specs.declared.error.EntryError.{EntryError}
use Rattle.object_stream.proofs.OnceLemmas.{entry_not_refused, entry_once}
use Rattle.object_stream.specs.declared.object_type.ObjectType.TheVariants as object
use Rattle.graph_objects.specs.Matching.{AreContentsAt, MatchesAt}
use Rattle.graph_objects.specs.Stream.{graph_id_at, entries_of, AllMatch, IsStreamUpTo, IsStreamOf, IsEntryErrorAt, IsMismatchIn}
use Rattle.graph_objects.specs.Stream.{IsStreamRefusal}
use Rattle.graph_objects.specs.declared.Mismatch.{Mismatch as Difference}
use Rattle.graph_objects.specs.declared.error.ObjectsError.{ObjectsError}
use Rattle.graph_objects.specs.declared.error.ObjectsError.TheVariants.{Entry, Mismatch, LeftOver, Device, OutOfMemory}
use Rattle.graph_objects.proofs.DigestLemmas.{contents_there, matched_contents}
use Rattle.graph_objects.proofs.MatchLemmas.{excluded}

-- an entry at the front is one, where the id at the position is that of its contents
pub entry_once_at : (layers : List Layer) (p : ℕ) (bytes contents other next end : List ℕ)
    → BeginsWithEntry object.Commit (graph_id_at layers p) bytes contents next
    → BeginsWithEntry object.Commit (graph_id_at layers p) bytes other end
    → AreContentsAt layers p contents → AreContentsAt layers p other → (contents ≡ other) × (next ≡ end)
entry_once_at layers p bytes contents other next end one two own its =
    let a = contents_there layers p contents own in
    let b = contents_there layers p other its in
    let same : b.0 ≡ a.0 = ap (λ (place : Layer × ℕ). place.0) (same_Some _ _ (sym b.2 ∙ a.2)) in
    let kind = a.0.kind in
    let second : graph_id_at layers p ≡ object_id_of kind other =
    b.3 ∙ ap (λ (l : Layer). object_id_of l.kind other) same in
    entry_once kind object.Commit bytes contents other next end (rw a.3 at one) (rw second at two)

-- an entry that matches is not refused
module _ (layers : List Layer) (p : ℕ) (bytes contents next : List ℕ)
    (entry : BeginsWithEntry object.Commit (graph_id_at layers p) bytes contents next)
    (matches : MatchesAt layers p contents) where
  pub not_refused : (e : EntryError) → ¬ (IsEntryErrorAt layers p bytes e)
  not_refused e refused =
      let a = contents_there layers p contents (matched_contents layers p contents matches) in
      let kind = a.0.kind in
      let here : IsEntryError kind object.Commit (Some (graph_id_at layers p)) bytes e = rw a.2 at refused in
      entry_not_refused kind object.Commit (Some (graph_id_at layers p)) bytes contents next (rw a.3 at entry)
      (ap encode_lower (sym a.3)) e here

  pub not_mismatched : (m : Difference) → ¬ (IsMismatchIn layers p bytes m)
  not_mismatched m refused =
      let same = entry_once_at layers p bytes contents refused.0 next refused.1 entry refused.2
      (matched_contents layers p contents matches) refused.3 in
      excluded layers p contents m matches (rw same.0 refused.4)

-- two passages over the same bytes: what the longer one has more stands behind the shorter one
record HasMore (layers : List Layer) (p : ℕ) (count : ℕ) (next end : List ℕ) : Type 0 where
  more : List (List ℕ)
  counted : length more ≡ count
  agree : AllMatch layers p more
  whole : next ≡ entries_of layers p more ++ end

has_more : (layers : List Layer) (first : ℕ) (some all : List (List ℕ)) (bytes next end : List ℕ) → AllMatch layers first some
    → AllMatch layers first all
    → bytes ≡ entries_of layers first some ++ next → bytes ≡ entries_of layers first all ++ end → length some ≤ length all
    → (count : ℕ) × (length some + count ≡ length all) × HasMore layers (first + length some) count next end
has_more layers first [] all bytes next end one two e f fewer = (
  length all,
  omega arith,
  record {
    more = all;
    counted = refl;
    agree = subst (λ k. AllMatch layers k all) (sym same) two;
    whole = sym e ∙ f
        ∙ ap (λ k. entries_of layers k all ++ end) (sym same);
  },
)
  where
    same : first + length {A = List ℕ} [] ≡ first
    same = omega arith
has_more layers first (c ∷ some) [] bytes next end one two e f fewer = absurd (omega (arith, fewer))
has_more layers first (c ∷ some) (d ∷ all) bytes next end one two e f fewer =
    let id = graph_id_at layers first in
    let rest = entries_of layers (first + 1) some ++ next in
    let others = entries_of layers (first + 1) all ++ end in
    let front : BeginsWithEntry object.Commit id bytes c rest = record {
      whole = e
          ∙ append_assoc (object_entry object.Commit id c) (entries_of layers (first + 1) some) next;
      fits = one.0.1;
    } in
    let back : BeginsWithEntry object.Commit id bytes d others = record {
      whole = f
          ∙ append_assoc (object_entry object.Commit id d) (entries_of layers (first + 1) all) end;
      fits = two.0.1;
    } in
    let same = entry_once_at layers first bytes c d rest others front back (matched_contents layers first c one.0.0)
    (matched_contents layers first d two.0.0) in
    let later = has_more layers (first + 1) some all rest next end one.1 two.1 refl same.1 (omega (arith, fewer)) in
    let place : first + 1 + length some ≡ first + length (c ∷ some) = omega arith in
    (later.0, omega (arith, later.1), rw place at later.2)

-- what stands at a position that more is read behind matches
pub entry_there : (layers : List Layer) (first p q : ℕ) (bytes next last : List ℕ) → IsStreamUpTo layers first p bytes next
    → IsStreamUpTo layers first q bytes last → p < q
    → (contents : List ℕ) × (rest : List ℕ) × BeginsWithEntry object.Commit (graph_id_at layers p) next contents rest
    × MatchesAt layers p contents
entry_there layers first p q bytes next last one two less =
    let all = has_more layers first one.contents two.contents bytes next last one.agree two.agree one.whole two.whole
    (omega (arith, one.counted, two.counted, less)) in
    by all.0 (omega (arith, all.1, one.counted, two.counted, less)) (rw one.counted at all.2)
  where
    by : (count : ℕ) → 0 < count → HasMore layers p count next last
        → (contents : List ℕ) × (rest : List ℕ) × BeginsWithEntry object.Commit (graph_id_at layers p) next contents rest
        × MatchesAt layers p contents
    by count some more = cases more.more more.counted more.agree more.whole
      where
        cases : (more : List (List ℕ)) → length more ≡ count → AllMatch layers p more → next ≡ entries_of layers p more ++ last
            → (contents : List ℕ) × (rest : List ℕ) × BeginsWithEntry object.Commit (graph_id_at layers p) next contents rest
            × MatchesAt layers p contents
        cases [] counted agree whole = absurd (omega (arith, counted, some))
        cases (c ∷ later) counted agree whole = (
          c,
          entries_of layers (p + 1) later ++ last,
          record {
            whole = whole ∙ append_assoc (object_entry object.Commit (graph_id_at layers p) c)
                (entries_of layers (p + 1) later) last;
            fits = agree.0.1;
          },
          agree.0.0,
        )

-- and what follows is one thing
pub same_next : (layers : List Layer) (first p : ℕ) (bytes next last : List ℕ) → IsStreamUpTo layers first p bytes next
    → IsStreamUpTo layers first p bytes last → next ≡ last
same_next layers first p bytes next last one two =
    let all = has_more layers first one.contents two.contents bytes next last one.agree two.agree one.whole two.whole
    (omega (arith, one.counted, two.counted)) in
    let none : all.2.more ≡ [] = nil_from_length all.2.more (omega (arith, all.1, all.2.counted, one.counted, two.counted)) in
    all.2.whole ∙ ap (λ l. entries_of layers (first + length one.contents) l ++ last) none

pub right_not_refused : (layers : List Layer) (first end : ℕ) (bytes : List ℕ) (e : ObjectsError)
    → IsStreamOf layers first end bytes
    → ¬ (IsStreamRefusal layers first end bytes e)
right_not_refused layers first end bytes (Entry pos e) right refused =
    let there = entry_there layers first pos.0 end bytes refused.0 [] refused.2 right refused.1 in
    not_refused layers pos.0 refused.0 there.0 there.1 there.2 there.3 e refused.3
right_not_refused layers first end bytes (Mismatch pos m) right refused =
    let there = entry_there layers first pos.0 end bytes refused.0 [] refused.2 right refused.1 in
    not_mismatched layers pos.0 refused.0 there.0 there.1 there.2 there.3 m refused.3
right_not_refused layers first end bytes LeftOver right refused =
    refused.2 (same_next layers first end bytes refused.0 [] refused.1 right)
right_not_refused layers first end bytes Device right refused = refused
right_not_refused layers first end bytes OutOfMemory right refused = refused

-- two parts that join are a whole
AllMatch-append : (layers : List Layer) (p : ℕ) (some others : List (List ℕ)) → AllMatch layers p some
    → AllMatch layers (p + length some) others
    → AllMatch layers p (some ++ others)
AllMatch-append layers p [] others one two = let same : p + length {A = List ℕ} [] ≡ p = omega arith in rw same at two
AllMatch-append layers p (c ∷ some) others one two =
    let same : p + length (c ∷ some) ≡ p + 1 + length some = omega arith in
    (one.0, AllMatch-append layers (p + 1) some others one.1 (rw same at two))

entries_of-append : (layers : List Layer) (p : ℕ) (some others : List (List ℕ))
    → entries_of layers p (some ++ others) ≡ entries_of layers p some ++ entries_of layers (p + length some) others
entries_of-append layers p [] others = let same : p ≡ p + length {A = List ℕ} [] =
    omega arith in ap (λ k. entries_of layers k others) same
entries_of-append layers p (c ∷ some) others =
    let same : p + 1 + length some ≡ p + length (c ∷ some) = omega arith in
    ap (λ l. object_entry object.Commit (graph_id_at layers p) c ++ l)
    (entries_of-append layers (p + 1) some others ∙ ap (λ k. entries_of layers (p + 1) some ++ entries_of layers k others) same)
    ∙ sym (append_assoc (object_entry object.Commit (graph_id_at layers p) c) (entries_of layers (p + 1) some)
    (entries_of layers (p + length (c ∷ some)) others))

pub parts_join : (layers : List Layer) (first mid end : ℕ) (front back : List ℕ) → IsStreamOf layers first mid front
    → IsStreamOf layers mid end back
    → IsStreamOf layers first end (front ++ back)
parts_join layers first mid end front back one two =
    let here : AllMatch layers (first + length one.contents) two.contents = rw one.counted two.agree in
    let a : front ≡ entries_of layers first one.contents = one.whole ∙ append-nil (entries_of layers first one.contents) in
    let b : back ≡ entries_of layers (first + length one.contents) two.contents =
    two.whole ∙ append-nil (entries_of layers mid two.contents) ∙ ap (λ k. entries_of layers k two.contents) (sym one.counted) in
    record {
      contents = one.contents ++ two.contents;
      counted = omega (arith, length-append one.contents two.contents, one.counted, two.counted);
      agree = AllMatch-append layers first one.contents two.contents one.agree here;
      whole = ap (λ l. l ++ back) a ∙ ap (λ l. entries_of layers first one.contents ++ l) b
          ∙ sym (entries_of-append layers first one.contents two.contents)
          ∙ sym (append-nil (entries_of layers first (one.contents ++ two.contents)));
    }
