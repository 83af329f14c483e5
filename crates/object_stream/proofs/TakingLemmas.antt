-- Why no entry is taken from the bytes that a buffer and its reader have together.
use Rattle.std.proofs.Common.{◌≡◌, ◌≢◌, ℕ, ◌+◌, ◌*◌, ◌<◌, ◌≤◌, Bool, true, false, List, [], ◌∷◌, ◌++◌, length, take, drop, get_or}
use Rattle.std.proofs.Common.{refl, sym, ap, ◌∙◌, arith, append-nil, append_assoc}
use Rattle.std.proofs.Common.{subst, inl, inr, ⊎_elim, Option, Some, None, IsTrue}
use Rattle.std.specs.Prelude.{◌↔◌, IfSome, nat_lt, if◌then◌else◌}
use Rattle.std.specs.Io.KnownBytes.{Keeps, IsAtEnd, prepend_known}
use Rattle.std.proofs.lemmas.Bool.{cases_lt, lt-ltb, le-ltb}
use Rattle.std.proofs.lemmas.List.{get_or-take, length-append, length-take, length-take-le, take_all, take-append-le}
use Rattle.std.proofs.lemmas.List.{get_or_append_left}
use Rattle.hex.specs.Hex.{encode_lower}
use Rattle.gix_hash_core.specs.Kind.{id_len}
use Rattle.gix_hash_core.specs.declared.kind.Kind.{Kind}
use Rattle.object_stream.specs.TypedObject.{typed_id}
use Rattle.object_stream.specs.BatchEntry.{longest_line, HasNoFeed, IsLine, IsLineEnd}
use Rattle.object_stream.specs.NextEntry.{BeginsWithHead, IsEntryError, IsExpected, MayStop}
use Rattle.object_stream.specs.Reading.{IsFillError}
use Rattle.object_stream.specs.FoundEntry.{FindsObject, IsOtherLine}
use Rattle.object_stream.specs.declared.error.EntryError.{EntryError}
use Rattle.object_stream.specs.declared.error.EntryError.TheVariants as error
use Rattle.object_stream.specs.declared.error.ReadFailure.{ReadFailure}
use Rattle.object_stream.specs.declared.error.ReadFailure.TheVariants.{Device, OutOfMemory}
use Rattle.object_stream.specs.declared.error.StreamError.{StreamError}
use Rattle.object_stream.specs.declared.error.StreamError.TheVariants.{Entry, Read}
use Rattle.object_stream.specs.declared.heading.Heading.TheVariants as heading
use Rattle.object_stream.specs.declared.object_type.ObjectType.{ObjectType}
use Rattle.object_stream.proofs.EntryLemmas.{around_feed, behind_line, line_length, line_more, line_there, object_more}

-- what holds of the bytes there and those that are left holds of all
pub of_known : (P : List ℕ → Type 0) (before known : Option (List ℕ)) (view : List ℕ) → Keeps before (prepend_known view known)
    → ((more : List ℕ) → known ≡ Some more → P (view ++ more)) → IfSome before P
of_known P None known view kept h = tt
of_known P (Some bytes) None view kept h = absurd kept
of_known P (Some bytes) (Some more) view kept h = subst P kept (h more refl)

pub at_end : (known : Option (List ℕ)) (more : List ℕ) → IsAtEnd known → known ≡ Some more → more ≡ []
at_end None more ended e = cc e
at_end (Some x) more ended e = cc (ended, e)

-- what holds of all bytes holds of those that are known
pub of_all : (P : List ℕ → Type 0) (before : Option (List ℕ)) → ((bytes : List ℕ) → P bytes) → IfSome before P
of_all P None h = tt
of_all P (Some bytes) h = h bytes

-- where a line ends, a line feed is among the first bytes
pub no_line_ends : (view : List ℕ) (end : ℕ) → IsLineEnd view end → ¬ HasNoFeed (take longest_line view)
no_line_ends view end is none =
    none end 0 (omega (arith, is.within, is.short, length-take 93 view)) (get_or-take 93 view end 0 is.short ∙ is.feed)

-- there are no more where a test fails
pub not_more : (enough : Bool) (n m : ℕ) → (IsTrue enough ↔ (n < m)) → enough ≡ false → m ≤ n
not_more enough n m tells refused = ⊎_elim
    (λ (more : n < m). let yes : enough ≡ true = tells.1 more in absurd (cc (yes, refused)))
    (λ (few : m ≤ n). few)
    (cases_lt n m)

module _ (kind : Kind) (type : ObjectType) (expected : Option (List ℕ)) (before : Option (List ℕ)) where
  abbrev Stops : StreamError → Type 0
  Stops error = IfSome before (λ bytes. MayStop kind type expected bytes error)

  -- a read for a line fails
  pub short_read_stop : (failure : ReadFailure) (count : ℕ) → IsFillError count failure → count < 65536 → Stops (Read failure)
  short_read_stop Device count h small = of_all (λ bytes. MayStop kind type expected bytes (Read Device)) before (λ bytes. tt)
  short_read_stop OutOfMemory count h small = absurd (omega (arith, h, small))

  module _ (known : Option (List ℕ)) (view : List ℕ) (kept : Keeps before (prepend_known view known)) where
    -- no line ends in time
    pub no_line_stop : HasNoFeed (take longest_line view) → (length view < longest_line → IsAtEnd known)
        → Stops (Entry (if nat_lt (length view) longest_line then error.Ends else error.NoEntry))
    no_line_stop none ended = ⊎_elim
        (λ (few : length view < 93).
        let test : nat_lt (length view) 93 ≡ true = lt-ltb (length view) 93 few in
        rw test (of_known (λ bytes. MayStop kind type expected bytes (Entry error.Ends)) before known view kept (λ more e.
        let end : more ≡ [] = at_end known more (ended few) e in
        let all : view ++ more ≡ view = ap (λ l. view ++ l) end ∙ append-nil view in
        rw all (inl (rw (take_all 93 view (omega (arith, few))) at none, few)))))
        (λ (many : 93 ≤ length view).
        let test : nat_lt (length view) 93 ≡ false = le-ltb (length view) 93 many in
        rw test (of_known (λ bytes. MayStop kind type expected bytes (Entry error.NoEntry)) before known view kept (λ more e.
        inl (rw (take-append-le 93 view more many) none, omega (arith, length-append view more, many)))))
        (cases_lt (length view) 93)

    -- a line is not that of an object that is expected
    pub other_line_stop : (end : ℕ) (e : EntryError) → IsLineEnd view end → IsOtherLine kind type expected (take end view) e
        → Stops (Entry e)
    other_line_stop end e is other =
        of_known (λ bytes. MayStop kind type expected bytes (Entry e)) before known view kept (λ more k.
        refused_by_line (view ++ more) (take end view) (drop (end + 1) view ++ more) e (line_there view more end is) other)
      where
        refused_by_line : (bytes line next : List ℕ) (e : EntryError) → IsLine bytes line next
            → IsOtherLine kind type expected line e
            → IsEntryError kind type expected bytes e
        refused_by_line bytes line next error.Ends is other = absurd other
        refused_by_line bytes line next error.NoEntry is other = inr (inl (line, next, is, other))
        refused_by_line bytes line next error.OtherId is other = (other.0, next, other.1, (line, is, other.2), other.3)
        refused_by_line bytes line next error.Missing is other = (other.0, next, ((line, is, other.1), other.2))
        refused_by_line bytes line next error.OtherType is other =
            (other.0, next, other.1, other.2, ((line, is, other.3), other.4), other.5)
        refused_by_line bytes line next error.OtherContents is other = absurd other

    module _ (line size : ℕ) (found : FindsObject kind type view line size)
        (wanted : IsExpected expected (take (2 * id_len kind) view)) where
      abbrev digits : List ℕ
      digits = take (2 * id_len kind) view

      -- the line, and more bytes behind
      head_more : (more : List ℕ)
          → BeginsWithHead kind expected (view ++ more) digits (heading.Object type size) (found.0 ++ more)
      head_more more = (object_more kind type view digits (heading.Object type size) found.0 more found.1, wanted)

      -- a read for the contents fails
      pub read_stop : (failure : ReadFailure) → IsFillError (line + 1 + size) failure → Stops (Read failure)
      read_stop Device h = of_all (λ bytes. MayStop kind type expected bytes (Read Device)) before (λ bytes. tt)
      read_stop OutOfMemory h =
          of_known (λ bytes. MayStop kind type expected bytes (Read OutOfMemory)) before known view kept (λ more k. (
            found.1.0,
            digits,
            found.0 ++ more,
            size,
            line_more view found.1.0 found.0 more found.1.1,
            found.1.2,
            wanted,
            omega (arith, h, line_length kind type view line size found),
          ))

      -- the stream ends within the contents
      pub cut_stop : length view ≤ line + 1 + size → IsAtEnd known → Stops (Entry error.Ends)
      cut_stop few ended =
          of_known (λ bytes. MayStop kind type expected bytes (Entry error.Ends)) before known view kept (λ more k.
          let end : more ≡ [] = at_end known more ended k in
          let all : view ++ more ≡ view = ap (λ l. view ++ l) end ∙ append-nil view in
          let short : length found.0 ≤ size = omega (arith, found.2, few) in
          rw all (inr (digits, found.0, size, (found.1, wanted), short)))

      module _ (within : size < length (drop (line + 1) view)) where
        -- another byte than a line feed follows
        pub no_feed_stop : get_or (drop (line + 1) view) size 0 ≢ 10 → Stops (Entry error.NoEntry)
        no_feed_stop other =
            let behind = behind_line kind type view line size found in
            let inside : size < length found.0 = rw behind within in
            of_known (λ bytes. MayStop kind type expected bytes (Entry error.NoEntry)) before known view kept (λ more k.
            let same : get_or (found.0 ++ more) size 0 ≡ get_or (drop (line + 1) view) size 0 =
            get_or_append_left found.0 more 0 size inside ∙ ap (λ l. get_or l size 0) behind in
            inr (inr (
              digits,
              found.0 ++ more,
              size,
              head_more more,
              omega (arith, length-append found.0 more, inside),
              λ feed. other (sym same ∙ feed),
            )))

        -- the contents are not those of the object
        pub other_contents_stop : get_or (drop (line + 1) view) size 0 ≡ 10
            → digits ≢ encode_lower (typed_id kind type (take size (drop (line + 1) view))) → Stops (Entry error.OtherContents)
        other_contents_stop feed other =
            let tail = drop (line + 1) view in
            let contents = take size tail in
            let size_is : size ≡ length contents = sym (length-take-le size tail (omega (arith, within))) in
            let cut : found.0 ≡ contents ++ 10 ∷ drop (size + 1) tail =
            behind_line kind type view line size found ∙ around_feed tail size within feed in
            of_known (λ bytes. MayStop kind type expected bytes (Entry error.OtherContents)) before known view kept (λ more k.
            let joined : found.0 ++ more ≡ contents ++ 10 ∷ (drop (size + 1) tail ++ more) =
            ap (λ l. l ++ more) cut ∙ append_assoc contents (10 ∷ drop (size + 1) tail) more in
            let there : BeginsWithHead kind expected (view ++ more) digits (heading.Object type (length contents))
            (contents ++ 10 ∷ (drop (size + 1) tail ++ more)) =
            subst
            (λ (l : List ℕ). BeginsWithHead kind expected (view ++ more) digits (heading.Object type (length contents)) l) joined
            (subst (λ (n : ℕ). BeginsWithHead kind expected (view ++ more) digits (heading.Object type n) (found.0 ++ more))
            size_is
            (head_more more)) in
            (digits, contents, drop (size + 1) tail ++ more, there, other))
