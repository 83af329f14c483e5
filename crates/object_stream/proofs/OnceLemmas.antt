-- Bytes have one reading: one line, one entry, one reason why there is none.
use Rattle.std.proofs.Common.{◌≡◌, ◌≢◌, ℕ, zero, suc, ◌*◌, ◌/◌, ◌^◌, ◌<◌, ◌≤◌, ◌⊎◌, List, [], ◌∷◌, ◌++◌, length, take, get_or}
use Rattle.std.proofs.Common.{refl, sym, ap, ◌∙◌, arith, inl, inr, subst, true, false, ⊎_elim, append_assoc, decimal}
use Rattle.std.specs.Prelude.{All, Option, None, codes, nat_lt, if◌then◌else◌}
use Rattle.std.specs.Int.{w32, byte_at, bytes_high_first, to_be_bytes}
use Rattle.std.specs.Prelude.{slice_index}
use Rattle.std.proofs.lemmas.Bool.{lt-ltb, le-ltb}
use Rattle.std.proofs.lemmas.Fmt.{decimal_injective}
use Rattle.std.proofs.lemmas.List.{append_cancel_left, length-append, length-take, get_or-take, get_or_at, take_all}
use Rattle.std.proofs.lemmas.List.Elements.{All-head, All-tail, All-get_or, All-nil, All-cons, All-append}
use Rattle.hex.specs.Hex.{encode_lower, lower_digits}
use Rattle.hex.proofs.HexLemmas.{length-encode_with}
use Rattle.sha1.specs.Sha1.{sha1}
use Rattle.sha1.specs.Sha1 as one
use Rattle.sha2.specs.Sha256.{sha256}
use Rattle.sha2.specs.Sha256 as two
use Rattle.gix_hash_core.specs.Digest.{digest_of}
use Rattle.gix_hash_core.specs.Kind.{id_len}
use Rattle.gix_hash_core.specs.declared.kind.Kind.{Kind}
use Rattle.gix_hash_core.specs.declared.kind.Kind.TheVariants.{Sha1, Sha256}
use Rattle.gix_hash_core.proofs.DigestLemmas.{digest_is_sized}
use Rattle.object_stream.specs.TypedObject.{type_word, typed_id, typed_object}
use Rattle.object_stream.specs.BatchEntry.{object_line, longest_line, HasNoFeed, IsLine, IsTail, IsObjectLine, BeginsWithEntry}
use Rattle.object_stream.specs.BatchEntry.{type_and_size}
use Rattle.object_stream.specs.NextEntry.{BeginsWithHead, IsEntryError, IsExpected}
use Rattle.object_stream.specs.FoundEntry.{IsOtherLine}
use Rattle.object_stream.specs.declared.error.EntryError.{EntryError}
use Rattle.object_stream.specs.declared.error.EntryError.TheVariants as error
use Rattle.object_stream.specs.declared.heading.Heading.{Heading}
use Rattle.object_stream.specs.declared.heading.Heading.TheVariants as told
use Rattle.object_stream.specs.declared.object_type.ObjectType.{ObjectType}
use Rattle.object_stream.specs.declared.object_type.ObjectType.TheVariants.{Commit, Tree, Blob, Tag}
use Rattle.object_stream.proofs.TypedLineLemmas.{encode_lower-lower, own-no_feed, length-own}

-- where lines end
feed_once : (a b x y : List ℕ) → HasNoFeed a → HasNoFeed b → a ++ 10 ∷ x ≡ b ++ 10 ∷ y → (a ≡ b) × (x ≡ y)
feed_once [] [] x y p q e = (refl, cc e)
feed_once [] (c ∷ b) x y p q e = absurd (All-head (λ b. b ≢ 10) c b q (cc e))
feed_once (c ∷ a) [] x y p q e = absurd (All-head (λ b. b ≢ 10) c a p (cc e))
feed_once (c ∷ a) (d ∷ b) x y p q e =
    let more = feed_once a b x y (All-tail (λ b. b ≢ 10) c a p) (All-tail (λ b. b ≢ 10) d b q) (cc e) in (cc (more.0, e), more.1)

pub line_once : (bytes line other next end : List ℕ) → IsLine bytes line next → IsLine bytes other end
    → (line ≡ other) × (next ≡ end)
line_once bytes line other next end one two = feed_once line other next end one.one two.one (sym one.whole ∙ two.whole)

-- no line stands where there is no line feed
pub no_line : (bytes line next : List ℕ) → HasNoFeed (take longest_line bytes) → ¬ (IsLine bytes line next)
no_line bytes line next none is =
    let n = length line in
    let there : get_or bytes n 0 ≡ 10 = ap (λ l. get_or l n 0) is.whole ∙ get_or_at line 10 next 0 n refl in
    let within : n < length (take 93 bytes) =
    omega (arith, length-take 93 bytes, ap length is.whole, length-append line (10 ∷ next), is.short) in
    All-get_or (λ b. b ≢ 10) (take 93 bytes) n 0 within none (get_or-take 93 bytes n 0 is.short ∙ there)

-- equal lists whose fronts are as long have equal fronts
pub same_cut : (a b x y : List ℕ) → length a ≡ length b → a ++ x ≡ b ++ y → (a ≡ b) × (x ≡ y)
same_cut [] [] x y n e = (refl, e)
same_cut [] (c ∷ b) x y n e = absurd (omega (arith, n))
same_cut (c ∷ a) [] x y n e = absurd (omega (arith, n))
same_cut (c ∷ a) (d ∷ b) x y n e = let more = same_cut a b x y (omega (arith, n)) (cc e) in (cc (more.0, e), more.1)

-- what stands behind the id is one thing
letter : (xs ys : List ℕ) (k : ℕ) → xs ≡ ys → get_or xs k 0 ≡ get_or ys k 0
letter xs ys k e = ap (λ l. get_or l k 0) e

pub missing-typed : (type : ObjectType) (size : ℕ) → codes " missing" ≢ type_and_size type size
missing-typed Commit size e = omega (arith, letter (codes " missing") (type_and_size Commit size) 1 e)
missing-typed Tree size e = omega (arith, letter (codes " missing") (type_and_size Tree size) 1 e)
missing-typed Blob size e = omega (arith, letter (codes " missing") (type_and_size Blob size) 1 e)
missing-typed Tag size e = omega (arith, letter (codes " missing") (type_and_size Tag size) 1 e)

sizes_once : (type : ObjectType) (m n : ℕ) → m < 2 ^ 64 → n < 2 ^ 64 → type_and_size type m ≡ type_and_size type n
    → told.Object type m ≡ told.Object type n
sizes_once type m n p q e =
    ap (λ k. told.Object type k)
    (decimal_injective m n p q (append_cancel_left (32 ∷ type_word type) (decimal m) (decimal n) e))

-- two words with sizes are alike only for one type and one size
typed_once : (s t : ObjectType) (m n : ℕ) → m < 2 ^ 64 → n < 2 ^ 64 → type_and_size s m ≡ type_and_size t n
    → told.Object s m ≡ told.Object t n
typed_once Commit Commit m n p q e = sizes_once Commit m n p q e
typed_once Tree Tree m n p q e = sizes_once Tree m n p q e
typed_once Blob Blob m n p q e = sizes_once Blob m n p q e
typed_once Tag Tag m n p q e = sizes_once Tag m n p q e
typed_once Commit Tree m n p q e = absurd (omega (arith, letter (type_and_size Commit m) (type_and_size Tree n) 1 e))
typed_once Commit Blob m n p q e = absurd (omega (arith, letter (type_and_size Commit m) (type_and_size Blob n) 1 e))
typed_once Commit Tag m n p q e = absurd (omega (arith, letter (type_and_size Commit m) (type_and_size Tag n) 1 e))
typed_once Tree Commit m n p q e = absurd (omega (arith, letter (type_and_size Tree m) (type_and_size Commit n) 1 e))
typed_once Tree Blob m n p q e = absurd (omega (arith, letter (type_and_size Tree m) (type_and_size Blob n) 1 e))
typed_once Tree Tag m n p q e = absurd (omega (arith, letter (type_and_size Tree m) (type_and_size Tag n) 2 e))
typed_once Blob Commit m n p q e = absurd (omega (arith, letter (type_and_size Blob m) (type_and_size Commit n) 1 e))
typed_once Blob Tree m n p q e = absurd (omega (arith, letter (type_and_size Blob m) (type_and_size Tree n) 1 e))
typed_once Blob Tag m n p q e = absurd (omega (arith, letter (type_and_size Blob m) (type_and_size Tag n) 1 e))
typed_once Tag Commit m n p q e = absurd (omega (arith, letter (type_and_size Tag m) (type_and_size Commit n) 1 e))
typed_once Tag Tree m n p q e = absurd (omega (arith, letter (type_and_size Tag m) (type_and_size Tree n) 2 e))
typed_once Tag Blob m n p q e = absurd (omega (arith, letter (type_and_size Tag m) (type_and_size Blob n) 1 e))

-- the ids of objects are bytes, at most 32 of them
abbrev pub AreBytes : List ℕ → Type 0
AreBytes xs = All (λ b. b < 256) xs

byte_at-small : (i n : ℕ) → byte_at i n < 256
byte_at-small zero n = omega arith
byte_at-small (suc i) n = omega arith

high_first-bytes : (k n : ℕ) → AreBytes (bytes_high_first k n)
high_first-bytes zero n = All-nil (λ b. b < 256)
high_first-bytes (suc k) n = All-cons (λ b. b < 256) (byte_at k n) (bytes_high_first k n) (byte_at-small k n)
    (high_first-bytes k n)

words-bytes1 : (h : List ℕ) (n : ℕ) → AreBytes (one.digest_bytes h n)
unfolding one.digest_bytes
words-bytes1 h zero = All-nil (λ b. b < 256)
words-bytes1 h (suc n) =
    All-append (λ b. b < 256) (one.digest_bytes h n) (to_be_bytes w32 (slice_index h n)) (words-bytes1 h n)
    (high_first-bytes 4 (slice_index h n))

words-bytes2 : (h : List ℕ) (n : ℕ) → AreBytes (two.digest_bytes h n)
unfolding two.digest_bytes
words-bytes2 h zero = All-nil (λ b. b < 256)
words-bytes2 h (suc n) =
    All-append (λ b. b < 256) (two.digest_bytes h n) (to_be_bytes w32 (slice_index h n)) (words-bytes2 h n)
    (high_first-bytes 4 (slice_index h n))

pub digest-bytes : (kind : Kind) (message : List ℕ) → AreBytes (digest_of kind message)
unfolding sha1 sha256
digest-bytes Sha1 message = words-bytes1 (one.hash_after (one.padded_message message) (length (one.padded_message message) / 64))
    5
digest-bytes Sha256 message = words-bytes2 (two.final_hash two.initial_hash_256 message) 8

id_len-short : (kind : Kind) → id_len kind ≤ 32
id_len-short Sha1 = omega arith
id_len-short Sha256 = omega arith

pub own-sized : (kind : Kind) (type : ObjectType) (contents : List ℕ) → length (typed_id kind type contents) ≡ id_len kind
own-sized kind type contents = digest_is_sized kind (typed_object type contents)

-- what stands behind an id says one thing
tail_once : (tail : List ℕ) (a b : Heading) → IsTail tail a → IsTail tail b → a ≡ b
tail_once tail told.Missing told.Missing one two = refl
tail_once tail told.Missing (told.Object t n) one two = absurd (missing-typed t n (sym one ∙ two.1))
tail_once tail (told.Object s m) told.Missing one two = absurd (missing-typed s m (sym two ∙ one.1))
tail_once tail (told.Object s m) (told.Object t n) one two = typed_once s t m n one.0 two.0 (sym one.1 ∙ two.1)

-- a line has one id, and says one thing of it
pub object_once : (n : ℕ) (line one other : List ℕ) (a b : Heading) → IsObjectLine n line one a → IsObjectLine n line other b
    → (one ≡ other) × (a ≡ b)
object_once n line one other a b first second =
    let same = same_cut one other first.tail second.tail (first.sized ∙ sym second.sized) (sym first.whole ∙ second.whole) in
    (same.0, tail_once second.tail a b (subst (λ t. IsTail t a) same.1 first.is_tail) second.is_tail)

abbrev told_size : Heading → ℕ
told_size (told.Object type size) = size
told_size told.Missing = 0

abbrev told_type : Heading → ObjectType
told_type (told.Object type size) = type
told_type told.Missing = Commit

-- so bytes begin with the line of one object
pub head_once : (kind : Kind) (type : ObjectType) (expected : Option (List ℕ)) (bytes one other : List ℕ) (m n : ℕ)
    (next end : List ℕ)
    → BeginsWithHead kind expected bytes one (told.Object type m) next
    → BeginsWithHead kind expected bytes other (told.Object type n) end
    → (one ≡ other) × (m ≡ n) × (next ≡ end)
head_once kind type expected bytes one other m n next end first second =
    let line = line_once bytes first.0.0 second.0.0 next end first.0.1 second.0.1 in
    let there : IsObjectLine (id_len kind) second.0.0 one (told.Object type m) =
    subst (λ l. IsObjectLine (id_len kind) l one (told.Object type m)) line.0 first.0.2 in
    let same = object_once (id_len kind) second.0.0 one other (told.Object type m) (told.Object type n) there second.0.2 in
    (same.0, ap told_size same.1, line.1)

-- a line is another for one reason
other_once : (kind : Kind) (type : ObjectType) (expected : Option (List ℕ)) (line : List ℕ) (e f : EntryError)
    → IsOtherLine kind type expected line e
    → IsOtherLine kind type expected line f → e ≡ f
other_once kind type expected line error.NoEntry error.NoEntry one two = refl
other_once kind type expected line error.OtherId error.OtherId one two = refl
other_once kind type expected line error.Missing error.Missing one two = refl
other_once kind type expected line error.OtherType error.OtherType one two = refl
other_once kind type expected line error.NoEntry error.OtherId one two = absurd (one two.0 two.1 two.2)
other_once kind type expected line error.NoEntry error.Missing one two = absurd (one two.0 told.Missing two.1)
other_once kind type expected line error.NoEntry error.OtherType one two = absurd (one two.0 (told.Object two.1 two.2) two.3)
other_once kind type expected line error.OtherId error.NoEntry one two = absurd (two one.0 one.1 one.2)
other_once kind type expected line error.Missing error.NoEntry one two = absurd (two one.0 told.Missing one.1)
other_once kind type expected line error.OtherType error.NoEntry one two = absurd (two one.0 (told.Object one.1 one.2) one.3)
other_once kind type expected line error.OtherId error.Missing one two =
    let same = object_once (id_len kind) line two.0 one.0 told.Missing one.1 two.1 one.2 in
    absurd (one.3 (subst (IsExpected expected) same.0 two.2))
other_once kind type expected line error.OtherId error.OtherType one two =
    let same = object_once (id_len kind) line two.0 one.0 (told.Object two.1 two.2) one.1 two.3 one.2 in
    absurd (one.3 (subst (IsExpected expected) same.0 two.4))
other_once kind type expected line error.Missing error.OtherId one two =
    let same = object_once (id_len kind) line one.0 two.0 told.Missing two.1 one.1 two.2 in
    absurd (two.3 (subst (IsExpected expected) same.0 one.2))
other_once kind type expected line error.OtherType error.OtherId one two =
    let same = object_once (id_len kind) line one.0 two.0 (told.Object one.1 one.2) two.1 one.3 two.2 in
    absurd (two.3 (subst (IsExpected expected) same.0 one.4))
other_once kind type expected line error.Missing error.OtherType one two =
    absurd (cc (object_once (id_len kind) line one.0 two.0 told.Missing (told.Object two.1 two.2) one.1 two.3).1)
other_once kind type expected line error.OtherType error.Missing one two =
    absurd (cc (object_once (id_len kind) line one.0 two.0 (told.Object one.1 one.2) told.Missing one.3 two.1).1)
other_once kind type expected line error.Ends f one two = absurd one
other_once kind type expected line error.OtherContents f one two = absurd one
other_once kind type expected line e error.Ends one two = absurd two
other_once kind type expected line e error.OtherContents one two = absurd two

-- the line of an object that is expected is no other
not_other : (kind : Kind) (type : ObjectType) (expected : Option (List ℕ)) (line digits : List ℕ) (size : ℕ) (e : EntryError)
    → IsObjectLine (id_len kind) line digits (told.Object type size) → IsExpected expected digits
    → ¬ (IsOtherLine kind type expected line e)
not_other kind type expected line digits size error.Ends is wanted other = other
not_other kind type expected line digits size error.NoEntry is wanted other = other digits (told.Object type size) is
not_other kind type expected line digits size error.OtherId is wanted other =
    let same = object_once (id_len kind) line digits other.0 (told.Object type size) other.1 is other.2 in
    other.3 (subst (IsExpected expected) same.0 wanted)
not_other kind type expected line digits size error.Missing is wanted other =
    absurd (cc (object_once (id_len kind) line digits other.0 (told.Object type size) told.Missing is other.1).1)
not_other kind type expected line digits size error.OtherType is wanted other =
    let same = object_once (id_len kind) line digits other.0 (told.Object type size) (told.Object other.1 other.2) is other.3 in
    absurd (other.5 (sym (ap told_type same.1)))
not_other kind type expected line digits size error.OtherContents is wanted other = other

-- how far the bytes of an entry can be read
module _ (kind : Kind) (type : ObjectType) (expected : Option (List ℕ)) (bytes : List ℕ) where
  abbrev NoLine : EntryError → Type 0
  NoLine e = HasNoFeed (take longest_line bytes)
      × (e ≡ (if nat_lt (length bytes) longest_line then error.Ends else error.NoEntry))

  abbrev OtherLine : EntryError → Type 0
  OtherLine e = (line : List ℕ) × (next : List ℕ) × IsLine bytes line next × IsOtherLine kind type expected line e

  abbrev IsBad : List ℕ → ℕ → List ℕ → EntryError → Type 0
  IsBad digits size next error.Ends = length next ≤ size
  IsBad digits size next error.NoEntry = (size < length next) × (get_or next size 0 ≢ 10)
  IsBad digits size next error.OtherContents =
      (contents : List ℕ) × (rest : List ℕ) × (length contents ≡ size) × (next ≡ contents ++ 10 ∷ rest)
      × (digits ≢ encode_lower (typed_id kind type contents))
  IsBad digits size next e = ⊥

  abbrev BadEntry : EntryError → Type 0
  BadEntry e = (digits : List ℕ) × (next : List ℕ) × (size : ℕ)
      × BeginsWithHead kind expected bytes digits (told.Object type size) next × IsBad digits size next e

  stage : (e : EntryError) → IsEntryError kind type expected bytes e → NoLine e ⊎ (OtherLine e ⊎ BadEntry e)
  stage error.Ends refused = ⊎_elim
      (λ (none : HasNoFeed bytes × (length bytes < longest_line)).
      let test : nat_lt (length bytes) 93 ≡ true = lt-ltb (length bytes) 93 none.1 in
      inl (rw (take_all 93 bytes (omega (arith, none.1))) none.0, rw test refl))
      (λ (cut : BadEntry error.Ends). inr (inr cut))
      refused
  stage error.NoEntry refused = ⊎_elim
      (λ (none : HasNoFeed (take longest_line bytes) × (longest_line ≤ length bytes)).
      let test : nat_lt (length bytes) 93 ≡ false = le-ltb (length bytes) 93 none.1 in
      inl (none.0, rw test refl))
      (λ (others : OtherLine error.NoEntry
      ⊎ ((digits : List ℕ) × (next : List ℕ) × (size : ℕ) × BeginsWithHead kind expected bytes digits (told.Object type size) next
      × (size < length next) × (get_or next size 0 ≢ 10))). ⊎_elim
      (λ (other : OtherLine error.NoEntry). inr (inl other))
      (λ (feed : (digits : List ℕ) × (next : List ℕ) × (size : ℕ)
      × BeginsWithHead kind expected bytes digits (told.Object type size) next
      × (size < length next) × (get_or next size 0 ≢ 10)).
      inr (inr (feed.0, feed.1, feed.2, feed.3, (feed.4, feed.5))))
      others)
      refused
  stage error.OtherId refused = inr (inl (refused.3.0, refused.1, refused.3.1, (refused.0, refused.2, refused.3.2, refused.4)))
  stage error.Missing refused =
      inr (inl (refused.2.0.0, refused.1, refused.2.0.1, (refused.0, refused.2.0.2, refused.2.1)))
  stage error.OtherType refused =
      let head = refused.4 in
      inr (inl (head.0.0, refused.1, head.0.1, (refused.0, refused.2, refused.3, head.0.2, head.1, refused.5)))
  stage error.OtherContents refused = inr (inr (
    refused.0,
    refused.1 ++ 10 ∷ refused.2,
    length refused.1,
    refused.3,
    (refused.1, refused.2, refl, refl, refused.4),
  ))

  bad_once : (digits : List ℕ) (size : ℕ) (next : List ℕ) (e f : EntryError) → IsBad digits size next e → IsBad digits size next f
      → e ≡ f
  bad_once digits size next error.Ends error.Ends one two = refl
  bad_once digits size next error.Ends error.NoEntry one two = absurd (omega (arith, one, two.0))
  bad_once digits size next error.Ends error.OtherContents one two =
      absurd (omega (arith, one, two.2, ap length two.3, length-append two.0 (10 ∷ two.1)))
  bad_once digits size next error.NoEntry error.Ends one two = absurd (omega (arith, two, one.0))
  bad_once digits size next error.NoEntry error.NoEntry one two = refl
  bad_once digits size next error.NoEntry error.OtherContents one two =
      absurd (one.1 (ap (λ l. get_or l size 0) two.3 ∙ get_or_at two.0 10 two.1 0 size two.2))
  bad_once digits size next error.OtherContents error.Ends one two =
      absurd (omega (arith, two, one.2, ap length one.3, length-append one.0 (10 ∷ one.1)))
  bad_once digits size next error.OtherContents error.NoEntry one two =
      absurd (two.1 (ap (λ l. get_or l size 0) one.3 ∙ get_or_at one.0 10 one.1 0 size one.2))
  bad_once digits size next error.OtherContents error.OtherContents one two = refl
  bad_once digits size next error.OtherId f one two = absurd one
  bad_once digits size next error.Missing f one two = absurd one
  bad_once digits size next error.OtherType f one two = absurd one
  bad_once digits size next e error.OtherId one two = absurd two
  bad_once digits size next e error.Missing one two = absurd two
  bad_once digits size next e error.OtherType one two = absurd two

  line_or_head : (e f : EntryError) → OtherLine e → ¬ (BadEntry f)
  line_or_head e f other bad =
      let head = bad.3 in
      let same = line_once bytes other.0 head.0.0 other.1 bad.1 other.2 head.0.1 in
      not_other kind type expected head.0.0 bad.0 bad.2 e head.0.2 head.1
      (subst (λ l. IsOtherLine kind type expected l e) same.0 other.3)

  pub entry_error_once : (e f : EntryError) → IsEntryError kind type expected bytes e → IsEntryError kind type expected bytes f
      → e ≡ f
  entry_error_once e f one two = ⊎_elim
      (λ (a : NoLine e). ⊎_elim
      (λ (b : NoLine f). a.1 ∙ sym b.1)
      (λ (others : OtherLine f ⊎ BadEntry f). ⊎_elim
      (λ (b : OtherLine f). absurd (no_line bytes b.0 b.1 a.0 b.2))
      (λ (b : BadEntry f). absurd (no_line bytes b.3.0.0 b.1 a.0 b.3.0.1))
      others)
      (stage f two))
      (λ (rest : OtherLine e ⊎ BadEntry e). ⊎_elim
      (λ (a : OtherLine e). ⊎_elim
      (λ (b : NoLine f). absurd (no_line bytes a.0 a.1 b.0 a.2))
      (λ (others : OtherLine f ⊎ BadEntry f). ⊎_elim
      (λ (b : OtherLine f).
      let same = line_once bytes b.0 a.0 b.1 a.1 b.2 a.2 in
      other_once kind type expected a.0 e f a.3 (subst (λ l. IsOtherLine kind type expected l f) same.0 b.3))
      (λ (b : BadEntry f). absurd (line_or_head e f a b))
      others)
      (stage f two))
      (λ (a : BadEntry e). ⊎_elim
      (λ (b : NoLine f). absurd (no_line bytes a.3.0.0 a.1 b.0 a.3.0.1))
      (λ (others : OtherLine f ⊎ BadEntry f). ⊎_elim
      (λ (b : OtherLine f). absurd (line_or_head f e b a))
      (λ (b : BadEntry f).
      let same = head_once kind type expected bytes b.0 a.0 b.2 a.2 b.1 a.1 b.3 a.3 in
      let bad : IsBad a.0 a.2 a.1 f =
      subst (λ d. IsBad d a.2 a.1 f) same.0 (subst (λ n. IsBad b.0 n a.1 f) same.1 (subst (λ l. IsBad b.0 b.2 l f) same.2 b.4)) in
      bad_once a.0 a.2 a.1 e f a.4 bad)
      others)
      (stage f two))
      rest)
      (stage e one)

-- a whole entry whose id is that of its contents
module _ (kind : Kind) (type : ObjectType) (expected : Option (List ℕ)) (bytes contents next : List ℕ)
    (entry : BeginsWithEntry type (typed_id kind type contents) bytes contents next)
    (wanted : IsExpected expected (encode_lower (typed_id kind type contents))) where
  abbrev digits : List ℕ
  digits = encode_lower (typed_id kind type contents)

  abbrev whole : List ℕ
  whole = contents ++ 10 ∷ next

  pub entry_head : BeginsWithHead kind expected bytes digits (told.Object type (length contents)) whole
  entry_head =
      let id = typed_id kind type contents in
      let size = length contents in
      let sized : length digits ≡ 2 * id_len kind =
      length-encode_with lower_digits id ∙ ap (λ n. 2 * n) (own-sized kind type contents) in
      let short : length digits ≤ 64 = omega (arith, sized, id_len-short kind) in
      let lower = encode_lower-lower id (digest-bytes kind (typed_object type contents)) in (
        (
          object_line type id size,
          record {
            whole = entry.whole ∙ append_assoc (object_line type id size) (10 ∷ (contents ++ 10 ∷ [])) next
                ∙ ap (λ l. object_line type id size ++ 10 ∷ l) (append_assoc contents (10 ∷ []) next);
            one = own-no_feed type digits size lower entry.fits;
            short = length-own type digits size short entry.fits;
          },
          record {
            sized = sized;
            lower = lower;
            tail = type_and_size type size;
            whole = refl;
            is_tail = (entry.fits, refl);
          },
        ),
        wanted,
      )

  -- is not refused
  pub entry_not_refused : (e : EntryError) → ¬ (IsEntryError kind type expected bytes e)
  entry_not_refused e refused = ⊎_elim
      (λ (none : NoLine kind type expected bytes e). no_line bytes entry_head.0.0 whole none.0 entry_head.0.1)
      (λ (others : OtherLine kind type expected bytes e ⊎ BadEntry kind type expected bytes e). ⊎_elim
      (λ (other : OtherLine kind type expected bytes e).
      let same = line_once bytes other.0 entry_head.0.0 other.1 whole other.2 entry_head.0.1 in
      not_other kind type expected entry_head.0.0 digits (length contents) e entry_head.0.2 entry_head.1
      (subst (λ l. IsOtherLine kind type expected l e) same.0 other.3))
      (λ (bad : BadEntry kind type expected bytes e).
      let same = head_once kind type expected bytes bad.0 digits bad.2 (length contents) bad.1 whole bad.3 entry_head in
      not_bad e
      (subst (λ d. IsBad kind type expected bytes d (length contents) whole e) same.0
      (subst (λ n. IsBad kind type expected bytes bad.0 n whole e) same.1
      (subst (λ l. IsBad kind type expected bytes bad.0 bad.2 l e) same.2 bad.4))))
      others)
      (stage kind type expected bytes e refused)
    where
      not_bad : (e : EntryError) → ¬ (IsBad kind type expected bytes digits (length contents) whole e)
      not_bad error.Ends bad = omega (arith, bad, length-append contents (10 ∷ next))
      not_bad error.NoEntry bad = bad.1 (get_or_at contents 10 next 0 (length contents) refl)
      not_bad error.OtherContents bad =
          let cut = same_cut bad.0 contents (10 ∷ bad.1) (10 ∷ next) bad.2 (sym bad.3) in
          bad.4 (sym (ap (λ c. encode_lower (typed_id kind type c)) cut.0))
      not_bad error.OtherId bad = bad
      not_bad error.Missing bad = bad
      not_bad error.OtherType bad = bad

-- so entries at the front are one
pub entry_once : (kind : Kind) (type : ObjectType) (bytes contents other next end : List ℕ)
    → BeginsWithEntry type (typed_id kind type contents) bytes contents next
    → BeginsWithEntry type (typed_id kind type other) bytes other end → (contents ≡ other) × (next ≡ end)
entry_once kind type bytes contents other next end one two =
    let first = entry_head kind type None bytes contents next one tt in
    let second = entry_head kind type None bytes other end two tt in
    let head = head_once kind type None bytes (encode_lower (typed_id kind type contents))
    (encode_lower (typed_id kind type other))
    (length contents) (length other) (contents ++ 10 ∷ next) (other ++ 10 ∷ end) first second in
    let cut = same_cut contents other (10 ∷ next) (10 ∷ end) head.1 head.2 in
    (cut.0, cc cut.1)
