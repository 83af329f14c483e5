-- The object that stands in an entry, once its line ends with a byte 00.
use Rattle.std.proofs.Common.{◌≡◌, ℕ, ◌+◌, ◌-◌, ◌*◌, ◌≤◌, List, ◌∷◌, ◌++◌, length, take, drop, sym, ap, ◌∙◌, arith}
use Rattle.std.proofs.Common.{append_assoc, take-append-drop, decimal}
use Rattle.std.specs.Prelude.{slice_set}
use Rattle.std.proofs.Math.Seq.{drop-append-add, set-append_seam, take-append_seam}
use Rattle.std.proofs.lemmas.List.{drop-set-lt, length-append, length-take-le, take-set-le}
use Rattle.gix_hash_core.specs.Kind.{id_len}
use Rattle.gix_hash_core.specs.declared.kind.Kind.{Kind}
use Rattle.object_stream.specs.TypedObject.{type_word, typed_object}
use Rattle.object_stream.specs.FoundEntry.{FindsObject}
use Rattle.object_stream.specs.declared.object_type.ObjectType.{ObjectType}
use Rattle.object_stream.proofs.EntryLemmas.{behind_line, line_length}

-- digits, a space and more, cut behind the space
cut : (digits more : List ℕ) (start : ℕ) → start ≡ length digits + 1 → drop start (digits ++ 32 ∷ more) ≡ more
cut digits more start e = ap (λ n. drop n (digits ++ 32 ∷ more)) e ∙ drop-append-add digits (32 ∷ more) 1

-- a front, and so many bytes of what is next
front : (word next : List ℕ) (size count : ℕ) → size ≤ length next → count ≡ length word + 1 + size
    → take count (word ++ 0 ∷ next) ≡ word ++ 0 ∷ take size next
front word next size count within e =
    let some = word ++ 0 ∷ take size next in
    let whole : word ++ 0 ∷ next ≡ some ++ drop size next =
    ap (λ l. word ++ 0 ∷ l) (sym (take-append-drop size next)) ∙ sym (append_assoc word (0 ∷ take size next) (drop size next)) in
    let all : count ≡ length some = omega (arith, e, length-append word (0 ∷ take size next), length-take-le size next within) in
    ap (λ n. take n (word ++ 0 ∷ next)) all ∙ ap (take (length some)) whole ∙ take-append_seam some (drop size next)

-- Where the object stands in an entry, and what stands as before.
pub record StandsThere (kind : Kind) (type : ObjectType) (view : List ℕ) (line size start : ℕ) : Type 0 where
  pub within : start ≤ line
  pub object : take (line + 1 + size - start) (drop start (slice_set view line 0)) ≡ typed_object type
      (take size (drop (line + 1) view))
  pub behind : drop (line + 1) (slice_set view line 0) ≡ drop (line + 1) view
  pub digits : take (2 * id_len kind) (slice_set view line 0) ≡ take (2 * id_len kind) view

pub object_there : (kind : Kind) (type : ObjectType) (view : List ℕ) (line size start : ℕ) → FindsObject kind type view line size
    → start ≡ 2 * id_len kind + 1 → line + 1 + size ≤ length view → StandsThere kind type view line size start
object_there kind type view line size start found starts whole =
    let digits = take (2 * id_len kind) view in
    let word = type_word type ++ decimal size in
    let next = found.0 in
    let head = found.1.2 in
    let room : size ≤ length next = omega (arith, found.2, whole) in
    let is : found.1.0 ≡ digits ++ 32 ∷ word = head.whole ∙ ap (λ t. digits ++ t) head.is_tail.1 in
    let view_is : view ≡ (digits ++ 32 ∷ word) ++ 10 ∷ next = found.1.1.whole ∙ ap (λ l. l ++ 10 ∷ next) is in
    let line_is : line ≡ length (digits ++ 32 ∷ word) = line_length kind type view line size found ∙ ap length is in
    let line_len : line ≡ 2 * id_len kind + 1 + length word =
    omega (arith, line_is, length-append digits (32 ∷ word), head.sized) in
    let put : slice_set view line 0 ≡ digits ++ 32 ∷ (word ++ 0 ∷ next) =
    ap (λ v. slice_set v line 0) view_is ∙ ap (λ n. slice_set ((digits ++ 32 ∷ word) ++ 10 ∷ next) n 0) line_is
    ∙ set-append_seam (digits ++ 32 ∷ word) 10 next 0 ∙ append_assoc digits (32 ∷ word) (0 ∷ next) in
    let from_start : drop start (slice_set view line 0) ≡ word ++ 0 ∷ next =
    ap (drop start) put ∙ cut digits (word ++ 0 ∷ next) start (omega (arith, starts, head.sized)) in
    let object : take (line + 1 + size - start) (drop start (slice_set view line 0)) ≡ word ++ 0 ∷ take size next =
    ap (take (line + 1 + size - start)) from_start
    ∙ front word next size (line + 1 + size - start) room (omega (arith, line_len, starts)) in
    let size_is : length (take size next) ≡ size = length-take-le size next room in
    record {
      within = omega (arith, line_len, starts);
      object = object ∙ ap (λ n. (type_word type ++ decimal n) ++ 0 ∷ take size next) (sym size_is)
          ∙ ap (λ l. typed_object type (take size l)) (behind_line kind type view line size found);
      behind = drop-set-lt (line + 1) view line 0 (omega arith);
      digits = take-set-le (2 * id_len kind) view line 0 (omega (arith, line_len));
    }
