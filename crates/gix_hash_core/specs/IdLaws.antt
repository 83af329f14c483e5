-- What holds of all ids, as lists of bytes.
use Rattle.std.specs.Prelude.{◌≡◌, ◌↔◌, ◌⊎◌, ◌<◌, ℕ, List, IsTrue, length, nat_eq, slice_index, take}
use Rattle.std.specs.Cmp.Lexicographic.{pointwise, slice_cmp}
use Rattle.std.specs.Ordering.{nat_cmp}
use Rattle.std.specs.declared.cmp.Ordering.TheVariants.{Less, Equal, Greater}
use Rattle.hex.specs.Hex.{IsBytes, encode_lower}
use Rattle.gix_hash_core.specs.Hexadecimal.{SpellsId}
use Rattle.gix_hash_core.specs.Kind.{id_len, is_id_len}
use Rattle.gix_hash_core.specs.declared.kind.Kind.{Kind}

-- The first list comes before the second. They agree up to a place, where the first has ended and
-- the second has not, or where the first has the lesser byte.
pub record IsBefore (first second : List ℕ) : Type 0 where
  pub place : ℕ
  pub agree : take place first ≡ take place second
  pub goes_on : place < length second
  pub comes_first : (place ≡ length first) ⊎ ((place < length first) × (slice_index first place < slice_index second place))

-- the comparisons of ids say whether two lists are the same, and if not, which comes first
pub record AreOrdered (first second : List ℕ) : Type 0 where
  pub equal : IsTrue (pointwise nat_eq first second) ↔ (first ≡ second)
  pub same : (slice_cmp nat_cmp first second ≡ Equal) ↔ (first ≡ second)
  pub before : (slice_cmp nat_cmp first second ≡ Less) ↔ IsBefore first second
  pub after : (slice_cmp nat_cmp first second ≡ Greater) ↔ IsBefore second first

-- kinds whose ids are both as long as one list are one kind
abbrev pub AreOfOneKind : Kind → Kind → List ℕ → Type 0
AreOfOneKind one other id = length id ≡ id_len one → length id ≡ id_len other → one ≡ other

-- the digits of an id spell that id
abbrev pub IsReadBack : List ℕ → Type 0
IsReadBack id = IsTrue (is_id_len (length id)) → IsBytes id → SpellsId (encode_lower id) id
