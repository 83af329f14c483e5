-- The entries of `git cat-file --batch` (git-cat-file, "BATCH OUTPUT"): a line with the id, the type and the size, and then the
-- contents and a line feed; or a line that says that the object is missing.
use Rattle.std.specs.Prelude.{◌≡◌, ◌≢◌, ◌<◌, ◌≤◌, ◌^◌, ◌*◌, ◌||◌, ◌&&◌, nat_le, ℕ, Bool, List, [], ◌∷◌, ◌++◌, All}
use Rattle.std.specs.Prelude.{length, take}
use Rattle.std.specs.Prelude.{slice_index, codes, decimal}
use Rattle.std.specs.List.{AllPass}
use Rattle.hex.specs.Hex.{encode_lower}
use Rattle.object_stream.specs.TypedObject.{type_word}
use Rattle.object_stream.specs.declared.heading.Heading.{Heading}
use Rattle.object_stream.specs.declared.heading.Heading.TheVariants.{Missing, Object}
use Rattle.object_stream.specs.declared.object_type.ObjectType.{ObjectType}

-- what stands behind the id of an object of a type, and this many bytes
abbrev pub type_and_size : ObjectType → ℕ → List ℕ
type_and_size type size = 32 ∷ (type_word type ++ decimal size)

-- the line of an object of a type with an id, and this many bytes
abbrev pub object_line : ObjectType → List ℕ → ℕ → List ℕ
object_line type id size = encode_lower id ++ type_and_size type size

-- the entry of an object
abbrev pub object_entry : ObjectType → List ℕ → List ℕ → List ℕ
object_entry type id contents = object_line type id (length contents) ++ 10 ∷ (contents ++ 10 ∷ [])

-- how many bytes the longest line has, its line feed among them: the digits of an id of 32 bytes, a type and a size of 20 digits
abbrev pub longest_line : ℕ
longest_line = 93

-- no line feed is among the bytes
abbrev pub HasNoFeed : List ℕ → Type 0
HasNoFeed bytes = All (λ b. b ≢ 10) bytes

-- The bytes are a line and what is next; the line is no longer than the longest.
pub record IsLine (bytes line next : List ℕ) : Type 0 where
  pub whole : bytes ≡ line ++ 10 ∷ next
  pub one : HasNoFeed line
  pub short : length line < longest_line

-- the bytes end before their first line does
abbrev pub EndsInLine : List ℕ → Type 0
EndsInLine bytes = HasNoFeed bytes × (length bytes < longest_line)

-- the bytes begin with a longer line than any has
abbrev pub BeginsWithLongLine : List ℕ → Type 0
BeginsWithLongLine bytes = HasNoFeed (take longest_line bytes) × (longest_line ≤ length bytes)

-- The first line feed of the bytes stands here, so early that a line ends with it.
pub record IsLineEnd (bytes : List ℕ) (end : ℕ) : Type 0 where
  pub within : end < length bytes
  pub feed : slice_index bytes end ≡ 10
  pub one : HasNoFeed (take end bytes)
  pub short : end < longest_line

-- what may stand behind an id; sizes have 64 bits
abbrev pub IsTail : List ℕ → Heading → Type 0
IsTail tail Missing = tail ≡ codes " missing"
IsTail tail (Object type size) = (size < 2 ^ 64) × (tail ≡ type_and_size type size)

abbrev pub is_lower_digit : ℕ → Bool
is_lower_digit b = (nat_le 48 b && nat_le b 57) || (nat_le 97 b && nat_le b 102)

-- The line has the digits of some id of this many bytes, and then what may stand behind it.
pub record IsObjectLine (n : ℕ) (line digits : List ℕ) (told : Heading) : Type 0 where
  pub sized : length digits ≡ 2 * n
  pub lower : AllPass is_lower_digit digits
  pub tail : List ℕ
  pub whole : line ≡ digits ++ tail
  pub is_tail : IsTail tail told

-- the line is that of no object
abbrev pub IsNoObjectLine : ℕ → List ℕ → Type 0
IsNoObjectLine n line = (digits : List ℕ) (told : Heading) → ¬ IsObjectLine n line digits told

-- The bytes begin with the entry of an object of this type with this id and these contents, and this is next.
pub record BeginsWithEntry (type : ObjectType) (id bytes contents next : List ℕ) : Type 0 where
  pub whole : bytes ≡ object_entry type id contents ++ next
  pub fits : length contents < 2 ^ 64
