-- Lines with ids, as they are read one after another.
use Rattle.std.specs.Prelude.{◌≡◌, ◌<◌, ℕ, zero, suc, ◌+◌, ◌*◌, ◌/◌, List, [], ◌∷◌, ◌++◌, length, take, drop}
use Rattle.std.specs.List.{AllZip, concat}
use Rattle.std.specs.Result.{result_unwrap_or}
use Rattle.hex.specs.Hex.{decode_of, encode_lower}
use Rattle.gix_hash_core.specs.declared.kind.Kind.{Kind}
use Rattle.gix_hash_core.specs.Kind.{id_len}
use Rattle.gix_hash_core.specs.Hexadecimal.{SpellsId}
use Rattle.commit_objects.specs.CommitContents.{IsIdLine, parent_word}

abbrev pub BeginsWithWord : List ℕ → List ℕ → Type 0
BeginsWithWord bytes word = (next : List ℕ) × (bytes ≡ word ++ next)

-- The bytes begin with the line of an id, and this is next.
pub record BeginsWithLine (kind : Kind) (word bytes id next : List ℕ) : Type 0 where
  pub digits : List ℕ
  pub spells : SpellsId digits id
  pub sized : length id ≡ id_len kind
  pub whole : bytes ≡ word ++ (digits ++ 10 ∷ next)

-- The bytes begin with the line of an id as Git writes it, in lower-case digits, and this is next.
pub record BeginsAsWritten (kind : Kind) (word bytes id next : List ℕ) : Type 0 where
  pub sized : length id ≡ id_len kind
  pub whole : bytes ≡ word ++ (encode_lower id ++ 10 ∷ next)

-- the bytes are a line for each of these parents, and then a rest with which the lines end
abbrev pub AreLinesAndRest : Kind → List ℕ → List (List ℕ) → List ℕ → Type 0
AreLinesAndRest kind bytes [] rest = (bytes ≡ rest) × (0 < length rest) × ¬ BeginsWithWord rest parent_word
AreLinesAndRest kind bytes (id ∷ ids) rest =
    (next : List ℕ) × BeginsWithLine kind parent_word bytes id next × AreLinesAndRest kind next ids rest

-- the text is a line for each of these parents
abbrev pub AreParentLines : Kind → List (List ℕ) → List ℕ → Type 0
AreParentLines kind ids text =
    (lines : List (List ℕ)) × AllZip (IsIdLine kind parent_word) ids lines × (text ≡ concat lines)

-- how many bytes the line of a parent has
abbrev pub parent_line_len : Kind → ℕ
parent_line_len kind = length parent_word + 2 * id_len kind + 1

-- the id that digits spell
abbrev pub id_of_digits : List ℕ → List ℕ
id_of_digits digits = result_unwrap_or (decode_of digits) []

-- the id in the line of a parent with which bytes begin
abbrev pub id_in_line : Kind → List ℕ → List ℕ
id_in_line kind bytes = id_of_digits (take (2 * id_len kind) (drop (length parent_word) bytes))

-- the ids in so many lines of parents
abbrev pub ids_in_lines : Kind → ℕ → List ℕ → List (List ℕ)
ids_in_lines kind zero bytes = []
ids_in_lines kind (suc count) bytes = id_in_line kind bytes ∷ ids_in_lines kind count (drop (parent_line_len kind) bytes)

-- the ids in the lines of parents
abbrev pub ids_of_lines : Kind → List ℕ → List (List ℕ)
ids_of_lines kind text = ids_in_lines kind (length text / parent_line_len kind) text
