-- Objects that are asked for: `git cat-file --batch` reads ids, one a line, and answers each with an entry (git-cat-file,
-- "BATCH OUTPUT").
use Rattle.std.specs.Prelude.{◌≡◌, ℕ, List, [], ◌∷◌, ◌++◌, drop, slice_get, Some}
use Rattle.hex.specs.Hex.{encode_lower}
use Rattle.gix_hash_core.specs.declared.kind.Kind.{Kind}
use Rattle.object_stream.specs.declared.object_type.ObjectType.{ObjectType}

-- Objects of a type that were asked for, whose ids are of a kind: the ids, in the order in which they were asked for; of how many
-- the entries were taken; the contents of the last of these; and the bytes behind that entry which were read already.
pub record Asked : Type 0 where
  pub kind : Kind
  pub type : ObjectType
  pub asked : List (List ℕ)
  pub taken : ℕ
  pub contents : List ℕ
  pub ahead : List ℕ

-- the line by which an object is asked for
abbrev pub request_line : List ℕ → List ℕ
request_line id = encode_lower id ++ 10 ∷ []

-- the ids whose entries were not taken, those that were asked for first in front
abbrev pub waiting : Asked → List (List ℕ)
waiting r = drop r.taken r.asked

-- how many may be waiting
abbrev pub most_waiting : ℕ
most_waiting = 64

-- no id stands in two places
abbrev pub AreEachOnce : List (List ℕ) → Type 0
AreEachOnce ids = (i j : ℕ) (id : List ℕ) → slice_get ids i ≡ Some id → slice_get ids j ≡ Some id → i ≡ j

-- with one more id that was asked for
abbrev pub with_asked : Asked → List ℕ → Asked
with_asked r id = record r { asked = r.asked ++ id ∷ [] }
