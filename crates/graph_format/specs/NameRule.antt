-- The file name rule: what the name of a layer's file may be, beside its checksum. A layer of a chain is the file
-- `graph-{hash}.graph`, where {hash} is its checksum. (Git's commit-graph design, "Commit-Graphs Chains"; "TRAILER".)
use Rattle.std.specs.Prelude.{◌≡◌, ◌==◌, ◌-◌, ◌&&◌, ◌||◌, ℕ, Bool, true, not, List, [], ◌++◌, filter, length, take, drop, codes}
use Rattle.std.specs.Prelude.{slice_get, slice_range, bytes_eq, nat_le, Option, Some}
use Rattle.std.specs.List.{slice_split}
use Rattle.std.specs.Option.{option_map_or}
use Rattle.gix_hash_core.specs.Hexadecimal.{SpellsId, spells_id}

-- a part of a path between slashes names something where it is neither empty nor `.`
abbrev pub is_name : List ℕ → Bool
is_name part = not (bytes_eq part []) && not (bytes_eq part (codes "."))

-- the names in a path, from the first on
abbrev pub names_in : List ℕ → List (List ℕ)
names_in path = filter is_name (slice_split (λ byte. byte == 47) path)

-- the name of a path is the last of them; a path may have none
unfoldable pub name_of : List ℕ → Option (List ℕ)
name_of path = slice_get (names_in path) (length (names_in path) - 1)

-- The rule: where the name is `graph-`, a text and `.graph`, the text spells the checksum, with digits of either case.
abbrev pub KeepsNameRule : List ℕ → List ℕ → Type 0
KeepsNameRule path checksum = (text : List ℕ) → name_of path ≡ Some (codes "graph-" ++ (text ++ codes ".graph"))
    → SpellsId text checksum

-- the name is `graph-`, a text and `.graph`
abbrev pub is_chain_name : List ℕ → Bool
is_chain_name name =
    nat_le 12 (length name)
    && (bytes_eq (take 6 name) (codes "graph-") && bytes_eq (drop (length name - 6) name) (codes ".graph"))

-- that text
abbrev pub hash_text : List ℕ → List ℕ
hash_text name = slice_range name 6 (length name - 6)

-- the rule as a test, which holds exactly where `KeepsNameRule` does
unfoldable pub is_named_right : List ℕ → List ℕ → Bool
is_named_right path checksum =
    option_map_or (λ name. not (is_chain_name name) || spells_id (hash_text name) checksum) (name_of path) true
