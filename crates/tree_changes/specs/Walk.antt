-- Two trees gone through side by side: what differs, and what is left.
use Rattle.std.specs.Prelude.{◌≡◌, ◌≢◌, ◌≤◌, ◌+◌, ◌⊎◌, ⊤, ◌↔◌, ℕ, Bool, true, cond, List, [], ◌∷◌, ◌++◌, All, Contains}
use Rattle.std.specs.Prelude.{length, take, drop, Option, option_map, IfSome}
use Rattle.std.specs.List.{sum_by}
use Rattle.std.specs.Option.{option_to_list}
use Rattle.std.specs.Ordering.{nat_cmp}
use Rattle.std.specs.Cmp.Lexicographic.{slice_cmp}
use Rattle.std.specs.declared.cmp.Ordering.TheVariants.{Less}
use Rattle.gix_hash_core.specs.declared.kind.Kind.{Kind}
use Rattle.tree_objects.specs.Tree.{TreeEntry, AreEntriesAnd, IsName, key_of}
use Rattle.tree_objects.specs.Tree.{AreInOrder}
use Rattle.tree_changes.specs.Stands.{World, Item, item_of, item_at, item_id, entries_of, is_directory, slashed}
use Rattle.tree_changes.specs.Changes.{one_if_some}
use Rattle.tree_changes.specs.declared.trees.Level.{Level}

-- What differs at a path: directories there, or what is none, before and after.
pub record Change : Type 0 where
  pub directory : Bool
  pub directories : List (List ℕ)
  pub name : List ℕ
  pub old : Option Item
  pub new : Option Item

-- it is what differs there below these entries and those
abbrev pub IsChange : World → List TreeEntry → List TreeEntry → Change → Type 0
IsChange world olds news c =
    (item_at world c.directory olds c.directories c.name ≡ c.old) × (item_at world c.directory news c.directories c.name ≡ c.new)
    × (c.old ≢ c.new)

-- the change as it is below the first of its directories
abbrev pub under : List (List ℕ) → Change → Change
under directories c =
    record { directory = c.directory; directories = directories; name = c.name; old = c.old; new = c.new }

-- with what the path of a directory ends
abbrev pub end_if : Bool → List ℕ
end_if directory = cond directory (47 ∷ []) []

abbrev pub change_key : Change → List ℕ
change_key c = slashed c.directories ++ (c.name ++ end_if c.directory)

abbrev pub IsEarlier : Change → Change → Type 0
IsEarlier a b = slice_cmp nat_cmp (change_key a) (change_key b) ≡ Less

-- what differs at the name itself of two entries
pub record IsItself (old new : Option TreeEntry) (name : List ℕ) (directory : Bool) (c : Change) : Type 0 where
  pub directory_is : c.directory ≡ directory
  pub top : c.directories ≡ []
  pub name_is : c.name ≡ name
  pub old_is : option_map item_of old ≡ c.old
  pub new_is : option_map item_of new ≡ c.new
  pub differs : c.old ≢ c.new

-- what differs below the directories that they are
pub record IsBelow (world : World) (old new : Option TreeEntry) (name : List ℕ) (directory : Bool) (c : Change) : Type 0 where
  pub directory_is : directory ≡ true
  pub rest : List (List ℕ)
  pub directories_are : c.directories ≡ name ∷ rest
  pub change : IsChange world (entries_of world (item_id (option_map item_of old))) (entries_of world (item_id (option_map item_of
      new))) (under rest c)

abbrev pub IsHere : World → Option TreeEntry → Option TreeEntry → List ℕ → Bool → Change → Type 0
IsHere world old new name directory c = IsItself old new name directory c ⊎ IsBelow world old new name directory c

-- bytes end with these
abbrev pub IsEnd : List ℕ → List ℕ → Type 0
IsEnd bytes end = (front : List ℕ) × (bytes ≡ front ++ end)

-- One side of a pair: its entries are the first, where it is of the name, and others, all behind the name.
pub record IsSide (kind : Kind) (entries : List TreeEntry) (first : Option TreeEntry) (bytes name : List ℕ) (directory : Bool) :
    Type 0 where
  pub rest : List TreeEntry
  pub all : entries ≡ option_to_list first ++ rest
  pub entries_are : AreEntriesAnd kind bytes rest []
  pub in_order : AreInOrder rest
  pub named : IfSome first (λ e. (e.name ≡ name) × (is_directory e.kind ≡ directory))
  pub behind : All (λ e. slice_cmp nat_cmp (name ++ end_if directory) (key_of e) ≡ Less) rest

-- The next difference between entries: what differs is here, or among those that are behind it.
pub record IsNext (kind : Kind) (olds news : List TreeEntry) (old new : Option TreeEntry) (old_bytes new_bytes name : List ℕ)
    (directory : Bool) : Type 0 where
  pub olds_rest : List TreeEntry
  pub news_rest : List TreeEntry
  pub old_entries : AreEntriesAnd kind old_bytes olds_rest []
  pub new_entries : AreEntriesAnd kind new_bytes news_rest []
  pub old_order : AreInOrder olds_rest
  pub new_order : AreInOrder news_rest
  pub named : IsName name
  pub differ : option_map item_of old ≢ option_map item_of new
  pub step : (world : World) (c : Change)
      → IsChange world olds news c ↔ (IsHere world old new name directory c ⊎ IsChange world olds_rest news_rest c)
  pub earlier : (world : World) (c d : Change) → IsHere world old new name directory c → IsChange world olds_rest news_rest d
      → IsEarlier c d

-- What is left of two trees side by side: entries of both, below these directories.
pub record Pending : Type 0 where
  pub directories : List (List ℕ)
  pub olds : List TreeEntry
  pub news : List TreeEntry

abbrev pub IsLeftIn : World → Pending → Change → Type 0
IsLeftIn world p c =
    (rest : List (List ℕ)) × (c.directories ≡ p.directories ++ rest) × IsChange world p.olds p.news (under rest c)

abbrev pub IsLeft : World → List Pending → Change → Type 0
IsLeft world [] c = ⊥
IsLeft world (p ∷ ps) c = IsLeftIn world p c ⊎ IsLeft world ps c

-- what is left of each comes before what is left of those above
abbrev pub AreSorted : World → List Pending → Type 0
AreSorted world [] = ⊤
AreSorted world (p ∷ ps) =
    ((c d : Change) → IsLeftIn world p c → IsLeft world ps d → IsEarlier c d) × AreSorted world ps

-- A level has what is left of two trees; the path begins with the directories that lead to it.
pub record IsLevel (kind : Kind) (path : List ℕ) (level : Level) (p : Pending) : Type 0 where
  pub old_entries : AreEntriesAnd kind (drop level.old_at level.old.items) p.olds []
  pub new_entries : AreEntriesAnd kind (drop level.new_at level.new.items) p.news []
  pub old_order : AreInOrder p.olds
  pub new_order : AreInOrder p.news
  pub fits : level.prefix ≤ length path
  pub prefix : take level.prefix path ≡ slashed p.directories
  pub named : All IsName p.directories

-- levels have what is left, the last of them what is left first
abbrev pub AreLevels : Kind → List ℕ → List Level → List Pending → Type 0
AreLevels kind path levels [] = levels ≡ []
AreLevels kind path levels (p ∷ ps) =
    (above : List Level) × (level : Level) × (levels ≡ above ++ level ∷ []) × IsLevel kind path level p
    × (length p.directories ≡ length above) × AreLevels kind (take level.prefix path) above ps

-- how many trees are read for a change
abbrev pub trees_of : Change → ℕ
trees_of c = cond c.directory (one_if_some c.old + one_if_some c.new) 0

-- the texts of the leaves among changes
abbrev pub leaf_texts : List Change → List (List ℕ)
leaf_texts [] = []
leaf_texts (c ∷ changes) = cond c.directory (leaf_texts changes) ((slashed c.directories ++ c.name) ∷ leaf_texts changes)

abbrev pub AreRisingChanges : List Change → Type 0
AreRisingChanges [] = ⊤
AreRisingChanges (c ∷ changes) = All (IsEarlier c) changes × AreRisingChanges changes

-- What was found between two trees, and what is left, by a world.
pub record IsFoundIn (world : World) (old new : Option (List ℕ)) (found : List Change) (left : List Pending) : Type 0 where
  pub each : All (IsChange world (entries_of world old) (entries_of world new)) found
  pub all : (c : Change) → IsChange world (entries_of world old) (entries_of world new) c → Contains found c ⊎ IsLeft world left c
  pub none_else : (c : Change) → IsLeft world left c → IsChange world (entries_of world old) (entries_of world new) c
  pub rising : AreRisingChanges found
  pub earlier : All (λ c. (d : Change) → IsLeft world left d → IsEarlier c d) found
  pub sorted : AreSorted world left

-- the names of a change are names of entries
abbrev pub HasNames : Change → Type 0
HasNames c = All IsName c.directories × IsName c.name

-- What was found between two trees so far, in whatever world agrees with what was read.
pub record IsFoundSoFar (kind : Kind) (says : World → Type 0) (old new : Option (List ℕ)) (budget : ℕ) (found : List Change)
    (path : List ℕ) (levels : List Level) (trees : ℕ) : Type 0 where
  pub left : List Pending
  pub levels_are : AreLevels kind path levels left
  pub named : All HasNames found
  pub spent : one_if_some old + one_if_some new + sum_by trees_of found + trees ≡ budget
  pub agreed : (world : World) → says world → IsFoundIn world old new found left
