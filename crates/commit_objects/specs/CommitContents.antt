-- What the contents of a commit object say (git-commit-tree, "Commit Information"; Git's book, "Git Objects", "Commit
-- Objects"): a line with the id of the root tree, a line with the id of each parent, in order, and more.
use Rattle.std.specs.Prelude.{◌≡◌, ◌≢◌, ◌<◌, ℕ, List, ◌++◌, length, codes}
use Rattle.std.specs.List.{AllZip, concat}
use Rattle.gix_hash_core.specs.declared.kind.Kind.{Kind}
use Rattle.gix_hash_core.specs.Hexadecimal.{SpellsId}
use Rattle.gix_hash_core.specs.Kind.{id_len}

-- the words that begin the lines with ids
abbrev pub tree_word : List ℕ
tree_word = codes "tree "

abbrev pub parent_word : List ℕ
parent_word = codes "parent "

-- the line is a word, hexadecimal digits, of either case, that spell an id of the kind, and a line feed
abbrev pub IsIdLine : Kind → List ℕ → List ℕ → List ℕ → Type 0
IsIdLine kind word id line =
    (digits : List ℕ) × SpellsId digits id × (length id ≡ id_len kind) × (line ≡ word ++ digits ++ codes "\n")

-- What a commit says: the ids of its root tree and of its parents, in order, and the rest, in which its time stands.
pub record Said : Type 0 where
  pub tree : List ℕ
  pub parents : List (List ℕ)
  pub rest : List ℕ

-- The bytes say this: they are the line of the tree, a line for each parent, and a rest of at least one byte, which does not
-- begin as the line of a parent does.
pub record Says (kind : Kind) (bytes : List ℕ) (said : Said) : Type 0 where
  pub tree_line : List ℕ
  pub parent_lines : List (List ℕ)
  pub whole : bytes ≡ tree_line ++ concat parent_lines ++ said.rest
  pub tree : IsIdLine kind tree_word said.tree tree_line
  pub parents : AllZip (IsIdLine kind parent_word) said.parents parent_lines
  pub some_rest : 0 < length said.rest
  pub no_parent : (next : List ℕ) → said.rest ≢ parent_word ++ next
