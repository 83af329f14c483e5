-- A file of five commits, as Git 2.39.5 writes it (gitformat-commit-graph, "HEADER" to "TRAILER"). All have the empty tree:
-- a root of the year 2106, whose time has more than 32 bits; a child of it with a time in 1970, so that its corrected date is
-- 2^31 seconds or more past its time; a later child; a merge of both, older than its second parent; an octopus of all three.
use Rattle.std.specs.Prelude.{ℕ, ◌∷◌, [], ◌++◌, List, Some, codes, take, drop}
use Rattle.std.specs.List.{repeat}
use Rattle.gix_hash_core.specs.declared.kind.Kind.TheVariants.{Sha1}
use Rattle.graph_format.specs.Format.{Record}
use Rattle.graph_format.specs.Layer.{Layer}
use Rattle.example_graph.specs.HexadecimalText.{hex}

-- "HEADER": signature, version 1, SHA-1, six chunks, no base layer
abbrev pub header : List ℕ
header =
    hex (codes "4347504801010600")

-- "CHUNK LOOKUP": the names and offsets of the chunks, and their end
abbrev pub table : List ℕ
table =
    hex (codes "4f494446000000000000005c")
    ++ hex (codes "4f49444c000000000000045c")
    ++ hex (codes "4344415400000000000004c0")
    ++ hex (codes "474441320000000000000574")
    ++ hex (codes "47444f320000000000000588")
    ++ hex (codes "454447450000000000000590")
    ++ hex (codes "000000000000000000000598")

-- so many times the word of a small number
abbrev pub small_words : ℕ → ℕ → List ℕ
small_words count number = repeat count (0 ∷ 0 ∷ 0 ∷ number ∷ [])

-- "OID Fanout"
abbrev pub fan : List ℕ
fan =
    small_words 50 0
    ++ small_words 85 1
    ++ small_words 40 2
    ++ small_words 20 3
    ++ small_words 7 4
    ++ small_words 54 5

-- the ids as Git prints them
abbrev pub root_digits : List ℕ
root_digits = codes "329f3f6254cdc00e460f1d9c13ce0a876d49b1e0"

abbrev pub early_child_digits : List ℕ
early_child_digits = codes "87e10ba00ec2b18b457947ae8cd9c4999a2e1aed"

abbrev pub late_child_digits : List ℕ
late_child_digits = codes "afd65f0affaec612522f9da1cdbfe18cea90451b"

abbrev pub octopus_digits : List ℕ
octopus_digits = codes "c39064019be3e5e844f6db0e213d1a499475c468"

abbrev pub merge_digits : List ℕ
merge_digits = codes "cad1d3c079cf31c45f2587a93bfa0bf7f8a2eb22"

abbrev pub empty_tree_digits : List ℕ
empty_tree_digits = codes "4b825dc642cb6eb9a060e54bf8d69288fbee4904"

-- "OID Lookup": the ids in their order
abbrev pub ids : List ℕ
ids = hex root_digits ++ hex early_child_digits ++ hex late_child_digits ++ hex octopus_digits ++ hex merge_digits

-- "Commit Data": of each commit the empty tree, both parent fields, and generation number and time
abbrev pub records : List ℕ
records =
    hex (codes "4b825dc642cb6eb9a060e54bf8d69288fbee490470000000700000000000000500000004")
    ++ hex (codes "4b825dc642cb6eb9a060e54bf8d69288fbee4904000000007000000000000008000003e8")
    ++ hex (codes "4b825dc642cb6eb9a060e54bf8d69288fbee490400000000700000000000000900000068")
    ++ hex (codes "4b825dc642cb6eb9a060e54bf8d69288fbee4904000000018000000000000011000000cc")
    ++ hex (codes "4b825dc642cb6eb9a060e54bf8d69288fbee490400000001000000020000000d00000036")

-- "Generation Data": seconds from the time to the corrected date
abbrev pub offsets : List ℕ
offsets =
    hex (codes "00000000")
    ++ hex (codes "80000000")
    ++ hex (codes "00000000")
    ++ hex (codes "00000000")
    ++ hex (codes "00000033")

-- "Generation Data Overflow": those of the second commit
abbrev pub overflow : List ℕ
overflow =
    hex (codes "00000000fffffc1d")

-- "Extra Edge List": the parents of the octopus from the second on
abbrev pub edges : List ℕ
edges =
    hex (codes "00000002")
    ++ hex (codes "80000004")

-- "TRAILER"
abbrev pub checksum : List ℕ
checksum =
    hex (codes "3ea3e8943b9cde8fd92aace19a9f9ccdc1b12b8b")

-- all before the trailer
unfoldable pub body : List ℕ
body = header ++ table ++ fan ++ ids ++ records ++ offsets ++ overflow ++ edges

-- the file
unfoldable pub file : List ℕ
file = body ++ checksum

-- the number of commits whose first byte is at most each byte
abbrev pub fan_numbers : List ℕ
fan_numbers =
    repeat 50 (0 ∷ [])
    ++ repeat 85 (1 ∷ [])
    ++ repeat 40 (2 ∷ [])
    ++ repeat 20 (3 ∷ [])
    ++ repeat 7 (4 ∷ [])
    ++ repeat 54 (5 ∷ [])

-- the ids in their order
abbrev pub commit_ids : List (List ℕ)
commit_ids = hex root_digits ∷ hex early_child_digits ∷ hex late_child_digits ∷ hex octopus_digits ∷ hex merge_digits ∷ []

-- the id of the empty tree
abbrev pub empty_tree : List ℕ
empty_tree = hex empty_tree_digits

-- the field of a missing parent
abbrev pub no_parent : ℕ
no_parent = 0x70000000

-- what the file says of them
abbrev pub commits : List Record
commits =
    record { tree = empty_tree; parent1 = no_parent; parent2 = no_parent; generation = 1; time = 4294967300 }
    ∷ record { tree = empty_tree; parent1 = 0; parent2 = no_parent; generation = 2; time = 1000 }
    ∷ record { tree = empty_tree; parent1 = 0; parent2 = no_parent; generation = 2; time = 4294967400 }
    ∷ record { tree = empty_tree; parent1 = 1; parent2 = 0x80000000; generation = 4; time = 4294967500 }
    ∷ record { tree = empty_tree; parent1 = 1; parent2 = 2; generation = 3; time = 4294967350 }
    ∷ []

-- the layer
unfoldable pub layer : List ℕ → Layer
layer path =
    record {
      kind = Sha1;
      bases = [];
      fan = fan_numbers;
      ids = commit_ids;
      records = commits;
      edges = Some edges;
      checksum = checksum;
      body = body;
      path = path;
    }

-- damaged copies: a byte of the trailer is another
unfoldable pub other_trailer : List ℕ
other_trailer = body ++ hex (codes "3ea3e8943b9cde8fd92aace19a9f9ccdc1b12b8a")

-- the fan falls to 4 at the byte 255
unfoldable pub falling_fan : List ℕ
falling_fan =
    header ++ table ++ take 1020 fan ++ small_words 1 4
    ++ ids ++ records ++ offsets ++ overflow ++ edges ++ checksum

-- the octopus has the generation number 5 in place of 4, and the trailer is the digest of that
unfoldable pub wrong_generation : List ℕ
wrong_generation =
    take 1355 body ++ 21 ∷ drop 1356 body ++ hex (codes "c1b4384a99c7f8100b4101a891e076a04234eb71")
