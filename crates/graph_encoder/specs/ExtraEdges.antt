-- Parents as a file holds them. (gitformat-commit-graph, "Commit Data" and "Extra Edge List".)
use Rattle.std.specs.Prelude.{ℕ, ◌+◌, List, [], ◌∷◌}
use Rattle.std.specs.List.{flat_map}
use Rattle.graph_encoder.specs.declared.plan.PlanCommit.{PlanCommit}

-- the field of a missing parent
abbrev pub no_parent : ℕ
no_parent = 0x70000000

-- the top bit of a word
abbrev pub top_bit : ℕ
top_bit = 0x80000000

-- one parent and more as words of the extra edge list: the last word has its top bit set
abbrev pub listed_words : ℕ → List ℕ → List ℕ
listed_words parent [] = (top_bit + parent) ∷ []
listed_words parent (next ∷ more) = parent ∷ listed_words next more

-- the extra words of a commit with these parents: of more than two parents the list of those from the second on
abbrev pub extra_words : List ℕ → List ℕ
extra_words [] = []
extra_words (first ∷ []) = []
extra_words (first ∷ second ∷ []) = []
extra_words (first ∷ second ∷ third ∷ more) = listed_words second (third ∷ more)

-- the extra words of commits, one list after another
unfoldable pub all_extra_words : List PlanCommit → List ℕ
all_extra_words commits = flat_map (λ c. extra_words c.parents.items) commits

-- the first parent's field
abbrev pub first_field : List ℕ → ℕ
first_field [] = no_parent
first_field (first ∷ more) = first

-- the second parent's field, where the commit's extra words begin at this index
abbrev pub second_field : ℕ → List ℕ → ℕ
second_field index [] = no_parent
second_field index (first ∷ []) = no_parent
second_field index (first ∷ second ∷ []) = second
second_field index (first ∷ second ∷ third ∷ more) = top_bit + index
