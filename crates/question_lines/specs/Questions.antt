-- Which line asks which question.
use Rattle.std.specs.Prelude.{◌≡◌, ◌≢◌, ◌≤◌, ◌==◌, ℕ, List, [], ◌∷◌, ⊤, codes, length}
use Rattle.std.specs.List.{AllZip, slice_split}
use Rattle.gix_hash_core.specs.Hexadecimal.{SpellsId}
use Rattle.question_lines.specs.declared.question.Question.{Question}
use Rattle.question_lines.specs.declared.question.Question.TheVariants as question
use Rattle.question_lines.specs.declared.question.Name.{Name}
use Rattle.question_lines.specs.declared.question.Name.TheVariants.{Find, IsAncestor, Walk, MergeBase, Parents, Reload}
use Rattle.question_lines.specs.InputLines.{most_line_bytes}

-- the words of a line: they stand apart by one space
abbrev pub words_of : List ℕ → List (List ℕ)
words_of line = slice_split (λ byte. byte == 32) line

-- the word of a name
abbrev pub name_text : Name → List ℕ
name_text Find = codes "find"
name_text IsAncestor = codes "is-ancestor"
name_text Walk = codes "walk"
name_text MergeBase = codes "merge-base"
name_text Parents = codes "parents"
name_text Reload = codes "reload"

-- the name of a question
abbrev pub question_name : Question → Name
question_name (question.Find id) = Find
question_name (question.IsAncestor first second) = IsAncestor
question_name (question.Walk first second) = Walk
question_name (question.MergeBase first others) = MergeBase
question_name (question.Parents id) = Parents
question_name question.Reload = Reload

-- the ids that it is about
abbrev pub question_ids : Question → List (List ℕ)
question_ids (question.Find id) = id ∷ []
question_ids (question.IsAncestor first second) = first ∷ second ∷ []
question_ids (question.Walk first second) = first ∷ second ∷ []
question_ids (question.MergeBase first others) = first ∷ others.items
question_ids (question.Parents id) = id ∷ []
question_ids question.Reload = []

-- a question for merge bases is about two ids at least
abbrev pub HasAllIds : Question → Type 0
HasAllIds (question.MergeBase first others) = others.items ≢ []
HasAllIds other = ⊤

-- a line asks this question: it has at most a megabyte, and its words are the question's name, and then a text for each of its
-- ids, which spells the id with digits of either case
abbrev pub Asks : List ℕ → Question → Type 0
Asks line asked =
    (texts : List (List ℕ)) × (length line ≤ most_line_bytes) × (words_of line ≡ name_text (question_name asked) ∷ texts)
    × AllZip SpellsId texts (question_ids asked) × HasAllIds asked

-- a line asks nothing
abbrev pub AsksNothing : List ℕ → Type 0
AsksNothing line = (asked : Question) → ¬ Asks line asked

-- the texts of two ids at least follow the name of a question for merge bases
abbrev pub AsksForBases : List ℕ → Type 0
AsksForBases line =
    (texts : List (List ℕ)) × (ids : List (List ℕ)) × (length line ≤ most_line_bytes)
    × (words_of line ≡ name_text MergeBase ∷ texts) × AllZip SpellsId texts ids × (2 ≤ length ids)
