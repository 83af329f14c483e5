-- For private contracts: the words that are to come.
use Rattle.std.specs.Prelude.{◌≡◌, ◌≢◌, ℕ, List, [], ◌∷◌, Option, Some, None, ⊤}
use Rattle.std.specs.Borrow.{Bor}
use Rattle.gix_hash_core.specs.Hexadecimal.{SpellsId, SpellsNone}
use Rattle.gix_hash_core.specs.declared.object_id.IdError.{IdError}
use Rattle.question_lines.specs.Questions.{words_of}
use Rattle.question_lines.specs.declared.question.Name.{Name}
use Rattle.question_lines.specs.declared.question.Name.TheVariants.{Find, IsAncestor, Walk, MergeBase, Parents, Reload}

-- the words of what is left of a line, if anything is
abbrev pub words_left : Option (Bor (List ℕ)) → List (List ℕ)
words_left (Some text) = words_of text.now
words_left None = []

-- the first word spells this id, and these are the others
abbrev pub BeginWithId : List (List ℕ) → List (List ℕ) → List ℕ → Type 0
BeginWithId words others id = (text : List ℕ) × (words ≡ text ∷ others) × SpellsId text id

-- there is no first word, or it spells no id
abbrev pub BeginWithNoId : List (List ℕ) → Type 0
BeginWithNoId [] = ⊤
BeginWithNoId (text ∷ others) = (error : IdError) × SpellsNone text error

-- the ids of a question with a name
abbrev pub FitName : Name → List (List ℕ) → Type 0
FitName Find ids = (id : List ℕ) × (ids ≡ id ∷ [])
FitName IsAncestor ids = (first : List ℕ) × (second : List ℕ) × (ids ≡ first ∷ second ∷ [])
FitName Walk ids = (first : List ℕ) × (second : List ℕ) × (ids ≡ first ∷ second ∷ [])
FitName MergeBase ids = (first : List ℕ) × (others : List (List ℕ)) × (ids ≡ first ∷ others) × (others ≢ [])
FitName Parents ids = (id : List ℕ) × (ids ≡ id ∷ [])
FitName Reload ids = ids ≡ []
