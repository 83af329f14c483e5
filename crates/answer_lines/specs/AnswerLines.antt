-- The lines of what is found of the commits with some ids.
use Rattle.std.specs.Prelude.{◌==◌, ℕ, List, [], ◌∷◌, Bool, true, false, Option, Some, None, codes, decimal, length, not}
use Rattle.std.specs.List.{flat_map, zip}
use Rattle.hex.specs.Hex.{encode_lower}
use Rattle.graph_format.specs.declared.Position.{Position}
use Rattle.graph_bases.specs.declared.bases.Comparison.{Comparison}
use Rattle.answers.specs.declared.answer.Answer.{Answer}
use Rattle.answers.specs.declared.answer.Answer.TheVariants.{Unknown, Known}
use Rattle.answers.specs.declared.comparison.IdComparison.{IdComparison}
use Rattle.answer_lines.specs.declared.reply.Form.{Form}
use Rattle.answer_lines.specs.declared.reply.Form.TheVariants.{Whole, IdsAlone}
use Rattle.graph_commands.specs.Ancestor.{visits_line}
use Rattle.graph_commands.specs.Text.{◌⧺◌, newline}

-- which id is missing, by its number
abbrev pub unknown_line : ℕ → List ℕ
unknown_line number = codes "unknown " ⧺ decimal number ⧺ newline

-- that, or the lines of what is known
abbrev pub answer_text : {A : Type 0} → (A → List ℕ) → Answer A → List ℕ
answer_text lines_of (Unknown number) = unknown_line number
answer_text lines_of (Known answer) = lines_of answer

-- whether it is so
abbrev pub word_line : Bool → List ℕ
word_line true = codes "yes" ⧺ newline
word_line false = codes "no" ⧺ newline

-- the line of an id: its bytes in lower-case hexadecimal
abbrev pub id_line : List ℕ → List ℕ
id_line id = encode_lower id ⧺ newline

-- the line of each id on a walk, or that there is none
abbrev pub walk_lines : Option (List (List ℕ)) → List ℕ
walk_lines (Some ids) = flat_map id_line ids
walk_lines None = codes "none" ⧺ newline

-- the line of a base: its position and its id
abbrev pub line_of_base : Position × List ℕ → List ℕ
line_of_base base = codes "base " ⧺ decimal base.0.0 ⧺ codes " " ⧺ encode_lower base.1 ⧺ newline

-- these lines of bases, or that there is none
abbrev pub lines_or_none : List Position → List ℕ → List ℕ
lines_or_none [] lines = codes "none" ⧺ newline
lines_or_none (base ∷ bases) lines = lines

-- how many commits are on one side alone
abbrev pub divergence_line : ℕ → ℕ → List ℕ
divergence_line ahead behind = codes "ahead " ⧺ decimal ahead ⧺ codes " behind " ⧺ decimal behind ⧺ newline

-- the same, and how many were visited
abbrev pub counts_text : Comparison → List ℕ
counts_text comparison =
    divergence_line comparison.divergence.ahead comparison.divergence.behind ⧺ visits_line comparison.bases.visits

-- what commits have in common
abbrev pub comparison_lines : Form → IdComparison (List (List ℕ)) → List ℕ
comparison_lines Whole compared =
    let bases = compared.comparison.bases.positions.items in
    lines_or_none bases (flat_map line_of_base (zip bases compared.base_ids)) ⧺ counts_text compared.comparison
comparison_lines IdsAlone compared =
    lines_or_none compared.comparison.bases.positions.items (flat_map id_line compared.base_ids)

-- whether there are bases
abbrev pub has_bases : List Position → Bool
has_bases bases = not (length bases == 0)

-- a parent in the line of the parents
abbrev pub parent_text : List ℕ → List ℕ
parent_text id = codes " " ⧺ encode_lower id

-- the line of the parents
abbrev pub parents_line : List (List ℕ) → List ℕ
parents_line ids = codes "parents" ⧺ flat_map parent_text ids ⧺ newline
