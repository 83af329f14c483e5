-- what is answered of the files that were read, step by step
use Rattle.std.proofs.Common.{◌≡◌, ℕ, suc, Bool, true, false, List, [], ◌∷◌, Option, Some, None, Result, Ok, Err, ap, cond, find}
use Rattle.std.proofs.Common.{map, not, slice_get, string_bytes, sym, subst, take_while, true≢false, ◌∙◌}
use Rattle.std.proofs.lemmas.List.Sums.{take_while-cons}
use Rattle.std.specs.Str.{is_utf8}
use Rattle.graph_folder.specs.Tree.{Tree, is_file}
use Rattle.graph_format.specs.Layer.{Layer}
use Rattle.gix_commitgraph.specs.Paths.{layer_path}
use Rattle.c_opening.specs.KnownOpening.{AnswersAs, KnownAnswer, UnreadPath}
use Rattle.c_opening.specs.KnownOpening.{is_final, or_chain}
use Rattle.c_opening.specs.declared.at_path.Unopened.{Unopened}
use Rattle.c_opening.specs.declared.at_path.Unopened.TheVariants as unopened
use Rattle.c_opening.specs.declared.known.CgKnown.{CgKnown}

-- the answer of an info folder's file is the folder's
pub final_answers : (known : List CgKnown) (file chain : KnownAnswer) (answer : Result (List Layer) Unopened)
    → is_final known answer ≡ true → AnswersAs file answer → AnswersAs (or_chain known file chain) answer
final_answers known file chain (Ok layers) final is = ap (λ (first : KnownAnswer). or_chain known first chain) is
final_answers known file chain (Err (unopened.Unread path)) final is =
    ap (λ (first : KnownAnswer). or_chain known first chain) is
    ∙ ap (λ (b : Bool). cond b (Err (UnreadPath (string_bytes path))) chain) final
final_answers known file chain (Err (unopened.Refused error asked)) final is = absurd (true≢false (sym final))
final_answers known file chain (Err unopened.NoMemory) final is = tt

-- or it leaves the chain
left_chain : (known : List CgKnown) (file chain : KnownAnswer) (answer : Result (List Layer) Unopened)
    → is_final known answer ≡ false → AnswersAs file answer → or_chain known file chain ≡ chain
left_chain known file chain (Ok layers) final is = absurd (true≢false final)
left_chain known file chain (Err (unopened.Unread path)) final is =
    ap (λ (first : KnownAnswer). or_chain known first chain) is
    ∙ ap (λ (b : Bool). cond b (Err (UnreadPath (string_bytes path))) chain) final
left_chain known file chain (Err (unopened.Refused error asked)) final is =
    ap (λ (first : KnownAnswer). or_chain known first chain) is
left_chain known file chain (Err unopened.NoMemory) final is = absurd (true≢false final)

pub chain_answers : (known : List CgKnown) (file chain : KnownAnswer) (first answer : Result (List Layer) Unopened)
    → is_final known first ≡ false → AnswersAs file first → AnswersAs chain answer → AnswersAs (or_chain known file chain) answer
chain_answers known file chain first answer final was is =
    subst (λ (expected : KnownAnswer). AnswersAs expected answer) (sym (left_chain known file chain first final was)) is

-- the lines up to the first that is not UTF-8
taken : (line : List ℕ) (lines : List (List ℕ)) → is_utf8 line ≡ true
    → take_while is_utf8 (line ∷ lines) ≡ line ∷ take_while is_utf8 lines
taken line lines text = take_while-cons is_utf8 line lines ∙ ap (λ (b : Bool). cond b (line ∷ take_while is_utf8 lines) []) text

not_taken : (line : List ℕ) (lines : List (List ℕ)) → is_utf8 line ≡ false → take_while is_utf8 (line ∷ lines) ≡ []
not_taken line lines text =
    take_while-cons is_utf8 line lines ∙ ap (λ (b : Bool). cond b (line ∷ take_while is_utf8 lines) []) text

-- the first layer that was not read, of those that lines name
module _ (tree : Tree) (folder : List ℕ) where
  abbrev pub unread_of : List (List ℕ) → Option (List ℕ)
  unread_of names = find (λ path. not (is_file tree path)) (map (layer_path folder) names)

  pub unread_of-no_text : (line : List ℕ) (lines : List (List ℕ)) → is_utf8 line ≡ false
      → unread_of (take_while is_utf8 (line ∷ lines)) ≡ None
  unread_of-no_text line lines text =
      ap unread_of (not_taken line lines text)

  pub unread_of-read : (line : List ℕ) (lines : List (List ℕ)) → is_utf8 line ≡ true
      → is_file tree (layer_path folder line) ≡ true
      → unread_of (take_while is_utf8 (line ∷ lines)) ≡ unread_of (take_while is_utf8 lines)
  unread_of-read line lines text read =
      ap unread_of (taken line lines text)
      ∙ ap (λ (b : Bool). cond (not b) (Some (layer_path folder line)) (unread_of (take_while is_utf8 lines))) read

  pub unread_of-missing : (line : List ℕ) (lines : List (List ℕ)) → is_utf8 line ≡ true
      → is_file tree (layer_path folder line) ≡ false
      → unread_of (take_while is_utf8 (line ∷ lines)) ≡ Some (layer_path folder line)
  unread_of-missing line lines text missing =
      ap unread_of (taken line lines text)
      ∙ ap (λ (b : Bool). cond (not b) (Some (layer_path folder line)) (unread_of (take_while is_utf8 lines))) missing

-- the file of the layer of a number, of those that lines name
module _ (folder : List ℕ) where
  abbrev pub layer_of_lines : List (List ℕ) → ℕ → Option (List ℕ)
  layer_of_lines names number = slice_get (map (layer_path folder) names) number

  pub layer_of_lines-no_text : (line : List ℕ) (lines : List (List ℕ)) (number : ℕ) → is_utf8 line ≡ false
      → layer_of_lines (take_while is_utf8 (line ∷ lines)) number ≡ None
  layer_of_lines-no_text line lines number text =
      ap (λ (names : List (List ℕ)). layer_of_lines names number)
      (not_taken line lines text)

  pub layer_of_lines-here : (line : List ℕ) (lines : List (List ℕ)) (number : ℕ) → is_utf8 line ≡ true → number ≡ 0
      → layer_of_lines (take_while is_utf8 (line ∷ lines)) number ≡ Some (layer_path folder line)
  layer_of_lines-here line lines number text first =
      ap (λ (names : List (List ℕ)). layer_of_lines names number) (taken line lines text)
      ∙ ap (λ (n : ℕ). slice_get (layer_path folder line ∷ map (layer_path folder) (take_while is_utf8 lines)) n) first

  pub layer_of_lines-next : (line : List ℕ) (lines : List (List ℕ)) (number next : ℕ) → is_utf8 line ≡ true → number ≡ suc next
      → layer_of_lines (take_while is_utf8 (line ∷ lines)) number ≡ layer_of_lines (take_while is_utf8 lines) next
  layer_of_lines-next line lines number next text more =
      ap (λ (names : List (List ℕ)). layer_of_lines names number) (taken line lines text)
      ∙ ap (λ (n : ℕ). slice_get (layer_path folder line ∷ map (layer_path folder) (take_while is_utf8 lines)) n) more
