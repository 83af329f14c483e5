-- The first word ends at the first space, or with the text.
use Rattle.std.proofs.Common.{ℕ, ◌+◌, List, ◌∷◌, ap, sym, take, ◌∙◌}
use Rattle.std.proofs.lemmas.List.{take_rest}
use Rattle.question_lines.specs.Questions.{words_of}
use Rattle.question_lines.proofs.QuestionLemmas.{one_word, split_at_space}
use Rattle.question_lines.proofs.words.split_word.Goals as goal

pub returns-in-Some : goal.returns-in-Some
returns-in-Some c =
    split_at_space c.args.text.now c.in-Some.place c.in-Some.ensures
    ∙ ap (λ (left : List ℕ). take c.in-Some.place c.args.text.now ∷ words_of left)
    (sym (take_rest c.args.text.now (c.in-Some.place + 1)))

pub returns-in-None : goal.returns-in-None
returns-in-None c = one_word c.args.text.now c.in-None.ensures
