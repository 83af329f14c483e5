-- From the words of a line to the question that it asks.
use Rattle.std.proofs.Common.{◌≡◌, ◌≢◌, ℕ, ◌+◌, ◌≤◌, List, [], ◌∷◌, ◌++◌, suc, Result, Ok, Err, IfErr, IfOk, OnErr, Bool, true}
use Rattle.std.proofs.Common.{false, Vec, vec_len, add-one, append-nil, append_assoc, drop, length, take, refl, sym, ap, subst}
use Rattle.std.proofs.Common.{◌∙◌, arith}
use Rattle.std.specs.Prelude.{◌==◌, if◌then◌else◌}
use Rattle.std.specs.List.{AllZip}
use Rattle.std.specs.Result.{is_err}
use Rattle.std.specs.Global.{Global}
use Rattle.std.proofs.lemmas.Bool.{eq-eqb, eqb-true}
use Rattle.std.proofs.Math.Seq.{drop-cons}
use Rattle.std.proofs.lemmas.List.{length-append, nil_from_length, take-append-drop}
use Rattle.std.proofs.lemmas.List.Elements.{length_all_zip}
use Rattle.std.proofs.lemmas.List.Splits.{slice_split_at, slice_split_none}
use Rattle.hex.proofs.HexLemmas.{decode_of-ok}
use Rattle.gix_hash_core.specs.Hexadecimal.{SpellsId, SpellsNone}
use Rattle.gix_hash_core.specs.declared.object_id.IdError.{IdError}
use Rattle.gix_hash_core.specs.declared.object_id.IdError.TheVariants.{Length, Digit}
use Rattle.question_lines.specs.InputLines.{most_line_bytes}
use Rattle.question_lines.specs.Questions.{AsksNothing, HasAllIds, name_text, question_ids, question_name, words_of}
use Rattle.question_lines.specs.BytePlaces.{HasNone, IsFirstPlace}
use Rattle.question_lines.specs.WordsLeft.{BeginWithId, BeginWithNoId, FitName}
use Rattle.question_lines.specs.declared.question.Question.{Question}
use Rattle.question_lines.specs.declared.question.Question.TheVariants as question
use Rattle.question_lines.specs.declared.question.Name.{Name}
use Rattle.question_lines.specs.declared.question.Name.TheVariants.{Find, IsAncestor, Walk, MergeBase, Parents, Reload}

none_spelled : (text id : List ℕ) (error : IdError) → SpellsNone text error → ¬ (SpellsId text id)
none_spelled text id Length none spells = none spells.0
none_spelled text id Digit none spells = none.1 (decode_of-ok text id spells.1).1

-- where the first word spells no id, no ids are spelled
pub no_first : (words : List (List ℕ)) → BeginWithNoId words → (id : List ℕ) (ids : List (List ℕ))
    → ¬ (AllZip SpellsId words (id ∷ ids))
no_first [] none id ids all = all
no_first (text ∷ others) none id ids all = none_spelled text id none.0 none.1 all.0

-- one id is spelled, and then others
pub first_spelled : (words others : List (List ℕ)) (id : List ℕ) (ids : List (List ℕ)) → BeginWithId words others id
    → AllZip SpellsId others ids → AllZip SpellsId words (id ∷ ids)
first_spelled words others id ids first rest =
    subst (λ (w : List (List ℕ)). AllZip SpellsId w (id ∷ ids)) (sym first.1) (first.2, rest)

-- the others spell the other ids
pub others_spelled : (words others : List (List ℕ)) (id first : List ℕ) (ids : List (List ℕ)) → BeginWithId words others id
    → AllZip SpellsId words (first ∷ ids) → AllZip SpellsId others ids
others_spelled words others id first ids begins all =
    (subst (λ (w : List (List ℕ)). AllZip SpellsId w (first ∷ ids)) begins.1 all).1

-- a word too many spells no id of none
pub one_too_many : (words others : List (List ℕ)) (word : List ℕ) → words ≡ word ∷ others → ¬ (AllZip SpellsId words [])
one_too_many words others word is all = subst (λ (w : List (List ℕ)). AllZip SpellsId w []) is all

fit_name : (asked : Question) → HasAllIds asked → FitName (question_name asked) (question_ids asked)
fit_name (question.Find id) has = (id, refl)
fit_name (question.IsAncestor first second) has = (first, second, refl)
fit_name (question.Walk first second) has = (first, second, refl)
fit_name (question.MergeBase first others) has = (first, others.items, refl, has)
fit_name (question.Parents id) has = (id, refl)
fit_name question.Reload has = refl

-- the name that begins with a letter
letter_name : ℕ → Name
letter_name letter =
    if letter == 102 then Find
    else (if letter == 105 then IsAncestor else (if letter == 119 then Walk else (if letter == 109 then MergeBase
    else (if letter == 112 then Parents else Reload))))

first_letter : List ℕ → ℕ
first_letter [] = 0
first_letter (letter ∷ letters) = letter

abbrev named_by : List ℕ → Name
named_by text = letter_name (first_letter text)

named_back : (name : Name) → named_by (name_text name) ≡ name
unfolding letter_name first_letter
named_back Find = refl
named_back IsAncestor = refl
named_back Walk = refl
named_back MergeBase = refl
named_back Parents = refl
named_back Reload = refl

-- a text is the word of one name
one_name : (name other : Name) → name_text name ≡ name_text other → name ≡ other
one_name name other same = sym (named_back name) ∙ ap named_by same ∙ named_back other

-- no ids fit the name and are spelled
pub nothing_asked : (line word : List ℕ) (texts : List (List ℕ)) (name : Name) → words_of line ≡ word ∷ texts
    → word ≡ name_text name → ((ids : List (List ℕ)) → FitName name ids → ¬ (AllZip SpellsId texts ids)) → AsksNothing line
nothing_asked line word texts name are is none asked asks =
    let whole : word ∷ texts ≡ name_text (question_name asked) ∷ asks.0 = sym are ∙ asks.2 in
    let same : question_name asked ≡ name = one_name (question_name asked) name (let e : name_text (question_name asked) ≡
    name_text name = cc in e) in
    let those : asks.0 ≡ texts = cc in
    none (question_ids asked) (subst (λ (n : Name). FitName n (question_ids asked)) same (fit_name asked asks.4))
    (subst (λ (t : List (List ℕ)). AllZip SpellsId t (question_ids asked)) those asks.3)

-- the first word is no name
pub unnamed : (line word : List ℕ) (texts : List (List ℕ)) → words_of line ≡ word ∷ texts
    → ((name : Name) → word ≢ name_text name) → AsksNothing line
unnamed line word texts are none asked asks =
    let whole : word ∷ texts ≡ name_text (question_name asked) ∷ asks.0 = sym are ∙ asks.2 in
    none (question_name asked) cc

-- a line of more than a megabyte asks nothing
pub too_long : (line : List ℕ) → most_line_bytes + 1 ≤ length line → AsksNothing line
too_long line long asked asks = omega (arith, asks.1)

-- the first word ends at the first space
pub split_at_space : (text : List ℕ) (place : ℕ) → IsFirstPlace 32 text place
    → words_of text ≡ take place text ∷ words_of (drop (place + 1) text)
split_at_space text place at =
    let parts : text ≡ take place text ++ 32 ∷ drop (place + 1) text =
    sym (take-append-drop place text) ∙ ap (λ (l : List ℕ). take place text ++ l)
    (drop-cons text place 0 at.0 ∙ ap (λ (b : ℕ). b ∷ drop (suc place) text) at.2
    ∙ ap (λ (n : ℕ). 32 ∷ drop n text) (sym (add-one place))) in
    ap words_of parts ∙ slice_split_at (λ b. b == 32) (take place text) 32 (drop (place + 1) text) at.1 refl

-- a text without a space is one word
pub one_word : (text : List ℕ) → HasNone 32 text → words_of text ≡ text ∷ []
one_word text none = slice_split_none (λ b. b == 32) text none

-- one more word spells an id
spelled_push : (texts ids : List (List ℕ)) (text id : List ℕ) → AllZip SpellsId texts ids → SpellsId text id
    → AllZip SpellsId (texts ++ text ∷ []) (ids ++ id ∷ [])
spelled_push [] [] text id all here = (here, tt)
spelled_push [] (other ∷ ids) text id all here = absurd all
spelled_push (other ∷ texts) [] text id all here = absurd all
spelled_push (other ∷ texts) (one ∷ ids) text id all here = (all.0, spelled_push texts ids text id all.1 here)

-- Words were read, of which these are left.
pub record AreRead (words left ids : List (List ℕ)) : Type 0 where
  pub texts : List (List ℕ)
  pub parts : words ≡ texts ++ left
  pub spelled : AllZip SpellsId texts ids

pub none_read : (words : List (List ℕ)) → AreRead words words []
none_read words = record { texts = []; parts = refl; spelled = tt }

pub one_read : (words left others ids : List (List ℕ)) (id : List ℕ) → AreRead words left ids → BeginWithId left others id
    → AreRead words others (ids ++ id ∷ [])
one_read words left others ids id so begins = record {
  texts = so.texts ++ begins.0 ∷ [];
  parts = so.parts ∙ ap (λ (l : List (List ℕ)). so.texts ++ l) begins.1 ∙ sym (append_assoc so.texts (begins.0 ∷ []) others);
  spelled = spelled_push so.texts ids begins.0 id so.spelled begins.2;
}

-- no word is left
pub all_read : (words left ids : List (List ℕ)) → AreRead words left ids → left ≡ [] → AllZip SpellsId words ids
all_read words left ids so none =
    subst (λ (w : List (List ℕ)). AllZip SpellsId w ids)
    (sym (so.parts ∙ ap (λ (l : List (List ℕ)). so.texts ++ l) none ∙ append-nil so.texts)) so.spelled

-- a word among others spells an id, as they do
spelled_at : (texts others ids : List (List ℕ)) (text : List ℕ) → AllZip SpellsId (texts ++ text ∷ others) ids
    → (id : List ℕ) × SpellsId text id
spelled_at [] others [] text all = absurd all
spelled_at [] others (id ∷ ids) text all = (id, all.0)
spelled_at (one ∷ texts) others [] text all = absurd all
spelled_at (one ∷ texts) others (id ∷ ids) text all = spelled_at texts others ids text all.1

-- where the next word spells no id, not all do
pub not_spelled : (words left ids those : List (List ℕ)) (text : List ℕ) (others : List (List ℕ)) (error : IdError)
    → AreRead words left ids → left ≡ text ∷ others → SpellsNone text error → ¬ (AllZip SpellsId words those)
not_spelled words left ids those text others error so is none all =
    let at = spelled_at so.texts others those text (subst (λ (w : List (List ℕ)). AllZip SpellsId w those)
    (so.parts ∙ ap (λ (l : List (List ℕ)). so.texts ++ l) is) all) in
    none_spelled text at.0 error none at.1

-- where all words spell ids and the next spells none, none is left
pub none_left : (words left ids those : List (List ℕ)) → AreRead words left ids → AllZip SpellsId words those
    → BeginWithNoId left → left ≡ []
none_left words [] ids those so all none = refl
none_left words (text ∷ others) ids those so all none =
    absurd (not_spelled words (text ∷ others) ids those text others none.0 so refl none.1 all)

-- two words at least
pub two_at_least : (words left others ids those : List (List ℕ)) (first id : List ℕ) → AreRead words left (first ∷ ids)
    → BeginWithId left others id → AllZip SpellsId words those → 2 ≤ length those
two_at_least words left others ids those first id so begins all =
    omega (
      arith,
      length_all_zip SpellsId words those all,
      length_all_zip SpellsId so.texts (first ∷ ids) so.spelled,
      ap length so.parts,
      length-append so.texts left,
      ap length begins.1,
    )

-- one word alone
pub one_alone : (words : List (List ℕ)) (first other : List ℕ) (others : List (List ℕ)) → AllZip SpellsId words (first ∷ [])
    → others ≢ [] → ¬ (AllZip SpellsId words (other ∷ others))
one_alone words first other [] one some all = some refl
one_alone words first other (more ∷ others) one some all =
    omega (arith, length_all_zip SpellsId words (first ∷ []) one, length_all_zip SpellsId words (other ∷ more ∷ others) all)

-- whether a text was read as an id, by a test
pub read_id : (text : List ℕ) (read : Result (List ℕ) IdError) → IfOk read (SpellsId text) → is_err read ≡ false
    → (id : List ℕ) × SpellsId text id
read_id text (Ok id) spells refused = (id, spells)
read_id text (Err error) spells refused = cc refused

pub read_none : (text : List ℕ) (read : Result (List ℕ) IdError) → IfErr read (SpellsNone text) → is_err read ≡ true
    → (error : IdError) × SpellsNone text error
read_none text (Ok id) none refused = cc refused
read_none text (Err error) none refused = (error, none)

-- a fact of any error
pub on_err : {T E : Type 0} (result : Result T E) (Fact : Type 0) → Fact → OnErr result Fact
on_err (Ok value) Fact fact = tt
on_err (Err error) Fact fact = fact

-- whether there are others, by a test
pub no_others : (others : Vec (List ℕ) Global) (empty : Bool) → empty ≡ (vec_len others == 0) → empty ≡ true → others.items ≡ []
no_others others empty is holds =
    let sized = others.ok in
    let counted = eqb-true (vec_len others) 0 (sym is ∙ holds) in
    nil_from_length others.items (omega (arith, sized.0, counted))

pub some_others : (others : Vec (List ℕ) Global) (empty : Bool) → empty ≡ (vec_len others == 0) → empty ≡ false → others.items ≢
    []
some_others others empty is fails none =
    let sized = others.ok in
    let counted = eq-eqb (vec_len others) 0 (omega (arith, sized.0, ap length none)) in
    cc
