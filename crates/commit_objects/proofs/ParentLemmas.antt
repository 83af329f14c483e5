-- The lines of parents, one after another, and what a commit says.
use Rattle.std.proofs.Common.{◌≡◌, ◌≢◌, ℕ, ◌+◌, ◌*◌, ◌/◌, ◌-◌, ◌<◌, ◌≤◌, List, [], ◌∷◌, ◌++◌, length, take, drop}
use Rattle.std.proofs.Common.{refl, sym, ap, ◌∙◌, arith, append_assoc}
use Rattle.std.proofs.lemmas.List.{length-append, drop-drop}
use Rattle.std.proofs.Math.Seq.{take-append_seam, drop-append_seam}
use Rattle.std.proofs.Math.Nat.{mul-div_cancel_left}
use Rattle.hex.specs.Hex.{decode_of}
use Rattle.std.specs.Result.{result_unwrap_or}
use Rattle.std.specs.List.{AllZip, concat}
use Rattle.gix_hash_core.specs.declared.kind.Kind.{Kind}
use Rattle.gix_hash_core.specs.declared.kind.Kind.TheVariants.{Sha1, Sha256}
use Rattle.gix_hash_core.specs.Kind.{id_len}
use Rattle.gix_hash_core.specs.Hexadecimal.{SpellsId}
use Rattle.commit_objects.specs.CommitContents.{IsIdLine, Said, Says, parent_word, tree_word}
use Rattle.commit_objects.specs.Lines.{BeginsWithWord, BeginsWithLine, AreLinesAndRest, AreParentLines}
use Rattle.commit_objects.specs.Lines.{parent_line_len, id_in_line, ids_in_lines, ids_of_lines}
use Rattle.commit_objects.proofs.LineLemmas.{one_line, line_begins, line_of, line_shorter, digits_len, digits_of_kind}

-- ---- lines and rest, read one after another

-- the parents and the rest are one
pub one_reading : (kind : Kind) (bytes : List ℕ) (ids others : List (List ℕ)) (rest end : List ℕ)
    → AreLinesAndRest kind bytes ids rest → AreLinesAndRest kind bytes others end → (ids ≡ others) × (rest ≡ end)
one_reading kind bytes [] [] rest end first second = (refl, sym first.0 ∙ second.0)
one_reading kind bytes [] (id ∷ ids) rest end first second =
    absurd (first.2 (second.1.digits ++ 10 ∷ second.0, sym first.0 ∙ second.1.whole))
one_reading kind bytes (id ∷ ids) [] rest end first second =
    absurd (second.2 (first.1.digits ++ 10 ∷ first.0, sym second.0 ∙ first.1.whole))
one_reading kind bytes (id ∷ ids) (other ∷ others) rest end first second =
    let line = one_line kind parent_word bytes id first.0 other second.0 first.1 second.1 in
    let same : AreLinesAndRest kind first.0 others end = rw line.1 second.2 in
    let more = one_reading kind first.0 ids others rest end first.2 same in
    (cc (line.0, more.0), more.1)

-- one line and those behind it
pub more_parents : (kind : Kind) (bytes id next : List ℕ) (others : List (List ℕ)) (rest : List ℕ)
    → BeginsWithLine kind parent_word bytes id next → AreLinesAndRest kind bytes others rest
    → (ids : List (List ℕ)) × (others ≡ id ∷ ids) × AreLinesAndRest kind next ids rest
more_parents kind bytes id next [] rest line all = absurd (all.2 (line.digits ++ 10 ∷ next, sym all.0 ∙ line.whole))
more_parents kind bytes id next (other ∷ others) rest line all =
    let same = one_line kind parent_word bytes id next other all.0 line all.1 in
    (others, ap (λ l. l ∷ others) (sym same.0), rw same.1 all.2)

-- Behind some lines of parents: what has parents and a rest behind them has so from them on, and the other way round.
pub record ArePassed (kind : Kind) (from bytes : List ℕ) : Type 0 where
  pub forth : (ids : List (List ℕ)) (rest : List ℕ) → AreLinesAndRest kind bytes ids rest
      → (all : List (List ℕ)) × AreLinesAndRest kind from all rest
  pub back : (all : List (List ℕ)) (rest : List ℕ) → AreLinesAndRest kind from all rest
      → (ids : List (List ℕ)) × AreLinesAndRest kind bytes ids rest

pub none_passed : (kind : Kind) (bytes : List ℕ) → ArePassed kind bytes bytes
none_passed kind bytes = record { forth = λ ids rest lines. (ids, lines); back = λ all rest lines. (all, lines) }

pub one_passed : (kind : Kind) (from bytes id next : List ℕ) → ArePassed kind from bytes
    → BeginsWithLine kind parent_word bytes id next → ArePassed kind from next
one_passed kind from bytes id next passed line = record {
  forth = λ ids rest lines. passed.forth (id ∷ ids) rest (next, line, lines);
  back = λ all rest lines.
      let here = passed.back all rest lines in
      let cut = more_parents kind bytes id next here.0 rest line here.1 in
      (cut.0, cut.2);
}

-- bytes that begin as the line of a parent and are none have no reading
stuck : (kind : Kind) (bytes : List ℕ) → BeginsWithWord bytes parent_word
    → ((id next : List ℕ) → ¬ (BeginsWithLine kind parent_word bytes id next)) → (ids : List (List ℕ)) (rest : List ℕ)
    → ¬ (AreLinesAndRest kind bytes ids rest)
stuck kind bytes begins none [] rest lines = lines.2 (rw lines.0 at begins)
stuck kind bytes begins none (id ∷ ids) rest lines = none id lines.0 lines.1

pub ended : (kind : Kind) (from bytes : List ℕ) → ArePassed kind from bytes → ¬ BeginsWithWord bytes parent_word
    → 0 < length bytes → (ids : List (List ℕ)) × AreLinesAndRest kind from ids bytes
ended kind from bytes passed none some = passed.forth [] bytes (refl, some, none)

pub refused : (kind : Kind) (from bytes : List ℕ) → ArePassed kind from bytes → BeginsWithWord bytes parent_word
    → ((id next : List ℕ) → ¬ (BeginsWithLine kind parent_word bytes id next)) → (ids : List (List ℕ)) (rest : List ℕ)
    → ¬ (AreLinesAndRest kind from ids rest)
refused kind from bytes passed begins none ids rest lines =
    let here = passed.back ids rest lines in
    stuck kind bytes begins none here.0 rest here.1

-- no bytes are no lines and rest
nothing : (kind : Kind) (bytes : List ℕ) → length bytes ≡ 0 → (ids : List (List ℕ)) (rest : List ℕ)
    → ¬ (AreLinesAndRest kind bytes ids rest)
nothing kind bytes none [] rest lines = omega (arith, none, ap length lines.0, lines.1)
nothing kind bytes none (id ∷ ids) rest lines =
    omega (arith, none, line_shorter kind parent_word bytes id lines.0 lines.1)

pub nothing_left : (kind : Kind) (from bytes : List ℕ) → ArePassed kind from bytes → length bytes ≡ 0
    → (ids : List (List ℕ)) (rest : List ℕ) → ¬ (AreLinesAndRest kind from ids rest)
nothing_left kind from bytes passed none ids rest lines =
    let here = passed.back ids rest lines in
    nothing kind bytes none here.0 rest here.1

-- ---- the same as whole texts

-- Lines, one for each id, then a rest.
pub record AreTexts (kind : Kind) (bytes : List ℕ) (ids : List (List ℕ)) (rest : List ℕ) : Type 0 where
  pub lines : List (List ℕ)
  pub whole : bytes ≡ concat lines ++ rest
  pub each : AllZip (IsIdLine kind parent_word) ids lines
  pub some_rest : 0 < length rest
  pub no_parent : (next : List ℕ) → rest ≢ parent_word ++ next

pub texts_of : (kind : Kind) (bytes : List ℕ) (ids : List (List ℕ)) (rest : List ℕ) → AreLinesAndRest kind bytes ids rest
    → AreTexts kind bytes ids rest
texts_of kind bytes [] rest all = record {
  lines = [];
  whole = all.0;
  each = tt;
  some_rest = all.1;
  no_parent = λ next e. all.2 (next, e);
}
texts_of kind bytes (id ∷ ids) rest all =
    let more = texts_of kind all.0 ids rest all.2 in
    let line = line_of kind parent_word bytes id all.0 all.1 in
    record {
      lines = line.0 ∷ more.lines;
      whole = line.2 ∙ ap (λ l. line.0 ++ l) more.whole ∙ sym (append_assoc line.0 (concat more.lines) rest);
      each = (line.1, more.each);
      some_rest = more.some_rest;
      no_parent = more.no_parent;
    }

pub of_texts : (kind : Kind) (ids lines : List (List ℕ)) (rest : List ℕ) → AllZip (IsIdLine kind parent_word) ids lines
    → 0 < length rest → ((next : List ℕ) → rest ≢ parent_word ++ next)
    → AreLinesAndRest kind (concat lines ++ rest) ids rest
of_texts kind [] [] rest each some none = (refl, some, λ begins. none begins.0 begins.1)
of_texts kind [] (line ∷ lines) rest each some none = absurd each
of_texts kind (id ∷ ids) [] rest each some none = absurd each
of_texts kind (id ∷ ids) (line ∷ lines) rest each some none =
    let begins = line_begins kind parent_word id line (concat lines ++ rest) each.0 in
    (concat lines ++ rest, rw (append_assoc line (concat lines) rest) begins, of_texts kind ids lines rest each.1 some none)

-- ---- what a commit says

-- a commit whose lines are read one after another
abbrev pub Reads : Kind → List ℕ → Said → Type 0
Reads kind bytes said =
    (next : List ℕ) × BeginsWithLine kind tree_word bytes said.tree next
    × AreLinesAndRest kind next said.parents said.rest

pub reads_of : (kind : Kind) (bytes : List ℕ) (said : Said) → Says kind bytes said → Reads kind bytes said
reads_of kind bytes said says =
    let next = concat says.parent_lines ++ said.rest in
    let begins = line_begins kind tree_word said.tree says.tree_line next says.tree in
    let whole : bytes ≡ says.tree_line ++ next =
    says.whole ∙ append_assoc says.tree_line (concat says.parent_lines) said.rest in (
      next,
      rw whole begins,
      of_texts kind said.parents says.parent_lines said.rest says.parents says.some_rest says.no_parent,
    )

-- what bytes say is one
pub says_one : (kind : Kind) (bytes : List ℕ) (said other : Said) → Says kind bytes said → Says kind bytes other
    → said ≡ other
says_one kind bytes said other says says_other =
    let first = reads_of kind bytes said says in
    let second = reads_of kind bytes other says_other in
    let line = one_line kind tree_word bytes said.tree first.0 other.tree second.0 first.1 second.1 in
    let same : AreLinesAndRest kind first.0 other.parents other.rest = rw line.1 second.2 in
    let more = one_reading kind first.0 said.parents other.parents said.rest other.rest first.2 same in
    let made : List ℕ → List (List ℕ) → List ℕ → Said = λ t p r. record { tree = t; parents = p; rest = r } in
    ap (λ t. made t said.parents said.rest) line.0 ∙ ap (λ p. made other.tree p said.rest) more.0
    ∙ ap (made other.tree other.parents) more.1

-- what was read is what the bytes say
pub says_of : (kind : Kind) (bytes tree next : List ℕ) (ids : List (List ℕ)) (rest : List ℕ)
    → BeginsWithLine kind tree_word bytes tree next → AreLinesAndRest kind next ids rest
    → Says kind bytes (record { tree = tree; parents = ids; rest = rest })
says_of kind bytes tree next ids rest begins all =
    let line = line_of kind tree_word bytes tree next begins in
    let texts = texts_of kind next ids rest all in
    record {
      tree_line = line.0;
      parent_lines = texts.lines;
      whole = line.2 ∙ ap (λ l. line.0 ++ l) texts.whole ∙ sym (append_assoc line.0 (concat texts.lines) rest);
      tree = line.1;
      parents = texts.each;
      some_rest = texts.some_rest;
      no_parent = texts.no_parent;
    }

pub says_nothing : (kind : Kind) (bytes tree next : List ℕ) → BeginsWithLine kind tree_word bytes tree next
    → ((ids : List (List ℕ)) (rest : List ℕ) → ¬ (AreLinesAndRest kind next ids rest)) → (said : Said)
    → ¬ (Says kind bytes said)
says_nothing kind bytes tree next line none said says =
    let reads = reads_of kind bytes said says in
    let same = one_line kind tree_word bytes said.tree reads.0 tree next reads.1 line in
    none said.parents said.rest (rw same.1 at reads.2)

pub says_no_tree : (kind : Kind) (bytes : List ℕ)
    → ((id next : List ℕ) → ¬ (BeginsWithLine kind tree_word bytes id next)) → (said : Said) → ¬ (Says kind bytes said)
says_no_tree kind bytes none said says =
    let reads = reads_of kind bytes said says in
    none said.tree reads.0 reads.1

-- the rest is no longer than the lines and it
pub rest_within : (kind : Kind) (bytes : List ℕ) (ids : List (List ℕ)) (rest : List ℕ)
    → AreLinesAndRest kind bytes ids rest → length rest ≤ length bytes
rest_within kind bytes ids rest all =
    let texts = texts_of kind bytes ids rest all in
    omega (arith, ap length texts.whole, length-append (concat texts.lines) rest)

-- the lines before the rest
pub lines_before : (kind : Kind) (bytes : List ℕ) (ids : List (List ℕ)) (rest : List ℕ)
    → AreLinesAndRest kind bytes ids rest → AreParentLines kind ids (take (length bytes - length rest) bytes)
lines_before kind bytes ids rest all =
    let texts = texts_of kind bytes ids rest all in
    let count : length bytes - length rest ≡ length (concat texts.lines) =
    omega (arith, ap length texts.whole, length-append (concat texts.lines) rest) in (
      texts.lines,
      texts.each,
      ap (λ n. take n bytes) count ∙ ap (take (length (concat texts.lines))) texts.whole
          ∙ take-append_seam (concat texts.lines) rest,
    )

-- ---- the ids in lines of parents

len_of_line : (kind : Kind) (id line : List ℕ) → IsIdLine kind parent_word id line → length line ≡ parent_line_len kind
len_of_line kind id line is =
    omega (
      arith,
      ap length is.3,
      length-append (parent_word ++ is.0) (10 ∷ []),
      length-append parent_word is.0,
      digits_len is.0 id is.1,
      is.2,
    )

len_of_lines : (kind : Kind) (ids lines : List (List ℕ)) → AllZip (IsIdLine kind parent_word) ids lines
    → length (concat lines) ≡ parent_line_len kind * length ids
len_of_lines kind [] [] each = omega arith
len_of_lines kind [] (line ∷ lines) each = absurd each
len_of_lines kind (id ∷ ids) [] each = absurd each
len_of_lines kind (id ∷ ids) (line ∷ lines) each =
    grind (
      arith,
      len_of_line kind id line each.0,
      len_of_lines kind ids lines each.1,
      length-append line (concat lines),
    )

id_of_line : (kind : Kind) (id line more : List ℕ) → IsIdLine kind parent_word id line
    → id_in_line kind (line ++ more) ≡ id
id_of_line kind id line more is =
    let begins = line_begins kind parent_word id line more is in
    let behind : drop (length parent_word) (line ++ more) ≡ begins.digits ++ 10 ∷ more =
    ap (drop (length parent_word)) begins.whole ∙ drop-append_seam parent_word (begins.digits ++ 10 ∷ more) in
    let len = digits_of_kind kind parent_word (line ++ more) id more begins in
    let front : take (2 * id_len kind) (drop (length parent_word) (line ++ more)) ≡ begins.digits =
    ap (take (2 * id_len kind)) behind ∙ ap (λ n. take n (begins.digits ++ 10 ∷ more)) (sym len)
    ∙ take-append_seam begins.digits (10 ∷ more) in
    ap (λ l. result_unwrap_or (decode_of l) []) front ∙ ap (λ r. result_unwrap_or r []) begins.spells.1

ids_of : (kind : Kind) (ids lines : List (List ℕ)) → AllZip (IsIdLine kind parent_word) ids lines
    → ids_in_lines kind (length ids) (concat lines) ≡ ids
ids_of kind [] [] each = refl
ids_of kind [] (line ∷ lines) each = absurd each
ids_of kind (id ∷ ids) [] each = absurd each
ids_of kind (id ∷ ids) (line ∷ lines) each =
    let first = id_of_line kind id line (concat lines) each.0 in
    let later : drop (parent_line_len kind) (line ++ concat lines) ≡ concat lines =
    ap (λ n. drop n (line ++ concat lines)) (sym (len_of_line kind id line each.0)) ∙ drop-append_seam line (concat lines) in
    ap (λ x. x ∷ ids_in_lines kind (length ids) (drop (parent_line_len kind) (line ++ concat lines))) first
    ∙ ap (λ l. id ∷ ids_in_lines kind (length ids) l) later ∙ ap (λ l. id ∷ l) (ids_of kind ids lines each.1)

line_is_long : (kind : Kind) → 0 < parent_line_len kind
line_is_long Sha1 = omega arith
line_is_long Sha256 = omega arith

-- the lines of parents hold their ids
pub ids_are : (kind : Kind) (ids : List (List ℕ)) (text : List ℕ) → AreParentLines kind ids text
    → ids_of_lines kind text ≡ ids
ids_are kind ids text lines =
    let len : length text ≡ parent_line_len kind * length ids =
    ap length lines.2 ∙ len_of_lines kind ids lines.0 lines.1 in
    let count : length text / parent_line_len kind ≡ length ids =
    ap (λ n. n / parent_line_len kind) len ∙ mul-div_cancel_left (length ids) (line_is_long kind) in
    ap (λ n. ids_in_lines kind n text) count ∙ ap (ids_in_lines kind (length ids)) lines.2
    ∙ ids_of kind ids lines.0 lines.1

-- the first line of a text of lines, and the others
pub first_line : (kind : Kind) (ids : List (List ℕ)) (text id next : List ℕ) → AreParentLines kind ids text
    → BeginsWithLine kind parent_word text id next
    → (more : List (List ℕ)) × (ids ≡ id ∷ more) × AreParentLines kind more next
first_line kind ids text id next lines begins = at ids lines.0 lines.1 lines.2
  where
    at : (ids lines : List (List ℕ)) → AllZip (IsIdLine kind parent_word) ids lines → text ≡ concat lines
        → (more : List (List ℕ)) × (ids ≡ id ∷ more) × AreParentLines kind more next
    at [] [] each e = absurd (omega (arith, ap length e, line_shorter kind parent_word text id next begins))
    at [] (line ∷ lines) each e = absurd each
    at (other ∷ ids) [] each e = absurd each
    at (other ∷ ids) (line ∷ lines) each e =
        let here = line_begins kind parent_word other line (concat lines) each.0 in
        let same = one_line kind parent_word text other (concat lines) id next (rw e here) begins in
        (ids, ap (λ x. x ∷ ids) same.0, (lines, each.1, sym same.1))

-- where no line is, none is left
pub no_line : (kind : Kind) (ids : List (List ℕ)) (text : List ℕ) → AreParentLines kind ids text
    → ((id next : List ℕ) → ¬ (BeginsWithLine kind parent_word text id next)) → ids ≡ []
no_line kind ids text lines none = at ids lines.0 lines.1 lines.2
  where
    at : (ids lines : List (List ℕ)) → AllZip (IsIdLine kind parent_word) ids lines → text ≡ concat lines → ids ≡ []
    at [] [] each e = refl
    at [] (line ∷ lines) each e = absurd each
    at (other ∷ ids) [] each e = absurd each
    at (other ∷ ids) (line ∷ lines) each e =
        absurd (none other (concat lines) (rw e (line_begins kind parent_word other line (concat lines) each.0)))

-- ---- where the parts of the first line stand

-- Some lines begin with one.
pub record HasFirstLine (kind : Kind) (lines : List ℕ) : Type 0 where
  pub id : List ℕ
  pub next : List ℕ
  pub begins : BeginsWithLine kind parent_word lines id next

pub first_there : (kind : Kind) (ids : List (List ℕ)) (text : List ℕ) → AreParentLines kind ids text → 0 < length text
    → HasFirstLine kind text
first_there kind ids text lines some = at ids lines.0 lines.1 lines.2
  where
    at : (ids lines : List (List ℕ)) → AllZip (IsIdLine kind parent_word) ids lines → text ≡ concat lines
        → HasFirstLine kind text
    at [] [] each e = absurd (omega (arith, ap length e, some))
    at [] (line ∷ lines) each e = absurd each
    at (id ∷ ids) [] each e = absurd each
    at (id ∷ ids) (line ∷ lines) each e = record {
      id = id;
      next = concat lines;
      begins = rw e (line_begins kind parent_word id line (concat lines) each.0);
    }

behind_word : (kind : Kind) (word bytes id next : List ℕ) (line : BeginsWithLine kind word bytes id next)
    → drop (length word) bytes ≡ line.digits ++ 10 ∷ next
behind_word kind word bytes id next line =
    ap (drop (length word)) line.whole ∙ drop-append_seam word (line.digits ++ 10 ∷ next)

-- its digits
pub digits_at : (kind : Kind) (word bytes id next : List ℕ) (line : BeginsWithLine kind word bytes id next) (n : ℕ)
    → n ≡ 2 * id_len kind → take n (drop (length word) bytes) ≡ line.digits
digits_at kind word bytes id next line n e =
    ap (take n) (behind_word kind word bytes id next line)
    ∙ ap (λ k. take k (line.digits ++ 10 ∷ next)) (e ∙ sym (digits_of_kind kind word bytes id next line))
    ∙ take-append_seam line.digits (10 ∷ next)

-- what is next
pub next_at : (kind : Kind) (word bytes id next : List ℕ) (line : BeginsWithLine kind word bytes id next) (n place : ℕ)
    → n ≡ 2 * id_len kind → place ≡ length word + (n + 1) → drop place bytes ≡ next
next_at kind word bytes id next line n place e there =
    let behind : drop n (line.digits ++ 10 ∷ next) ≡ 10 ∷ next =
    ap (λ k. drop k (line.digits ++ 10 ∷ next)) (e ∙ sym (digits_of_kind kind word bytes id next line))
    ∙ drop-append_seam line.digits (10 ∷ next) in
    let two : drop (n + 1) (line.digits ++ 10 ∷ next) ≡ drop 1 (drop n (line.digits ++ 10 ∷ next)) =
    ap (λ k. drop k (line.digits ++ 10 ∷ next)) (omega arith) ∙ sym (drop-drop 1 n (line.digits ++ 10 ∷ next)) in
    ap (λ k. drop k bytes) (there ∙ omega arith) ∙ sym (drop-drop (n + 1) (length word) bytes)
    ∙ ap (drop (n + 1)) (behind_word kind word bytes id next line) ∙ two ∙ ap (drop 1) behind

-- how many bytes there are
pub len_with_line : (kind : Kind) (word bytes id next : List ℕ) (line : BeginsWithLine kind word bytes id next)
    → length bytes ≡ length word + (2 * id_len kind + (1 + length next))
len_with_line kind word bytes id next line =
    omega (
      arith,
      ap length line.whole,
      length-append word (line.digits ++ 10 ∷ next),
      length-append line.digits (10 ∷ next),
      digits_of_kind kind word bytes id next line,
    )

-- what was cut out is the first line
pub is_first : (kind : Kind) (lines digits id next : List ℕ) (there : HasFirstLine kind lines)
    → digits ≡ there.begins.digits → next ≡ there.next → SpellsId digits id
    → BeginsWithLine kind parent_word lines id next
is_first kind lines digits id next there same after spells = record {
  digits = digits;
  spells = spells;
  sized = omega (
    arith,
    digits_len digits id spells,
    ap length same,
    digits_of_kind kind parent_word lines there.id there.next there.begins,
  );
  whole = there.begins.whole ∙ ap (λ d. parent_word ++ (d ++ 10 ∷ there.next)) (sym same)
      ∙ ap (λ r. parent_word ++ (digits ++ 10 ∷ r)) (sym after);
}
