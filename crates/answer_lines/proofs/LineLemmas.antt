-- One line more, and in the end all of them.
use Rattle.std.proofs.Common.{◌≡◌, ℕ, ◌+◌, ◌<◌, ◌≤◌, List, [], ◌∷◌, ◌++◌, Option, Result, Ok, Err, get_or, length, min, take}
use Rattle.std.proofs.Common.{refl, sym, ap, subst, ◌∙◌, arith, codes}
use Rattle.std.specs.Prelude.{OnOk}
use Rattle.std.specs.Io.KnownBytes.{Appends}
use Rattle.std.specs.List.{flat_map, zip}
use Rattle.std.proofs.KnownBytes.{Appends-trans}
use Rattle.std.proofs.lemmas.List.{flat_map_more, take_all, take_more}
use Rattle.std.proofs.lemmas.Slice.Zip.{get_or-zip, length-zip}
use Rattle.graph_format.specs.declared.Position.{Position}
use Rattle.answer_lines.specs.AnswerLines.{line_of_base, lines_or_none, parent_text}

-- the same text in other words
pub adds_same : {T E : Type 0} (result : Result T E) (old new : Option (List ℕ)) (written text : List ℕ) → written ≡ text
    → OnOk result (Appends old new written) → OnOk result (Appends old new text)
adds_same (Ok value) old new written text same added = subst (Appends old new) same added
adds_same (Err error) old new written text same added = tt

pub some_lines : (bases : List Position) (lines : List ℕ) → (bases ≡ [] → ⊥) → lines ≡ lines_or_none bases lines
some_lines [] lines some = absurd (some refl)
some_lines (base ∷ bases) lines some = refl

-- one more line of a base, with its id
pub lines_more : (bases : List Position) (ids : List (List ℕ)) (i : ℕ) (any : Position) (id : List ℕ)
    (first middle last : Option (List ℕ)) → i < length bases → i < length ids → id ≡ get_or ids i id
    → Appends first middle (flat_map line_of_base (take i (zip bases ids)))
    → Appends middle last (line_of_base (get_or bases i any, id))
    → Appends first last (flat_map line_of_base (take (i + 1) (zip bases ids)))
lines_more bases ids i any id first middle last one other is before added =
    let pairs = zip bases ids in
    let base = get_or bases i any in
    let within : i < length pairs = omega (arith, length-zip bases ids) in
    let here : get_or pairs i (any, id) ≡ (base, id) =
    get_or-zip bases ids i (any, id) one other ∙ ap (λ (d : List ℕ). (base, d)) (sym is) in
    let more : take (i + 1) pairs ≡ take i pairs ++ (base, id) ∷ [] =
    take_more pairs i (any, id) within ∙ ap (λ (pair : Position × List ℕ). take i pairs ++ pair ∷ []) here in
    let lines : flat_map line_of_base (take i pairs) ++ line_of_base (base, id) ≡ flat_map line_of_base (take (i + 1) pairs) =
    flat_map_more line_of_base [] (take i pairs) (base, id) ∙ ap (flat_map line_of_base) (sym more) in
    subst (Appends first last) lines (Appends-trans first middle last _ _ before added)

-- the lines of all bases
pub lines_all : (bases : List Position) (ids : List (List ℕ)) (i : ℕ) → min (length bases) (length ids) ≤ i
    → flat_map line_of_base (take i (zip bases ids)) ≡ flat_map line_of_base (zip bases ids)
lines_all bases ids i least =
    ap (flat_map line_of_base) (take_all i (zip bases ids) (omega (arith, length-zip bases ids, least)))

-- the line of the parents has one more
pub parent_more : (parents : List (List ℕ)) (i : ℕ) (id : List ℕ) (a b c : Option (List ℕ)) → i < length parents
    → id ≡ get_or parents i id → Appends a b (codes "parents" ++ flat_map parent_text (take i parents))
    → Appends b c (parent_text id) → Appends a c (codes "parents" ++ flat_map parent_text (take (i + 1) parents))
parent_more parents i id a b c within is before added =
    let more : take (i + 1) parents ≡ take i parents ++ id ∷ [] =
    take_more parents i id within ∙ ap (λ (one : List ℕ). take i parents ++ one ∷ []) (sym is) in
    let text : (codes "parents" ++ flat_map parent_text (take i parents)) ++ parent_text id
    ≡ codes "parents" ++ flat_map parent_text (take (i + 1) parents) =
    flat_map_more parent_text (codes "parents") (take i parents) id
    ∙ ap (λ (ids : List (List ℕ)). codes "parents" ++ flat_map parent_text ids) (sym more) in
    subst (Appends a c) text (Appends-trans a b c _ _ before added)
