-- Digits in bytes, and bytes in a buffer.
use Rattle.std.proofs.Common.{◌≡◌, ℕ, ◌+◌, Bool, true, false, List, [], ◌∷◌, ◌++◌, length, take, drop, Result, Ok, Err, refl, ap}
use Rattle.std.proofs.Common.{sym, subst, ◌∙◌, append_assoc, append-nil}
use Rattle.graph_commands.specs.Buffer.{with_buffer}
use Rattle.std.specs.Prelude.{Option, Some, None, OnOk, if◌then◌else◌}
use Rattle.std.specs.List.{join_by}
use Rattle.std.proofs.lemmas.List.Concat.{flat_map-append}
use Rattle.std.specs.Io.KnownBytes.{Appends}
use Rattle.std.proofs.KnownBytes.{Appends-trans}
use lib.Seq.{take-add, take-append_seam}

-- the front of bytes into which a text was written after a place
pub take_written : (old new text rest : List ℕ) (at end : ℕ) → at + length text ≡ end
    → drop at new ≡ text ++ rest → take at new ≡ take at old → take end new ≡ take at old ++ text
take_written old new text rest at end sized written before =
    ap (λ (n : ℕ). take n new) (sym sized) ∙ take-add at (length text) new
    ∙ ap (λ l. l ++ take (length text) (drop at new)) before
    ∙ ap (λ l. take at old ++ take (length text) l) written
    ∙ ap (λ l. take at old ++ l) (take-append_seam text rest)

-- two texts that were added, the second perhaps, one after the other
pub appends_last : {T E : Type 0} (result : Result T E) (a b c : Option (List ℕ)) (xs ys all : List ℕ)
    → Appends a b xs → OnOk result (Appends b c ys) → xs ++ ys ≡ all → OnOk result (Appends a c all)
appends_last (Ok value) a b c xs ys all before last same = subst (Appends a c) same (Appends-trans a b c xs ys before last)
appends_last (Err error) a b c xs ys all before last same = tt

-- whether there is an item
abbrev pub has_some : {X : Type 0} → List X → Bool
has_some [] = false
has_some (item ∷ items) = true

pub has_some-push : {X : Type 0} (items : List X) (item : X) → true ≡ has_some (items ++ item ∷ [])
has_some-push [] item = refl
has_some-push (first ∷ items) item = refl

-- a comma, where an item comes before
abbrev pub comma_after : List ℕ → Bool → List ℕ
comma_after comma any = if any then comma else []

-- one more item, joined to those before
join_by-push : {X : Type 0} (text : X → List ℕ) (comma : List ℕ) (items : List X) (item : X)
    → join_by text comma items ++ (comma_after comma (has_some items) ++ text item) ≡ join_by text comma (items ++ item ∷ [])
join_by-push text comma [] item = simp append-nil
join_by-push text comma (first ∷ items) item =
    rw (flat_map-append (λ y. comma ++ text y) items (item ∷ [])) (simp (append_assoc, append-nil))

-- one more item was added to those before, after a comma
pub appends_item : {X : Type 0} (text : X → List ℕ) (comma : List ℕ) (items : List X) (item : X) (any : Bool)
    (a b c d : Option (List ℕ))
    → any ≡ has_some items → Appends a b (join_by text comma items) → Appends b c (comma_after comma any)
    → Appends c d (text item)
    → Appends a d (join_by text comma (items ++ item ∷ []))
appends_item text comma items item any a b c d same before separator added =
    let joined : join_by text comma items ++ (comma_after comma any ++ text item) ≡ join_by text comma (items ++ item ∷ []) =
    ap (λ (some : Bool). join_by text comma items ++ (comma_after comma some ++ text item)) same
    ∙ join_by-push text comma items item in
    subst (Appends a d) joined (Appends-trans a b d _ _ before (Appends-trans b c d _ _ separator added))

-- what was added to a buffer with no bytes is written with the buffer
pub appends_written : {T E : Type 0} (result : Result T E) (a b c : Option (List ℕ)) (first last all : List ℕ)
    → first ≡ [] → Appends (with_buffer a first) (with_buffer b last) all → OnOk result (Appends b c last)
    → OnOk result (Appends a c all)
appends_written (Ok value) None b c first last all empty added written = tt
appends_written (Ok value) (Some old) None c first last all empty added written = absurd added
appends_written (Ok value) (Some old) (Some middle) None first last all empty added written = absurd written
appends_written (Ok value) (Some old) (Some middle) (Some new) first last all empty added written =
    written ∙ added ∙ ap (λ bytes. (old ++ bytes) ++ all) empty ∙ ap (λ bytes. bytes ++ all) (append-nil old)
appends_written (Err error) a b c first last all empty added written = tt
