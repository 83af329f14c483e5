-- laws of the file name rule
use Rattle.std.proofs.Common.{◌≡◌, ◌≢◌, ℕ, ◌+◌, ◌-◌, ◌≤◌, Bool, true, false, List, [], ◌∷◌, ◌++◌, length, take, drop, map, Option}
use Rattle.std.proofs.Common.{Some, None, option_map, MatchOption, codes, slice_get, bytes_eq, nat_le, Bor, subst, refl, sym, ap}
use Rattle.std.proofs.Common.{◌∙◌, arith, length-append}
use Rattle.std.specs.List.{last_or}
use Rattle.std.specs.Option.{option_map_or}
use Rattle.std.specs.Prelude.{◌||◌, ◌&&◌, if◌then◌else◌, not}
use Rattle.std.proofs.lemmas.Bool.{le-leb, leb-true}
use Rattle.std.proofs.lemmas.Option.{slice_get-map, same_Some}
use Rattle.std.proofs.Math.Seq.{drop-append-add, drop-append_seam, take-append_seam}
use Rattle.std.proofs.lemmas.List.{length-map, take-append-drop, drop-drop}
use Rattle.std.proofs.lemmas.Slice.Eq.{bytes_eq-Decides}
use Rattle.std.specs.Str.Pattern.{FindsTextPrefix, FindsTextSuffix, StripsPrefix, StripsSuffix}
use Rattle.gix_hash_core.specs.Hexadecimal.{spells_id}
use Rattle.graph_format.specs.NameRule.{is_chain_name, hash_text, is_named_right, name_of}

-- the last item stands at the last place
last_or-some : {A : Type 0} (x : A) (xs : List A) → last_or (Some x) xs ≡ slice_get (x ∷ xs) (length xs)
last_or-some x [] = refl
last_or-some x (y ∷ ys) = last_or-some y ys

last_or-none : {A : Type 0} (xs : List A) → last_or None xs ≡ slice_get xs (length xs - 1)
last_or-none [] = refl
last_or-none (x ∷ xs) = last_or-some x xs ∙ ap (slice_get (x ∷ xs)) (omega arith)

-- the last of what was yielded, seen as the items that it shows
pub last-is : {A B : Type 0} (v : A → B) (xs : List A) (r : Option A) (all : List B) → r ≡ last_or None xs → map v xs ≡ all
    → option_map v r ≡ slice_get all (length all - 1)
last-is {A} {B} v xs r all is shown =
    ap (option_map v) (is ∙ last_or-none xs)
    ∙ sym (slice_get-map v xs (length xs - 1))
    ∙ ap (λ (n : ℕ). slice_get (map v xs) (n - 1)) (sym (length-map xs v))
    ∙ ap (λ (ys : List B). slice_get ys (length ys - 1)) shown

abbrev pub front : List ℕ
front = codes "graph-"

abbrev pub end : List ℕ
end = codes ".graph"

same_bytes : (xs ys : List ℕ) → xs ≡ ys → bytes_eq xs ys ≡ true
same_bytes xs ys h = (bytes_eq-Decides xs ys).1 h

both : (a b : Bool) → (a && b) ≡ true → (a ≡ true) × (b ≡ true)
both true b h = (refl, h)
both false b h = cc

-- a name of a layer of a chain, from its parts
length-parts : (text : List ℕ) → length (front ++ (text ++ end)) ≡ length text + 12
length-parts text = omega (arith, length-append text end)

rest-parts : (text : List ℕ) → drop (length (front ++ (text ++ end)) - 6) (front ++ (text ++ end)) ≡ end
rest-parts text =
    ap (λ (n : ℕ). drop n (front ++ (text ++ end))) (omega (arith, length-parts text))
    ∙ drop-append-add front (text ++ end) (length text)
    ∙ drop-append_seam text end

is_chain_name-parts : (text : List ℕ) → is_chain_name (front ++ (text ++ end)) ≡ true
is_chain_name-parts text =
    rw (le-leb 12 (length (front ++ (text ++ end))) (omega (arith, length-parts text)), same_bytes _ _ (rest-parts text)) refl

hash_text-parts : (text : List ℕ) → hash_text (front ++ (text ++ end)) ≡ text
hash_text-parts text =
    ap (λ (n : ℕ). take (n - 6 - 6) (text ++ end)) (length-parts text)
    ∙ ap (λ (n : ℕ). take n (text ++ end)) (omega arith)
    ∙ take-append_seam text end

-- and its parts
chain_name-is : (name : List ℕ) → is_chain_name name ≡ true → name ≡ front ++ (hash_text name ++ end)
chain_name-is name h =
    let sized = both (nat_le 12 (length name)) _ h in
    let parts = both (bytes_eq (take 6 name) front) _ sized.1 in
    let long : 12 ≤ length name = leb-true 12 (length name) sized.0 in
    let starts : take 6 name ≡ front = (bytes_eq-Decides (take 6 name) front).0 parts.0 in
    let ends : drop (length name - 6) name ≡ end = (bytes_eq-Decides (drop (length name - 6) name) end).0 parts.1 in
    let rest : drop (length name - 6 - 6) (drop 6 name) ≡ end =
    drop-drop (length name - 6 - 6) 6 name ∙ ap (λ (n : ℕ). drop n name) (omega (arith, long)) ∙ ends in
    sym (take-append-drop 6 name)
    ∙ ap (λ (xs : List ℕ). xs ++ drop 6 name) starts
    ∙ ap (λ (xs : List ℕ). front ++ xs) (sym (take-append-drop (length name - 6 - 6) (drop 6 name))
    ∙ ap (λ (xs : List ℕ). hash_text name ++ xs) rest)

-- what stands after the front ends as such a name does
chain-none : (name rest : List ℕ) (b : Bool) → is_chain_name name ≡ b → name ≡ front ++ rest
    → ((text : List ℕ) → rest ≢ text ++ end) → b ≡ false
chain-none name rest true is e never = absurd (never (hash_text name) (ap (drop 6) (sym e ∙ chain_name-is name is)))
chain-none name rest false is e never = refl

pub stripped : (name rest : List ℕ) (r : Option (Bor (List ℕ))) → StripsPrefix (FindsTextPrefix front) name rest
    → MatchOption r (FindsTextSuffix end rest None) (λ x. StripsSuffix (FindsTextSuffix end) rest x.now)
    → option_map (λ text. text.now) r ≡ (if is_chain_name name then Some (hash_text name) else None)
stripped name rest None before h =
    let starts : name ≡ front ++ rest = before.1.1 ∙ ap (λ (xs : List ℕ). front ++ xs) (sym before.2) in
    rw (chain-none name rest (is_chain_name name) refl starts h) refl
stripped name rest (Some text) before h =
    let starts : name ≡ front ++ rest = before.1.1 ∙ ap (λ (xs : List ℕ). front ++ xs) (sym before.2) in
    let ends : rest ≡ text.now ++ end = h.1.1 ∙ ap (λ (xs : List ℕ). xs ++ end) (sym h.2) in
    let whole : name ≡ front ++ (text.now ++ end) = starts ∙ ap (λ (xs : List ℕ). front ++ xs) ends in
    let P : List ℕ → Type 0 = λ n. Some text.now ≡ (if is_chain_name n then Some (hash_text n) else None) in
    subst P (sym whole) (rw (is_chain_name-parts text.now, hash_text-parts text.now) refl)

chain-test : (b : Bool) (text checksum : List ℕ) (r : Option (Bor (List ℕ)))
    → option_map (λ t. t.now) r ≡ (if b then Some text else None)
    → (not b || spells_id text checksum) ≡ option_map_or (λ t. spells_id t.now checksum) r true
chain-test true text checksum (Some t) h = ap (λ (xs : List ℕ). spells_id xs checksum) (sym (same_Some _ _ h))
chain-test true text checksum None h = cc
chain-test false text checksum (Some t) h = cc
chain-test false text checksum None h = refl

-- the rule, by what stands between the front and the end of a name
pub named-right : (path checksum : List ℕ) (name r : Option (Bor (List ℕ))) → option_map (λ n. n.now) name ≡ name_of path
    → MatchOption name (r ≡ None) (λ n.
    option_map (λ t. t.now) r ≡ (if is_chain_name n.now then Some (hash_text n.now) else None))
    → is_named_right path checksum ≡ option_map_or (λ t. spells_id t.now checksum) r true
unfolding is_named_right
named-right path checksum None r found h = rw (← found, h) refl
named-right path checksum (Some name) r found h =
    rw (← found) (chain-test (is_chain_name name.now) (hash_text name.now) checksum r h)
