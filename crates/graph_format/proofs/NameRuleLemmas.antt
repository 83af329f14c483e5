-- The test of a file's name passes exactly where the file name rule holds.
use Rattle.std.proofs.Common.{◌≡◌, ℕ, ◌+◌, ◌-◌, ◌≤◌, inl, inr, Bool, true, false, not, ◌||◌, eqb, List, ◌++◌, length, take, drop}
use Rattle.std.proofs.Common.{codes, Option, Some, None, Result, Ok, Err, refl, sym, ap, ◌∙◌, ⊎_elim, arith, append_assoc}
use Rattle.std.proofs.Common.{length-append}
use Rattle.std.specs.Prelude.{◌↔◌}
use Rattle.std.specs.Option.{option_map_or}
use Rattle.std.proofs.lemmas.Bool.{and_parts, and_from, or_cases, or_left, or_right, eqb-true, eq-eqb, leb-true, le-leb}
use Rattle.std.proofs.lemmas.Bool.{cases_Bool}
use Rattle.std.proofs.lemmas.List.{take_at, drop_at, take-append-drop, drop-drop, drop-take}
use Rattle.std.proofs.lemmas.Option.{same_Some, none-some}
use Rattle.std.proofs.lemmas.Slice.{between_is}
use Rattle.std.proofs.lemmas.Slice.Eq.{bytes_eq-Decides}
use Rattle.gix_hash_core.specs.Hexadecimal.{IsHexLen, SpellsId, is_decoded, spells_id}
use Rattle.graph_format.specs.NameRule.{name_of, KeepsNameRule, is_chain_name, hash_text, is_named_right}

-- what spells an id

hex_long : (n : ℕ) → (eqb n 40 || eqb n 64) ≡ true → IsHexLen n
hex_long n h = ⊎_elim (λ e. inl (eqb-true n 40 e)) (λ e. inr (eqb-true n 64 e)) (or_cases _ _ h)

is_hex_long : (n : ℕ) → IsHexLen n → (eqb n 40 || eqb n 64) ≡ true
is_hex_long n h = ⊎_elim (λ e. or_left _ _ (eq-eqb n 40 e)) (λ e. or_right _ _ (eq-eqb n 64 e)) h

decoded : {E : Type 0} (id : List ℕ) (r : Result (List ℕ) E) → is_decoded id r ≡ true → r ≡ Ok id
decoded id (Ok bytes) h = ap (λ b. Ok b) ((bytes_eq-Decides bytes id).0 h)
decoded id (Err e) h = cc

is_decoded-Ok : {E : Type 0} (id : List ℕ) (r : Result (List ℕ) E) → r ≡ Ok id → is_decoded id r ≡ true
is_decoded-Ok id r h = rw h ((bytes_eq-Decides id id).1 refl)

spelled : (text id : List ℕ) → spells_id text id ≡ true → SpellsId text id
unfolding spells_id
spelled text id h =
    let parts = and_parts _ _ h in
    (hex_long (length text) parts.0, decoded id _ parts.1)

spells : (text id : List ℕ) → SpellsId text id → spells_id text id ≡ true
unfolding spells_id
spells text id h = and_from _ _ (is_hex_long (length text) h.0) (is_decoded-Ok id _ h.1)

-- the name of a layer of a chain is that text between the two ends

abbrev chain_name : List ℕ → List ℕ
chain_name text = codes "graph-" ++ (text ++ codes ".graph")

length-chain_name : (text : List ℕ) → length (chain_name text) ≡ 6 + length text + 6
length-chain_name text =
    omega (arith, length-append (codes "graph-") (text ++ codes ".graph"), length-append text (codes ".graph"))

end-of : (text : List ℕ) → drop (length (chain_name text) - 6) (chain_name text) ≡ codes ".graph"
end-of text =
    ap (drop (length (chain_name text) - 6)) (sym (append_assoc (codes "graph-") text (codes ".graph")))
    ∙ drop_at (codes "graph-" ++ text) (codes ".graph") (length (chain_name text) - 6)
    (omega (arith, length-chain_name text, length-append (codes "graph-") text))

text-of : (text : List ℕ) → hash_text (chain_name text) ≡ text
text-of text =
    between_is (chain_name text) 6 (length (chain_name text) - 6)
    ∙ ap (λ (name : List ℕ). drop 6 (take (length (chain_name text) - 6) name))
    (sym (append_assoc (codes "graph-") text (codes ".graph")))
    ∙ ap (drop 6)
    (take_at (codes "graph-" ++ text) (codes ".graph") (length (chain_name text) - 6)
    (omega (arith, length-chain_name text, length-append (codes "graph-") text)))

is_chain_name-of : (text : List ℕ) → is_chain_name (chain_name text) ≡ true
is_chain_name-of text =
    and_from _ _ (le-leb 12 (length (chain_name text)) (omega (arith, length-chain_name text)))
    (and_from _ _ ((bytes_eq-Decides (take 6 (chain_name text)) (codes "graph-")).1 refl)
    ((bytes_eq-Decides _ _).1 (end-of text)))

chain_name-is : (name : List ℕ) → is_chain_name name ≡ true → name ≡ chain_name (hash_text name)
chain_name-is name h =
    let parts = and_parts _ _ h in
    let ends = and_parts _ _ parts.1 in
    let long : 12 ≤ length name = leb-true 12 (length name) parts.0 in
    let begins : take 6 name ≡ codes "graph-" = (bytes_eq-Decides _ _).0 ends.0 in
    let stops : drop (length name - 6) name ≡ codes ".graph" = (bytes_eq-Decides _ _).0 ends.1 in
    let middle : take (length name - 12) (drop 6 name) ≡ hash_text name =
    sym (drop-take 6 (length name - 12) name)
    ∙ ap (λ (n : ℕ). drop 6 (take n name)) (omega (arith, long))
    ∙ sym (between_is name 6 (length name - 6)) in
    let last : drop (length name - 12) (drop 6 name) ≡ codes ".graph" =
    drop-drop (length name - 12) 6 name ∙ ap (λ (n : ℕ). drop n name) (omega (arith, long)) ∙ stops in
    sym (take-append-drop 6 name)
    ∙ ap (λ (front : List ℕ). front ++ drop 6 name) begins
    ∙ ap (λ (rest : List ℕ). codes "graph-" ++ rest) (sym (take-append-drop (length name - 12) (drop 6 name)))
    ∙ ap (λ (text : List ℕ). codes "graph-" ++ (text ++ drop (length name - 12) (drop 6 name))) middle
    ∙ ap (λ (end : List ℕ). codes "graph-" ++ (hash_text name ++ end)) last

-- the test of one name
abbrev passes : List ℕ → List ℕ → Bool
passes checksum name = not (is_chain_name name) || spells_id (hash_text name) checksum

passes-spelled : (name checksum text : List ℕ) → passes checksum name ≡ true → name ≡ chain_name text → SpellsId text checksum
passes-spelled name checksum text h e =
    let here : passes checksum (chain_name text) ≡ true = rw e at h in
    let right : spells_id (hash_text (chain_name text)) checksum ≡ true =
    sym (ap (λ (b : Bool). not b || spells_id (hash_text (chain_name text)) checksum) (is_chain_name-of text)) ∙ here in
    spelled text checksum (rw (text-of text) at right)

spelled-passes : (name checksum : List ℕ) → ((text : List ℕ) → name ≡ chain_name text → SpellsId text checksum)
    → passes checksum name ≡ true
spelled-passes name checksum h = ⊎_elim
    (λ (is : is_chain_name name ≡ true).
    or_right (not (is_chain_name name)) _ (spells (hash_text name) checksum (h (hash_text name) (chain_name-is name is))))
    (λ (other : is_chain_name name ≡ false). or_left (not (is_chain_name name)) _ (ap not other))
    (cases_Bool (is_chain_name name))

abbrev RulesName : Option (List ℕ) → List ℕ → Type 0
RulesName name checksum = (text : List ℕ) → name ≡ Some (chain_name text) → SpellsId text checksum

by_name : (name : Option (List ℕ)) (checksum : List ℕ) → (option_map_or (passes checksum) name true ≡ true)
    ↔ RulesName name checksum
by_name None checksum = (λ h text e. absurd (none-some (chain_name text) e), λ h. refl)
by_name (Some name) checksum = (
  λ h text e. passes-spelled name checksum text h (same_Some name (chain_name text) e),
  λ h. spelled-passes name checksum (λ text e. h text (ap (λ n. Some n) e)),
)

pub is_named_right-iff : (path checksum : List ℕ) → (is_named_right path checksum ≡ true) ↔ KeepsNameRule path checksum
unfolding is_named_right
is_named_right-iff path checksum = by_name (name_of path) checksum
