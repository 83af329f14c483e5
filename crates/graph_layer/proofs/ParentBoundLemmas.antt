-- laws of the bounds that an iterator over parents gives
use Rattle.std.proofs.Common.{◌≡◌, ℕ, ◌-◌, ◌<◌, ◌≤◌, Bool, true, false, if◌then◌else◌, nat_lt, List, [], ◌∷◌, length, drop}
use Rattle.std.proofs.Common.{Option, Some, None, Result, refl, sym, ap, subst, ◌∙◌, arith, lit≤}
use Rattle.std.proofs.lemmas.Bool.{lt-ltb, le-ltb, ne_eqb}
use Rattle.graph_format.specs.Format.{words}
use Rattle.graph_format.specs.Parents.{items_of, edge_of, position_of, extra_edge_of, extra_parent, listed, second_parents}
use Rattle.graph_format.specs.Parents.{both_parents}
use Rattle.graph_layer.specs.RemainingParents.{first_hint, second_hint, hint_after}
use Rattle.graph_format.specs.declared.Position.{Position}
use Rattle.graph_format.specs.declared.parents.ParentEdge.{ParentEdge}
use Rattle.graph_format.specs.declared.parents.ParentEdge.TheVariants as edge
use Rattle.graph_format.specs.declared.parents.ParentEdge.TheVariants.{GraphPosition, ExtraEdgeIndex}
use Rattle.graph_format.specs.declared.parents.ExtraEdge.TheVariants.{Internal, Last}
use Rattle.graph_format.specs.declared.parents.ParentError.{ParentError}
use Rattle.graph_layer.proofs.ListedParentLemmas.{listed-positive}

pub edge_of-index : (n : ℕ) → 0x80000000 ≤ n → edge_of n ≡ ExtraEdgeIndex (n - 0x80000000)
edge_of-index n h =
    let position : ParentEdge = if nat_lt n 0x80000000 then GraphPosition (position_of n) else ExtraEdgeIndex (n - 0x80000000) in
    ap (λ (none : Bool). if none then edge.None else position) (ne_eqb n 0x70000000 (λ e. omega (arith, h, e)))
    ∙ ap (λ (below : Bool). if below then GraphPosition (position_of n) else ExtraEdgeIndex (n - 0x80000000))
    (le-ltb n 0x80000000 h)

pub edge_of-position : (n : ℕ) → n < 0x80000000 → (n ≡ 0x70000000 → ⊥) → edge_of n ≡ GraphPosition (position_of n)
edge_of-position n h some =
    let position : ParentEdge = if nat_lt n 0x80000000 then GraphPosition (position_of n) else ExtraEdgeIndex (n - 0x80000000) in
    ap (λ (none : Bool). if none then edge.None else position) (ne_eqb n 0x70000000 some)
    ∙ ap (λ (below : Bool). if below then GraphPosition (position_of n) else ExtraEdgeIndex (n - 0x80000000))
    (lt-ltb n 0x80000000 h)

-- one item is left at least
listed-some : (edges : Option (List ℕ)) (index : ℕ) → 1 ≤ length (items_of (second_parents (ExtraEdgeIndex index) edges))
listed-some None index = lit≤ tt
listed-some (Some bytes) index = listed-positive (drop index (words bytes))

-- what an iterator has left, and its bounds, by whether it is past the first field, by its fields and by the edges
abbrev left_at : Bool → ℕ → ℕ → Option (List ℕ) → List (Result Position ParentError)
left_at started next after edges =
    items_of (if started then second_parents (edge_of next) edges else both_parents (edge_of next) (edge_of after) edges)

abbrev hint_at : Bool → ℕ → ℕ → ℕ × Option ℕ
hint_at started next after = if started then second_hint (edge_of next) else first_hint (edge_of next) (edge_of after)

pub left-listed : (started : Bool) (next after : ℕ) (edges : Option (List ℕ)) → started ≡ true → 0x80000000 ≤ next
    → 1 ≤ length (left_at started next after edges)
left-listed started next after edges is h =
    let P : Bool → Type 0 = λ b. 1 ≤ length (left_at b next after edges) in
    let Q : ParentEdge → Type 0 = λ e. 1 ≤ length (items_of (second_parents e edges)) in
    subst P (sym is) (subst Q (sym (edge_of-index next h)) (listed-some edges (next - 0x80000000)))

-- and how many is not known
pub hint-listed : (started : Bool) (next after : ℕ) → started ≡ true → 0x80000000 ≤ next → hint_at started next after ≡ (1, None)
hint-listed started next after is h = ap (λ (b : Bool). hint_at b next after) is ∙ ap second_hint (edge_of-index next h)

hint_after-some : (hint : ℕ × Option ℕ) (items : List (Result Position ParentError)) → hint ≡ (1, None) → 1 ≤ length items
    → (1, None) ≡ hint_after hint items
hint_after-some hint [] unknown some = absurd (omega (arith, some))
hint_after-some hint (item ∷ items) unknown some = ap (λ (h : ℕ × Option ℕ). hint_after h (item ∷ items)) (sym unknown)

-- so the bounds stay, from one word to another
pub hint-next_word : (started : Bool) (next after next_after after_after : ℕ) (edges : Option (List ℕ)) → started ≡ true
    → 0x80000000 ≤ next → 0x80000000 ≤ next_after
    → hint_at started next_after after_after ≡ hint_after (hint_at started next after)
    (left_at started next_after after_after edges)
hint-next_word started next after next_after after_after edges is from to =
    hint-listed started next_after after_after is to
    ∙ hint_after-some _ _ (hint-listed started next after is from) (left-listed started next_after after_after edges is to)

-- of the extra edge list the first item has the same bounds
extra_hint : (ws : List ℕ) → second_hint (ExtraEdgeIndex 0) ≡ hint_after (2, None) (items_of (listed ws))
extra_hint [] = refl
extra_hint (word ∷ rest) =
    elim (extra_edge_of word) as (λ e. second_hint (ExtraEdgeIndex 0)
    ≡ hint_after (2, None) (items_of (extra_parent e (listed rest)))) [ Internal pos ↦ refl | Last pos ↦ refl ]

second_hint-after : (pos : Position) (second : ParentEdge) (edges : Option (List ℕ))
    → second_hint second ≡ hint_after (first_hint (GraphPosition pos) second) (items_of (second_parents second edges))
second_hint-after pos edge.None edges = refl
second_hint-after pos (GraphPosition q) edges = refl
second_hint-after pos (ExtraEdgeIndex index) None = refl
second_hint-after pos (ExtraEdgeIndex index) (Some bytes) = extra_hint (drop index (words bytes))

-- the bounds after a position in a field
pub hint-taken : (started : Bool) (next after : ℕ) (edges : Option (List ℕ)) → next < 0x80000000 → (next ≡ 0x70000000 → ⊥)
    → (started ≡ true → after ≡ 0x70000000)
    → second_hint (edge_of after) ≡ hint_after (hint_at started next after) (items_of (second_parents (edge_of after) edges))
hint-taken true next after edges below some last =
    let P : ℕ → Type 0 = λ a. second_hint (edge_of a)
    ≡ hint_after (hint_at true next a) (items_of (second_parents (edge_of a) edges)) in
    subst P (sym (last refl)) refl
hint-taken false next after edges below some last =
    second_hint-after (position_of next) (edge_of after) edges
    ∙ ap (λ (e : ParentEdge). hint_after (first_hint e (edge_of after)) (items_of (second_parents (edge_of after) edges)))
    (sym (edge_of-position next below some))

-- before a position and an index into the extra edge list two items are left at least
pub left-two : (started : Bool) (next after : ℕ) (edges : Option (List ℕ)) → next < 0x80000000 → (next ≡ 0x70000000 → ⊥)
    → (started ≡ true → after ≡ 0x70000000) → 0x80000000 ≤ after
    → 2 ≤ length (left_at started next after edges)
left-two true next after edges below some last h = absurd (omega (arith, last refl, h))
left-two false next after edges below some last h =
    let P : ParentEdge → Type 0 = λ e. 2 ≤ length (items_of (both_parents e (edge_of after) edges)) in
    let Q : ParentEdge → Type 0 = λ e. 2 ≤ length (items_of (both_parents (GraphPosition (position_of next)) e edges)) in
    let more : 2 ≤ length
    (items_of (both_parents (GraphPosition (position_of next)) (ExtraEdgeIndex (after - 0x80000000)) edges)) =
    omega (arith, listed-some edges (after - 0x80000000)) in
    subst P (sym (edge_of-position next below some)) (subst Q (sym (edge_of-index after h)) more)

pub ruleset hint_laws = (left-listed, left-two, edge_of-index, edge_of-position)
