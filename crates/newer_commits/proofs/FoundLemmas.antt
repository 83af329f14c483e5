-- What is found of parents, one after another.
use Rattle.std.proofs.Common.{◌≡◌, ℕ, suc, zero, ◌+◌, ◌<◌, ◌≤◌, max, List, [], ◌∷◌, ◌++◌, length, map}
use Rattle.std.proofs.Common.{take, drop}
use Rattle.std.proofs.Common.{slice_get, Contains, Option, Some, None, IfSome, IsSomeAnd, suc-add}
use Rattle.std.proofs.Common.{sym, ap, ◌∙◌, subst, ⊎_elim, arith}
use Rattle.std.specs.List.{AllZip, concat}
use Rattle.std.proofs.lemmas.List.{length-append, length_push, map-append, take_all}
use Rattle.std.proofs.lemmas.List.Elements.{All-nil, All-cons, Contains-push_cases}
use Rattle.gix_hash_core.specs.declared.kind.Kind.{Kind}
use Rattle.commit_objects.specs.CommitContents.{Said, Says, IsIdLine, parent_word}
use Rattle.commit_search.specs.Source.{Told}
use Rattle.graph_walks.specs.Counts.{greatest}
use Rattle.graph_walks.specs.History.{generation_at}
use Rattle.graph_walks.proofs.GreatestLemmas.{greatest-cons}
use Rattle.newer_commits.specs.CommitsOnTop.{CommitsOnTop, end_of_top, nodes_on_top}
use Rattle.newer_commits.specs.Adding.{AreThere}
use Rattle.newer_commits.specs.FindingOnTop.{Finds}
use Rattle.newer_commits.specs.FoundParents.{AreFoundParents}
use Rattle.newer_commits.specs.JoinedHistory.{joined_history}
use Rattle.newer_commits.specs.declared.found.FoundParents.{FoundParents}

zip_push : {X Y : Type 0} (R : X → Y → Type 0) (xs : List X) (ys : List Y) (x : X) (y : Y) → AllZip R xs ys → R x y
    → AllZip R (xs ++ x ∷ []) (ys ++ y ∷ [])
zip_push R [] [] x y zip last = (last, tt)
zip_push R [] (z ∷ ys) x y zip last = absurd zip
zip_push R (w ∷ xs) [] x y zip last = absurd zip
zip_push R (w ∷ xs) (z ∷ ys) x y zip last = (zip.0, zip_push R xs ys x y zip.1 last)

pub greatest_push : (ns : List ℕ) (n : ℕ) → greatest (ns ++ n ∷ []) ≡ max (greatest ns) n
greatest_push [] n = omega (arith, greatest-cons n [])
greatest_push (m ∷ ns) n = omega (arith, greatest-cons m (ns ++ n ∷ []), greatest-cons m ns, greatest_push ns n)

-- what is known of the base has grown: less may be said by it
pub found_kept : (base : List ℕ → Option ℕ → Type 0) (says after : Told → Type 0) (top : CommitsOnTop) (ids : List (List ℕ))
    (found : FoundParents) → ((t : Told) → after t → says t) → AreFoundParents base says top ids found
    → AreFoundParents base after top ids found
found_kept base says after top ids found kept are = record {
  places = are.places;
  each = are.each;
  there = are.there;
  kept = are.kept;
  count = are.count;
  number = λ t told. are.number t (kept t told);
}

pub none_found : (base : List ℕ → Option ℕ → Type 0) (says : Told → Type 0) (top : CommitsOnTop) (found : FoundParents)
    → IfSome found.positions (λ v. v.items ≡ []) → found.count ≡ 0 → found.greatest ≡ 0
    → AreFoundParents base says top [] found
none_found base says top found kept count number = record {
  places = [];
  each = tt;
  there = λ q none. absurd (omega (arith, none.1));
  kept = kept;
  count = count;
  number = λ t told. number;
}

kept_more : {V : Type 0} (items : V → List ℕ) (old new : Option V) (places : List ℕ) (pos : ℕ)
    → IfSome old (λ v. items v ≡ places) → IfSome new (λ v. IsSomeAnd old (λ w. items v ≡ items w ++ pos ∷ []))
    → IfSome new (λ v. items v ≡ places ++ pos ∷ [])
kept_more items old None places pos kept more = tt
kept_more items None (Some v) places pos kept more = absurd more
kept_more items (Some w) (Some v) places pos kept more = more ∙ ap (λ (xs : List ℕ). xs ++ pos ∷ []) kept

pub found_more : (base : List ℕ → Option ℕ → Type 0) (says : Told → Type 0) (top : CommitsOnTop) (ids : List (List ℕ))
    (found more : FoundParents) (id : List ℕ) (pos number : ℕ) → AreFoundParents base says top ids found
    → Finds base top id (Some pos) → pos < end_of_top top
    → IfSome more.positions (λ v. IsSomeAnd found.positions (λ w. v.items ≡ w.items ++ pos ∷ []))
    → more.count ≡ found.count + 1 → more.greatest ≡ max found.greatest number
    → ((t : Told) → says t → number ≡ generation_at (joined_history t.history (nodes_on_top top)) pos)
    → AreFoundParents base says top (ids ++ id ∷ []) more
found_more base says top ids found more id pos number are finds there kept count greater numbered = record {
  places = are.places ++ pos ∷ [];
  each = zip_push (λ (i : List ℕ) (p : ℕ). Finds base top i (Some p)) ids are.places id pos are.each finds;
  there = λ q contained.
      ⊎_elim
      (λ (old : Contains are.places q). are.there q old)
      (λ (same : pos ≡ q). subst (λ (x : ℕ). x < end_of_top top) same there)
      (Contains-push_cases are.places pos q contained);
  kept = kept_more (λ v. v.items) found.positions more.positions are.places pos are.kept kept;
  count = omega (arith, count, are.count, length_push are.places pos);
  number = λ t told.
      let f = generation_at (joined_history t.history (nodes_on_top top)) in
      greater
      ∙ ap (λ (m : ℕ). max m number) (are.number t told)
      ∙ ap (λ (n : ℕ). max (greatest (map f are.places)) n) (numbered t told)
      ∙ sym (ap greatest (map-append f are.places (pos ∷ [])) ∙ greatest_push (map f are.places) (f pos));
}

there_from_zip : (base : List ℕ → Option ℕ → Type 0) (top : CommitsOnTop) (ids : List (List ℕ)) (places : List ℕ)
    → AllZip (λ id p. Finds base top id (Some p)) ids places → AreThere base top ids
there_from_zip base top [] places zip = All-nil (λ (id : List ℕ). (p : ℕ) × Finds base top id (Some p))
there_from_zip base top (id ∷ ids) [] zip = absurd zip
there_from_zip base top (id ∷ ids) (p ∷ places) zip =
    All-cons (λ (i : List ℕ). (q : ℕ) × Finds base top i (Some q)) id ids (p, zip.0) (there_from_zip base top ids places zip.1)

pub found_there : (base : List ℕ → Option ℕ → Type 0) (says : Told → Type 0) (top : CommitsOnTop) (ids : List (List ℕ))
    (found : FoundParents) → AreFoundParents base says top ids found → AreThere base top ids
found_there base says top ids found are = there_from_zip base top ids are.places are.each

-- the next of a list
pub next_of : {X : Type 0} (xs : List X) (n : ℕ) (x : X) (rest : List X) → drop n xs ≡ x ∷ rest
    → (take (n + 1) xs ≡ take n xs ++ x ∷ []) × (drop (n + 1) xs ≡ rest) × (slice_get xs n ≡ Some x) × (n < length xs)
next_of [] zero x rest is = absurd (cc)
next_of [] (suc n) x rest is = absurd (cc)
next_of {X} (y ∷ xs) zero x rest is =
    let first : y ≡ x = head_of y x xs rest is in
    let others : xs ≡ rest = tail_of y x xs rest is in
    (ap (λ (z : X). z ∷ []) first, others, ap (λ (z : X). Some z) first, omega arith)
  where
    head_of : (a b : X) (ys zs : List X) → a ∷ ys ≡ b ∷ zs → a ≡ b
    head_of a b ys zs e = cc

    tail_of : (a b : X) (ys zs : List X) → a ∷ ys ≡ b ∷ zs → ys ≡ zs
    tail_of a b ys zs e = cc
next_of {X} (y ∷ xs) (suc n) x rest is =
    let more = next_of xs n x rest is in
    (rw (suc-add n 1) (ap (λ (zs : List X). y ∷ zs) more.0), rw (suc-add n 1) more.1, more.2, omega (arith, more.3))

pub all_taken : {X : Type 0} (xs : List X) (n : ℕ) → drop n xs ≡ [] → take n xs ≡ xs
all_taken xs n is = take_all n xs (short xs n is)
  where
    short : {X : Type 0} (ys : List X) (m : ℕ) → drop m ys ≡ [] → length ys ≤ m
    short [] m e = omega arith
    short (y ∷ ys) zero e = absurd (cc)
    short (y ∷ ys) (suc m) e = omega (arith, short ys m e)

-- a commit has fewer parents than bytes
lines_many : (kind : Kind) (ids lines : List (List ℕ)) → AllZip (IsIdLine kind parent_word) ids lines
    → length ids ≤ length (concat lines)
lines_many kind [] [] zip = omega arith
lines_many kind [] (l ∷ lines) zip = absurd zip
lines_many kind (id ∷ ids) [] zip = absurd zip
lines_many kind (id ∷ ids) (l ∷ lines) zip =
    let rest = lines_many kind ids lines zip.1 in
    let digits = zip.0.0 in
    let long : length l ≡ length (parent_word ++ (digits ++ 10 ∷ [])) = ap (λ (bytes : List ℕ). length bytes) zip.0.3 in
    let sum = length-append parent_word (digits ++ 10 ∷ []) in
    let some : 1 ≤ length parent_word = omega arith in
    omega (arith, rest, long, sum, some, length-append l (concat lines))

pub few_parents : (kind : Kind) (bytes : List ℕ) (said : Said) → Says kind bytes said → length said.parents ≤ length bytes
few_parents kind bytes said says =
    let lines = lines_many kind said.parents says.parent_lines says.parents in
    let whole = ap (λ (xs : List ℕ). length xs) says.whole in
    let first = length-append says.tree_line (concat says.parent_lines) in
    let second = length-append (says.tree_line ++ concat says.parent_lines) said.rest in
    omega (arith, lines, whole, first, second)
