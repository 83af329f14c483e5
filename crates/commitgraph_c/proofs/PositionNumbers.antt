-- positions, and their numbers
use Rattle.std.proofs.Common.{◌≡◌, ◌∙◌, ap, sym, subst, ℕ, ◌+◌, ◌<◌, List, [], ◌∷◌, ◌++◌, length, take, get_or, All}
use Rattle.std.proofs.lemmas.List.{take_more}
use Rattle.std.proofs.lemmas.List.Elements.{All-nil, All-cons, All-head, All-tail}
use Rattle.commit_search.specs.Positions.{numbers_of}
use Rattle.graph_format.specs.declared.Position.{Position}
use Rattle.c_opening.proofs.Written.{numbers_end}

-- that of the next number is one more
pub next_found : (found : List Position) (pos : Position) (numbers : List ℕ) (i : ℕ) → numbers_of found ≡ take i numbers
    → pos.0 ≡ get_or numbers i 0 → i < length numbers → numbers_of (found ++ pos ∷ []) ≡ take (i + 1) numbers
next_found found pos numbers i before here lt =
    numbers_end found pos ∙ ap (λ ns. ns ++ pos.0 ∷ []) before ∙ ap (λ n. take i numbers ++ n ∷ []) here
    ∙ sym (take_more numbers i 0 lt)

-- positions are below a limit where their numbers are
below : (limit : ℕ) (found : List Position) → All (λ n. n < limit) (numbers_of found) → All (λ (p : Position). p.0 < limit) found
below limit [] all = All-nil (λ (p : Position). p.0 < limit)
below limit (x ∷ found) all =
    All-cons (λ (p : Position). p.0 < limit) x found (All-head (λ n. n < limit) x.0 (numbers_of found) all)
    (below limit found (All-tail (λ n. n < limit) x.0 (numbers_of found) all))

pub all_below : (limit : ℕ) (found : List Position) (numbers : List ℕ) → numbers_of found ≡ numbers
    → All (λ n. n < limit) numbers → All (λ (p : Position). p.0 < limit) found
all_below limit found numbers is all = below limit found (subst (λ (ns : List ℕ). All (λ n. n < limit) ns) (sym is) all)
