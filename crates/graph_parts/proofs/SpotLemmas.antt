-- in which file a position lies
use Rattle.std.proofs.Common.{◌≡◌, ℕ, suc, zero, ◌+◌, ◌<◌, ◌≤◌, List, [], ◌∷◌, get_or, take, Some, ap, arith, ⊎_elim}
use Rattle.std.specs.List.{slice_get}
use Rattle.std.proofs.lemmas.Bool.{cases_lt}
use Rattle.std.proofs.lemmas.List.Sums.{sum_by-cons, sum_by_more}
use Rattle.std.proofs.lemmas.Option.{get_or_from_slice_get, slice_get_within}
use Rattle.graph_find.specs.declared.chain.ChainLayer.{ChainLayer}
use Rattle.graph_parts.specs.PartFiles.{commits_in, commits_in_all}
use Rattle.graph_parts.specs.Spots.{LiesInFile}

take-mono : (i j : ℕ) (files : List ChainLayer) → i ≤ j → commits_in_all (take i files) ≤ commits_in_all (take j files)
take-mono zero j files le = omega arith
take-mono (suc i) zero files le = absurd (omega (arith, le))
take-mono (suc i) (suc j) [] le = omega arith
take-mono (suc i) (suc j) (file ∷ files) le =
    omega (
      arith,
      sum_by-cons commits_in file (take i files),
      sum_by-cons commits_in file (take j files),
      take-mono i j files (omega (arith, le)),
    )

file-next : (files : List ChainLayer) (l : ℕ) (file : ChainLayer) → slice_get files l ≡ Some file
    → commits_in_all (take (l + 1) files) ≡ commits_in_all (take l files) + commits_in file
file-next files l file there =
    let within = slice_get_within files l file there in
    let one : commits_in (get_or files l file) ≡ commits_in file =
    ap commits_in (get_or_from_slice_get files l file file there) in
    omega (arith, sum_by_more commits_in files l file within, one)

before : (files : List ChainLayer) (pos l m : ℕ) → LiesInFile files pos l → LiesInFile files pos m → l < m → ⊥
before files pos l m (left, at) (other, there) lt =
    omega (
      arith,
      at.counted,
      at.within,
      there.counted,
      file-next files l at.file at.there,
      take-mono (l + 1) m files (omega (arith, lt)),
    )

-- it lies in no other
pub one-file : (files : List ChainLayer) (pos l m : ℕ) → LiesInFile files pos l → LiesInFile files pos m → l ≡ m
one-file files pos l m at there =
    ⊎_elim
    (λ (lt : l < m). absurd (before files pos l m at there lt))
    (λ (ge : m ≤ l).
    ⊎_elim
    (λ (lt : m < l). absurd (before files pos m l there at lt))
    (λ (le : l ≤ m). omega (arith, ge, le))
    (cases_lt m l))
    (cases_lt l m)
