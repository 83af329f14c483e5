-- The ids of the commits that are handed in, and what refuses one of them by its id.
use Rattle.std.proofs.Common.{◌≡◌, ℕ, ◌<◌, List, Option, Some, None, option_map, length, take, slice_get, get_or, refl, sym, ap}
use Rattle.std.proofs.Common.{◌∙◌, arith}
use Rattle.std.specs.Option.{option_and_then}
use Rattle.std.proofs.lemmas.List.{length-map}
use Rattle.std.proofs.lemmas.Option.{slice_get_read, slice_get-map, slice_get_within}
use Rattle.graph_format.specs.Lookup.{scan}
use Rattle.graph_format.specs.LookupLaw.{IsFirst}
use Rattle.graph_format.specs.Parents.{position_of}
use Rattle.graph_format.proofs.ScanLemmas.{scan-first}
use Rattle.graph_writer.specs.NewCommits.{new_ids}
use Rattle.graph_writer.specs.WriteRefusal.{twice_at, below_at}
use Rattle.graph_writer.specs.declared.commit.NewCommit.{NewCommit}
use Rattle.graph_writer.specs.declared.commit.WriteError.TheVariants as error

-- the commit that was read at an index stands there
pub commit-at : (commits : List NewCommit) (i : ℕ) (commit : NewCommit) → i < length commits → commit ≡ get_or commits i commit
    → slice_get commits i ≡ Some commit
commit-at commits i commit lt is = slice_get_read commits (length commits) i commit refl lt is

pub id-at : (commits : List NewCommit) (i : ℕ) (commit : NewCommit) → slice_get commits i ≡ Some commit
    → slice_get (new_ids commits) i ≡ Some commit.id
id-at commits i commit here =
    slice_get-map (λ (c : NewCommit). c.id) commits i ∙ ap (option_map (λ (c : NewCommit). c.id)) here

-- a commit without a fault of its id, or with one, by the answer of a scan
pub twice-from : (commits : List NewCommit) (i : ℕ) (id : List ℕ) (answer : Option ℕ) → slice_get (new_ids commits) i ≡ Some id
    → scan (take i (new_ids commits)) id ≡ answer → twice_at commits i ≡ option_map (error.Twice i) answer
twice-from commits i id answer here is =
    ap (option_and_then (λ (q : List ℕ). option_map (error.Twice i) (scan (take i (new_ids commits)) q))) here
    ∙ ap (option_map (error.Twice i)) is

pub below-from : (below : List (List ℕ)) (commits : List NewCommit) (i : ℕ) (id : List ℕ) (answer : Option ℕ)
    → slice_get (new_ids commits) i ≡ Some id → scan below id ≡ answer
    → below_at below commits i ≡ option_map (λ p. error.Below i (position_of p)) answer
below-from below commits i id answer here is =
    ap (option_and_then (λ (q : List ℕ). option_map (λ (p : ℕ). error.Below i (position_of p)) (scan below q))) here
    ∙ ap (option_map (λ (p : ℕ). error.Below i (position_of p))) is

-- what a scan answers stands there
first-holds : (ids : List (List ℕ)) (id : List ℕ) (answer : Option ℕ) (p : ℕ) → IsFirst ids id answer → answer ≡ Some p
    → slice_get ids p ≡ Some id
first-holds ids id None p is same = absurd (cc)
first-holds ids id (Some q) p is same =
    let number : q ≡ p = cc in ap (slice_get ids) (sym number) ∙ is.0

pub scan-holds : (ids : List (List ℕ)) (id : List ℕ) (p : ℕ) → scan ids id ≡ Some p → slice_get ids p ≡ Some id
scan-holds ids id p is = first-holds ids id (scan ids id) p (scan-first ids id) is

pub scan-within : (commits : List NewCommit) (id : List ℕ) (p : ℕ) → scan (new_ids commits) id ≡ Some p → p < length commits
scan-within commits id p is =
    omega (
      arith,
      slice_get_within (new_ids commits) p id (scan-holds (new_ids commits) id p is),
      length-map commits (λ (c : NewCommit). c.id),
    )

-- where a scan answers nothing, the id stands nowhere
first-misses : (ids : List (List ℕ)) (id : List ℕ) (answer : Option ℕ) (p : ℕ) → IsFirst ids id answer → answer ≡ None
    → slice_get ids p ≡ Some id → ⊥
first-misses ids id None p is same here = is p here
first-misses ids id (Some q) p is same here = cc

pub scan-misses : (ids : List (List ℕ)) (id : List ℕ) (p : ℕ) → scan ids id ≡ None → slice_get ids p ≡ Some id → ⊥
scan-misses ids id p is here = first-misses ids id (scan ids id) p (scan-first ids id) is here
