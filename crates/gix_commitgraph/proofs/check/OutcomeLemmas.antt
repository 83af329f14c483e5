-- What an outcome says of the greatest generation number.
use Rattle.std.proofs.Common.{◌≡◌, ℕ, ◌+◌, ◌-◌, ◌<◌, ◌≤◌, if◌then◌else◌, Bool, true, false, List, [], ◌∷◌, length}
use Rattle.std.proofs.Common.{Some, None, refl, arith}
use Rattle.std.proofs.lemmas.Bool.{ltb-false}
use Rattle.std.proofs.lemmas.List.Elements.{All-head, All-tail}
use Rattle.std.proofs.lemmas.Option.{same_Some}
use Rattle.graph_walks.specs.Counts.{greatest}
use Rattle.graph_walks.specs.Generations.{longest_path}
use Rattle.graph_walks.specs.History.{Node, generations}
use Rattle.graph_walks.specs.declared.TheConstants.{GENERATION_NUMBER_MAX}
use Rattle.graph_walks.proofs.GreatestLemmas.{greatest-cons}
use Rattle.gix_commitgraph.specs.Statistics.{AreNumbered}

-- the numbers of one commit
abbrev IsNumbered : Node → Type 0
IsNumbered node = (0 < node.generation) × (node.generation ≤ GENERATION_NUMBER_MAX)

pub greatest-capped : (seen : List Node) → AreNumbered seen → greatest (generations seen) ≤ GENERATION_NUMBER_MAX
greatest-capped [] numbered = omega arith
greatest-capped (node ∷ seen) numbered =
    omega (
      arith,
      greatest-cons node.generation (generations seen),
      (All-head IsNumbered node seen numbered).1,
      greatest-capped seen (All-tail IsNumbered node seen numbered),
    )

greatest-some : (seen : List Node) → AreNumbered seen → 0 < length seen → 0 < greatest (generations seen)
greatest-some [] numbered some = absurd (omega arith)
greatest-some (node ∷ seen) numbered some =
    omega (arith, greatest-cons node.generation (generations seen), (All-head IsNumbered node seen numbered).0)

told-edges : (g n : ℕ) (below : Bool) → (if below then Some (g - 1) else None) ≡ Some n → g - 1 ≡ n
told-edges g n true told = same_Some (g - 1) n told
told-edges g n false told = cc

told-none : (g : ℕ) (below : Bool) → (if below then Some (g - 1) else None) ≡ None → below ≡ false
told-none g true told = cc
told-none g false told = refl

-- where no commit was seen
pub greatest_of_none : (seen : List Node) → length seen ≡ 0 → greatest (generations seen) ≡ 0
greatest_of_none [] none = refl
greatest_of_none (node ∷ seen) none = absurd (omega arith)

-- where the longest path has so many edges
pub greatest_of_edges : (seen : List Node) (edges : ℕ) → AreNumbered seen → 0 < length seen
    → longest_path (generations seen) ≡ Some edges → edges + 1 ≡ greatest (generations seen)
greatest_of_edges seen edges numbered some told =
    omega (arith, greatest-some seen numbered some, told-edges (greatest (generations seen)) edges _ told)

-- where a number is at the cap
pub greatest_at_cap : (seen : List Node) → AreNumbered seen → longest_path (generations seen) ≡ None
    → GENERATION_NUMBER_MAX ≡ greatest (generations seen)
greatest_at_cap seen numbered told =
    let past = ltb-false (greatest (generations seen)) GENERATION_NUMBER_MAX (told-none (greatest (generations seen)) _ told) in
    omega (arith, greatest-capped seen numbered, past)
