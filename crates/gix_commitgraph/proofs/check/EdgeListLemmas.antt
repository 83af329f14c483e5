-- laws of the tallies of parents
use Rattle.std.proofs.Common.{◌≡◌, ℕ, ◌+◌, ◌<◌, ◌≤◌, List, map, max, Option, Some, None, IfSome, length}
use Rattle.std.proofs.Common.{refl, ap, ◌∙◌, arith}
use Rattle.std.proofs.lemmas.List.Elements.{All-nil, All-cons, All-head, All-tail}
use Rattle.graph_walks.specs.Counts.{greatest}
use Rattle.graph_walks.specs.History.{Node, generation_at}
use Rattle.graph_walks.proofs.GreatestLemmas.{greatest-cons}
use Rattle.graph_format.specs.Parents.{DecodedParents, no_parents, faulty, followed_by}
use Rattle.graph_format.specs.declared.Position.{Position}
use Rattle.graph_format.specs.declared.parents.ParentError.{ParentError}
use Rattle.gix_commitgraph.specs.ListedTallies.{AreWithin, tally_of, IsTally}
use Rattle.gix_commitgraph.specs.declared.verify.parents.ParentTally.{ParentTally}

-- one parent before others stands in the layer, and the others do
within-more : (stop : ℕ) (parents : DecodedParents) (pos : Position) → AreWithin stop parents → pos.0 < stop
    → AreWithin stop (followed_by pos parents)
within-more stop parents pos within below =
    record { decoded = within.decoded; below = All-cons (λ q. q.0 < stop) pos parents.positions below within.below }

within-first : (stop : ℕ) (parents : DecodedParents) (pos : Position) → AreWithin stop (followed_by pos parents) → pos.0 < stop
within-first stop parents pos within = All-head (λ q. q.0 < stop) pos parents.positions within.below

within-rest : (stop : ℕ) (parents : DecodedParents) (pos : Position) → AreWithin stop (followed_by pos parents)
    → AreWithin stop parents
within-rest stop parents pos within =
    record { decoded = within.decoded; below = All-tail (λ q. q.0 < stop) pos parents.positions within.below }

-- a tally by its two numbers
same-tally : (a b : ParentTally) → a.count ≡ b.count → a.max_generation ≡ b.max_generation → a ≡ b
same-tally a b count most =
    ap (λ (n : ℕ). let t : ParentTally = record { count = n; max_generation = a.max_generation } in t) count
    ∙ ap (λ (n : ℕ). let t : ParentTally = record { count = b.count; max_generation = n } in t) most

-- no tally is there of parents that are a fault alone
pub nothing-tallied : (history : List Node) (stop : ℕ) (error : ParentError) → IsTally history stop (faulty error) None
nothing-tallied history stop error = λ (within : AreWithin stop (faulty error)). let none = within.decoded in cc

-- no parents
pub no_parents_tallied : (history : List Node) (stop : ℕ)
    → IsTally history stop no_parents (Some (record { count = 0; max_generation = 0 }))
no_parents_tallied history stop = (record { decoded = refl; below = All-nil (λ q. q.0 < stop) }, refl)

-- one parent before others
pub one_before : (history : List Node) (stop : ℕ) (parents : DecodedParents) (pos : Position) (others tally : ParentTally)
    → IsTally history stop parents (Some others) → pos.0 < stop → tally.count ≡ others.count + 1
    → tally.max_generation ≡ max (generation_at history pos.0) others.max_generation
    → IsTally history stop (followed_by pos parents) (Some tally)
one_before history stop parents pos others tally is below count most =
    let their_count : others.count ≡ length parents.positions = ap (λ (t : ParentTally). t.count) is.1 in
    let theirs : others.max_generation ≡ greatest (map (generation_at history) (map (λ q. q.0) parents.positions)) =
    ap (λ (t : ParentTally). t.max_generation) is.1 in (
      within-more stop parents pos is.0 below,
      same-tally tally (tally_of history (followed_by pos parents)) (omega (arith, count, their_count))
          (omega (
            arith,
            most,
            theirs,
            greatest-cons (generation_at history pos.0) (map (generation_at history) (map (λ q. q.0) parents.positions)),
          )),
    )

-- one parent past the end before others
pub past_before : (history : List Node) (stop : ℕ) (parents : DecodedParents) (pos : Position) → stop ≤ pos.0
    → IsTally history stop (followed_by pos parents) None
past_before history stop parents pos past = λ within. absurd (omega (arith, past, within-first stop parents pos within))

-- one parent before others that are refused
pub refused_before : (history : List Node) (stop : ℕ) (parents : DecodedParents) (pos : Position)
    → IsTally history stop parents None → IsTally history stop (followed_by pos parents) None
refused_before history stop parents pos refused = λ within. refused (within-rest stop parents pos within)

-- a bound of the parents is one of their count
pub tallied_few : (history : List Node) (stop : ℕ) (parents : DecodedParents) (tally : Option ParentTally)
    → IsTally history stop parents tally → length parents.positions ≤ 4294967294
    → IfSome tally (λ tally. tally.count < 4294967295)
tallied_few history stop parents None is few = tt
tallied_few history stop parents (Some tally) is few = omega (arith, ap (λ (t : ParentTally). t.count) is.1, few)
