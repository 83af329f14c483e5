-- the ids of a commit's parents, for which there is room
use Rattle.std.proofs.Common.{◌≡◌, ℕ, ◌/◌, ◌<◌, ◌^◌, List, length, subst, ap, ◌∙◌, arith}
use Rattle.std.proofs.lemmas.List.{take_all}
use Rattle.std.proofs.Math.Nat.{div-le_self}
use Rattle.graph_format.specs.Format.{pieces}
use Rattle.graph_format.proofs.PieceLemmas.{length-pieces}
use Rattle.c_writing.specs.SaidCommits.{most_parents, said_parents}
use Rattle.c_writing.specs.declared.new_commits.CgNewCommit.{CgNewCommit}

-- all ids that bytes have are taken
pub all-taken : (handed : CgNewCommit) → length handed.parents.now < 2 ^ 63
    → said_parents handed ≡ pieces (length handed.id.now) handed.parents.now
unfolding said_parents
all-taken handed few =
    let size = length handed.id.now in let bytes = handed.parents.now in
    take_all most_parents (pieces size bytes) (omega (arith, few, length-pieces size bytes, div-le_self (length bytes) size))

-- how many they are
pub taken-count : (handed : CgNewCommit) → length handed.parents.now < 2 ^ 63
    → length (said_parents handed) ≡ length handed.parents.now / length handed.id.now
taken-count handed few =
    ap (λ (ids : List (List ℕ)). length ids) (all-taken handed few) ∙ length-pieces (length handed.id.now) handed.parents.now

-- the number of one of them
pub number-within : (handed : CgNewCommit) (i : ℕ) → length handed.parents.now < 2 ^ 63 → i < length (said_parents handed)
    → i < length handed.parents.now / length handed.id.now
number-within handed i few there = subst (λ (n : ℕ). i < n) (taken-count handed few) there
