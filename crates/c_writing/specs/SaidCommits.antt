-- What the commits that C hands in say, as new commits. For private contracts alone.
use Rattle.std.specs.Prelude.{ℕ, ◌<◌, ◌≤◌, ◌^◌, List, length, take, refl}
use Rattle.std.proofs.Common.{length-take, subst, sym}
use Rattle.std.proofs.Math.Dec.{lit<}
use Rattle.std.proofs.Math.Nat.{min-le_left}
use denote.RawPtr.{null_ptr}
use Rattle.graph_format.specs.Format.{pieces}
use Rattle.graph_writer.specs.declared.commit.NewCommit.{NewCommit}
use Rattle.c_writing.specs.declared.new_commits.CgNewCommit.{CgNewCommit}

-- there is memory for the ids of its parents, as for all that is handed in
abbrev pub HasFewParents : CgNewCommit → Type 0
HasFewParents handed = length handed.parents.now < 2 ^ 63

-- no list is longer
abbrev pub most_parents : ℕ
most_parents = 9223372036854775807

-- the ids of its parents
unfoldable pub said_parents : CgNewCommit → List (List ℕ)
said_parents handed = take most_parents (pieces (length handed.id.now) handed.parents.now)

pub parent_room : (handed : CgNewCommit) → length (said_parents handed) ≤ most_parents
unfolding said_parents
parent_room handed =
    let ids = pieces (length handed.id.now) handed.parents.now in
    subst (λ (n : ℕ). n ≤ most_parents) (sym (length-take most_parents ids)) (min-le_left most_parents (length ids))

-- what is handed in of a commit
abbrev pub said : CgNewCommit → NewCommit
said handed = record {
  id = handed.id.now;
  tree = handed.tree.now;
  parents = record {
    ptr = null_ptr;
    len = length (said_parents handed);
    cap = most_parents;
    alloc = record { memory = record { seal = tt } };
    items = said_parents handed;
    ok = (refl, parent_room handed);
    small = lit< tt;
  };
  time = handed.time;
}
