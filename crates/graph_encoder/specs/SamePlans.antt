-- When two plans say the same, wherever their lists lie in memory.
use Rattle.std.specs.Prelude.{◌≡◌, ℕ, List, map, option_map}
use Rattle.graph_encoder.specs.DateOffsets.{offsets_of}
use Rattle.graph_encoder.specs.declared.filters.FilterNumbers.{FilterNumbers}
use Rattle.graph_encoder.specs.declared.filters.PlanFilters.{PlanFilters}
use Rattle.graph_encoder.specs.declared.plan.FilePlan.{FilePlan}
use Rattle.graph_encoder.specs.declared.plan.PlanCommit.{PlanCommit}

-- What a plan says of a commit.
pub record SaidCommit : Type 0 where
  pub id : List ℕ
  pub tree : List ℕ
  pub parents : List ℕ
  pub generation : ℕ
  pub time : ℕ

abbrev pub said_commit : PlanCommit → SaidCommit
said_commit c = record {
  id = c.id;
  tree = c.tree;
  parents = c.parents.items;
  generation = c.generation;
  time = c.time;
}

-- What it says of filters.
pub record SaidFilters : Type 0 where
  pub numbers : FilterNumbers
  pub ends : List ℕ
  pub bytes : List ℕ

abbrev pub said_filters : PlanFilters → SaidFilters
said_filters f = record { numbers = f.numbers; ends = f.ends.items; bytes = f.bytes.items }

-- The plans say the same.
pub record SayTheSame (plan other : FilePlan) : Type 0 where
  pub kind : plan.kind ≡ other.kind
  pub bases : plan.bases.items ≡ other.bases.items
  pub commits : map said_commit plan.commits.items ≡ map said_commit other.commits.items
  pub dates : offsets_of plan ≡ offsets_of other
  pub filters : option_map said_filters plan.filters ≡ option_map said_filters other.filters
