-- Trees that are kept. For private contracts.
use Rattle.std.specs.Prelude.{◌≤◌, ⊤, ℕ, List, Option, length, slice_range}
use Rattle.std.specs.Option.{MatchOption}
use Rattle.std.specs.Ordering.{nat_cmp}
use Rattle.std.specs.Cmp.Lexicographic.{slice_cmp}
use Rattle.std.specs.BTreeMap as tree
use Rattle.gix_hash_core.specs.declared.kind.Kind.{Kind}
use Rattle.tree_requests.specs.TakenTree.{IsKeptTree}
use Rattle.tree_requests.specs.declared.store.Span.{Span}

-- The bytes of a span are those of the tree with an id.
pub record IsStoredAt (kind : Kind) (stream : Option (List ℕ)) (bytes id : List ℕ) (span : Span) : Type 0 where
  pub order : span.start ≤ span.end
  pub within : span.end ≤ length bytes
  pub kept : IsKeptTree kind stream id (slice_range bytes span.start span.end)

-- each span that stands by an id is that of its tree
abbrev pub AreStored : Kind → Option (List ℕ) → List ℕ → tree.BTreeMap (List ℕ) Span → Type 0
AreStored kind stream bytes spans =
    (id : List ℕ) → MatchOption (tree.get (slice_cmp nat_cmp) spans id) ⊤ (IsStoredAt kind stream bytes id)
