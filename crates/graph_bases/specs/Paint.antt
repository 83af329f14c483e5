-- What is known of the ways to a commit from a commit and some others: its paint, which it passes on to its parents. For
-- private contracts alone.
use Rattle.std.specs.Prelude.{◌≡◌, ℕ, Bool, true, false, not, ◌&&◌, ◌||◌, if◌then◌else◌, List, length, count_by}
use Rattle.graph_walks.specs.History.{Node}
use Rattle.graph_walks.specs.Walks.{Reaches}
use Rattle.graph_bases.specs.Bases.{IsReachedFromSome, IsBelowCommon}
use Rattle.graph_bases.specs.declared.paint.Paint.{Paint}
use Rattle.graph_bases.specs.declared.paint.Paint.TheVariants.{Bare, First, Others, Both, Stale}
use Rattle.graph_bases.specs.declared.paint.Coat.{Coat}
use Rattle.graph_bases.specs.declared.paint.Coats.{Coats}
pub use Rattle.graph_bases.specs.Sheet.{bare, coat_at}
use Rattle.graph_bases.specs.Trails.{trail_at, trail_in}

-- the first leads to the commit
abbrev pub first_leads : Paint → Bool
first_leads First = true
first_leads Both = true
first_leads Stale = true
first_leads _ = false

-- some of the others leads to it
abbrev pub others_lead : Paint → Bool
others_lead Others = true
others_lead Both = true
others_lead Stale = true
others_lead _ = false

-- it is a proper ancestor of a common ancestor
abbrev pub is_stale : Paint → Bool
is_stale Stale = true
is_stale _ = false

-- some commit is known to lead to it
abbrev pub is_painted : Paint → Bool
is_painted x = first_leads x || others_lead x

-- it is ahead, or behind, or a merge base, as far as is known

abbrev pub is_ahead : Paint → Bool
is_ahead x = first_leads x && not (others_lead x)

abbrev pub is_behind : Paint → Bool
is_behind x = others_lead x && not (first_leads x)

abbrev pub is_base : Paint → Bool
is_base x = (first_leads x && others_lead x) && not (is_stale x)

-- one side alone leads to it, as far as is known
abbrev pub is_on_one_side : Paint → Bool
is_on_one_side x = is_ahead x || is_behind x

-- x says all that y says
abbrev pub covers : Paint → Paint → Bool
covers x Bare = true
covers x First = first_leads x
covers x Others = others_lead x
covers x Both = first_leads x && others_lead x
covers x Stale = is_stale x

-- what x and y say together
abbrev pub joined : Paint → Paint → Paint
joined x y = if covers x y then x else (if covers y x then y else Both)

-- what a commit says of its parents
abbrev pub passed : Paint → Paint
passed x = if first_leads x && others_lead x then Stale else x

-- how many times more it can come to say more
abbrev pub unknown : Paint → ℕ
unknown Bare = 3
unknown First = 2
unknown Others = 2
unknown Both = 1
unknown Stale = 0

-- how many times it has come to say more
abbrev pub known : Paint → ℕ
known Bare = 0
known First = 1
known Others = 1
known Both = 2
known Stale = 3

-- What paint says of a commit is so.
pub record IsSo (history : List Node) (start : ℕ) (starts : List ℕ) (p : ℕ) (paint : Paint) : Type 0 where
  pub first : first_leads paint ≡ true → Reaches history start p
  pub others : others_lead paint ≡ true → IsReachedFromSome history starts p
  pub stale : is_stale paint ≡ true → IsBelowCommon history start starts p

-- Paint has come to say more, or the same.
pub record Grows (before after : Paint) : Type 0 where
  pub first : first_leads before ≡ true → first_leads after ≡ true
  pub others : others_lead before ≡ true → others_lead after ≡ true
  pub stale : is_stale before ≡ true → is_stale after ≡ true

-- a commit that is queued while a base may lie there or below it
abbrev pub is_fresh : Coat → Bool
is_fresh coat = coat.queued && not (is_stale coat.paint)

-- a commit that was taken from the queue, and is not there again
abbrev pub is_visited : Coat → Bool
is_visited coat = is_painted coat.paint && not coat.queued

abbrev pub paint_at : List Coat → ℕ → Paint
paint_at coats p = (coat_at coats p).paint

abbrev pub is_queued : List Coat → ℕ → Bool
is_queued coats p = (coat_at coats p).queued

-- The counts of coats are right.
pub record IsCounted {T : Type 0} (coats : Coats T) : Type 0 where
  pub fresh : coats.fresh ≡ count_by is_fresh coats.all
  pub ahead : coats.ahead ≡ count_by (λ coat. is_ahead coat.paint) coats.all
  pub behind : coats.behind ≡ count_by (λ coat. is_behind coat.paint) coats.all

-- What all coats say is so.
pub record IsPaint (history : List Node) (start : ℕ) (starts : List ℕ) (coats : List Coat) : Type 0 where
  pub coats_len : length coats ≡ length history
  pub each : (p : ℕ) → IsSo history start starts p (paint_at coats p)

-- Nothing is known of any of n commits, and no word of an extra edge list was passed.
pub record AreIdle {T : Type 0} (n : ℕ) (coats : Coats T) : Type 0 where
  pub coats_len : length coats.all ≡ n
  pub bare : (p : ℕ) → coat_at coats.all p ≡ bare
  pub trails : (l w : ℕ) → trail_at (trail_in coats.trails.layers.items l) w ≡ Bare
  pub counted : IsCounted coats
