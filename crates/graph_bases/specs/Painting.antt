-- The state of a painting of a history: the paint of all commits, and the queue of those that have not passed on all that is
-- known of them. For private contracts alone.
use Rattle.std.specs.Prelude.{◌⊎◌, count_by}
use Rattle.std.specs.Prelude.{◌≡◌, ◌≢◌, ◌↔◌, ℕ, ◌+◌, ◌*◌, ◌^◌, ◌<◌, ◌≤◌, true, false, List, All, AllPairs, Contains, length}
use Rattle.std.specs.Prelude.{sum_by, slice_index}
use Rattle.std.specs.List.Sorted.{IsStrictlyIncreasing}
use Rattle.std.specs.BinaryHeap.{IsHeap, heap_items}
use Rattle.std.specs.Ordering.{nat_cmp, ordering_then}
use Rattle.std.specs.declared.cmp.Ordering.{Ordering}
use Rattle.graph_walks.specs.History.{Node, IsParent}
use Rattle.graph_format.specs.Parents.{extra_edge_of}
use Rattle.graph_format.specs.declared.Position.{Position}
use Rattle.graph_format.specs.declared.parents.ExtraEdge.TheVariants as extra
use Rattle.commit_search.specs.Positions.{numbers_of}
use Rattle.graph_bases.specs.Bases.{IsMergeBase, IsAhead, IsBehind, IsStart, AreBelowCap}
use Rattle.commit_search.specs.EdgeLists.{named_by}
use Rattle.commit_search.specs.Source.{Told}
use Rattle.graph_bases.specs.Paint.{is_on_one_side, is_visited, IsSo}
use Rattle.graph_bases.specs.Paint.{first_leads, others_lead, is_stale, is_painted, is_ahead, is_behind, is_base, passed}
use Rattle.graph_bases.specs.Paint.{known, unknown}
use Rattle.graph_bases.specs.Paint.{paint_at, coat_at, is_queued, Grows, IsCounted, IsPaint}
use Rattle.commit_search.specs.Ranks.{Ranking, FallsAlongParents}
use Rattle.graph_bases.specs.Trails.{trail_at, trail_in}
use Rattle.graph_bases.specs.declared.paint.Coat.{Coat}
use Rattle.graph_bases.specs.declared.paint.Paint.{Paint}
use Rattle.graph_bases.specs.declared.painting.Painting.{Painting}

-- What is known is passed on by all that are not queued.
pub record IsSpread (history : List Node) (start : ℕ) (starts : List ℕ) (coats : List Coat) : Type 0 where
  pub first : first_leads (paint_at coats start) ≡ true
  pub others : (s : ℕ) → Contains starts s → others_lead (paint_at coats s) ≡ true
  pub passes : (p q : ℕ) → is_queued coats p ≡ false → IsParent history p q → Grows (passed (paint_at coats p)) (paint_at coats q)

-- What is known is passed on by all that are not queued, but for one.
pub record IsSpreadBut (history : List Node) (start : ℕ) (starts : List ℕ) (coats : List Coat) (one : ℕ) : Type 0 where
  pub first : first_leads (paint_at coats start) ≡ true
  pub others : (s : ℕ) → Contains starts s → others_lead (paint_at coats s) ≡ true
  pub passes : (p q : ℕ) → ¬ (p ≡ one) → is_queued coats p ≡ false → IsParent history p q
      → Grows (passed (paint_at coats p)) (paint_at coats q)

-- the order of the queue, whose entries are a rank and a position each
abbrev pub entry_cmp : ℕ × ℕ → ℕ × ℕ → Ordering
entry_cmp x y = ordering_then (nat_cmp x.0 y.0) (nat_cmp x.1 y.1)

-- an entry has the rank of its commit
abbrev pub IsRanked : Ranking → ℕ × ℕ → Type 0
IsRanked ranking e = e.0 ≡ ranking.rank e.1

-- The queue, among so many commits, has each that is marked as queued.
pub record IsWaiting (commits : ℕ) (coats : List Coat) (queue : List (ℕ × ℕ)) : Type 0 where
  pub order : IsHeap entry_cmp queue
  pub within : All (λ e. e.1 < commits) queue
  pub queued : (p : ℕ) → is_queued coats p ≡ true → (g : ℕ) × Contains queue (g, p)
  pub count : length queue ≡ count_by (λ coat. coat.queued) coats

-- A rank that no queued commit is above, and no painted one below that is not queued.
pub record IsLevel (ranking : Ranking) (coats : List Coat) (queue : List (ℕ × ℕ)) (level : ℕ) : Type 0 where
  pub above : (p : ℕ) → is_queued coats p ≡ false → is_painted (paint_at coats p) ≡ true → level ≤ ranking.rank p
  pub below : All (λ e. e.0 ≤ level) queue

-- A queue to which a commit was added, or that had it.
pub record Joins (p : ℕ) (old new : List (ℕ × ℕ)) : Type 0 where
  pub order : IsHeap entry_cmp old → IsHeap entry_cmp new
  pub within : (count : ℕ) → p < count → All (λ e. e.1 < count) old → All (λ e. e.1 < count) new
  pub holds : (g : ℕ) × Contains new (g, p)
  pub keeps : (e : ℕ × ℕ) → Contains old e → Contains new e
  pub longer : length new ≤ length old + 1

-- It was added with its rank.
pub record JoinsRanked (ranking : Ranking) (p : ℕ) (old new : List (ℕ × ℕ)) : Type 0 where
  pub ranked : All (IsRanked ranking) old → All (IsRanked ranking) new
  pub below : (level : ℕ) → ranking.rank p ≤ level → All (λ e. e.0 ≤ level) old → All (λ e. e.0 ≤ level) new

-- The coats after paint was added to one commit.
pub record Adds (p : ℕ) (paint : Paint) (old new : List Coat) : Type 0 where
  pub kept : (q : ℕ) → is_queued new q ≡ false → coat_at new q ≡ coat_at old q
  pub grows : (q : ℕ) → Grows (paint_at old q) (paint_at new q)
  pub has : Grows paint (paint_at new p)
  pub others : (q : ℕ) → q ≢ p → coat_at new q ≡ coat_at old q

-- Both sides lead to each of the candidates, none stands there twice, and each merge base, as far as is known, is one of them.
pub record AreCandidates (coats : List Coat) (candidates : List ℕ) : Type 0 where
  pub once : AllPairs (λ p q. p ≢ q) candidates
  pub first : (p : ℕ) → Contains candidates p → first_leads (paint_at coats p) ≡ true
  pub others : (p : ℕ) → Contains candidates p → others_lead (paint_at coats p) ≡ true
  pub all : (p : ℕ) → is_base (paint_at coats p) ≡ true → Contains candidates p

-- The painting may stop: all that are queued are stale, and stand below the cap and no higher than those that are painted
-- and not queued.
pub record IsDone (ranking : Ranking) (coats : List Coat) : Type 0 where
  pub level : ℕ
  pub above : (p : ℕ) → is_queued coats p ≡ false → is_painted (paint_at coats p) ≡ true → level ≤ ranking.rank p
  pub queued : (p : ℕ) → is_queued coats p ≡ true → is_stale (paint_at coats p) ≡ true
  pub below : (p : ℕ) → is_queued coats p ≡ true → ranking.rank p ≤ level
  pub uncapped : (p : ℕ) → is_queued coats p ≡ true → ranking.rank p < ranking.cap

-- e is a commit that the painting starts from, or a parent of one that was visited, to which one side alone leads as far as is
-- known
abbrev pub IsKnownEdge : List Node → ℕ → List ℕ → List Coat → ℕ → Type 0
IsKnownEdge history start starts coats e =
    IsStart start starts e
    ⊎ ((c : ℕ) × (is_queued coats c ≡ false) × (is_on_one_side (paint_at coats c) ≡ true) × IsParent history c e)

-- What was visited, where no commit that the painting starts from is at the cap.
pub record IsVisiting (history : List Node) (ranking : Ranking) (start : ℕ) (starts : List ℕ) (coats : List Coat) (visits : ℕ)
    : Type 0 where
  pub painted : (p : ℕ) → is_queued coats p ≡ true → is_painted (paint_at coats p) ≡ true
  pub edge : (p : ℕ) → is_painted (paint_at coats p) ≡ true → is_stale (paint_at coats p) ≡ false
      → IsKnownEdge history start starts coats p
  pub above : (p : ℕ) → is_queued coats p ≡ false → is_painted (paint_at coats p) ≡ true
      → (e : ℕ) × IsKnownEdge history start starts coats e × (ranking.rank e ≤ ranking.rank p)
  pub count : visits ≡ count_by is_visited coats

-- How many commits were visited: each that was taken from the queue and is not there again, and none more often than it has come
-- to say more, but for what is in the queue.
pub record IsVisitCount (coats : List Coat) (visits : ℕ) : Type 0 where
  pub most : visits + count_by (λ coat. coat.queued) coats ≤ sum_by (λ coat. known coat.paint) coats
  pub least : count_by is_visited coats ≤ visits

-- what is left to do: a bound on how often a commit is taken from the queue
abbrev pub work : List Coat → List (ℕ × ℕ) → ℕ
work coats queue = 2 * sum_by (λ coat. unknown coat.paint) coats + length queue

-- The state of a painting among so many commits.
pub record IsPainting {T : Type 0} (count : ℕ) (s : Painting T) : Type 0 where
  pub few : count < 2 ^ 32
  pub coats_len : length s.coats.all ≡ count
  pub counted : IsCounted s.coats
  pub waiting : IsWaiting count s.coats.all (heap_items s.queue)
  pub candidates : AreCandidates s.coats.all s.candidates.items
  pub visits : IsVisitCount s.coats.all s.visits

-- What it knows is so in this history, with these ranks.
pub record IsPaintingOf {T : Type 0} (history : List Node) (ranking : Ranking) (s : Painting T) : Type 0 where
  pub paint : IsPaint history s.first.0 (numbers_of s.others.now) s.coats.all
  pub ranked : All (IsRanked ranking) (heap_items s.queue)
  pub visiting : FallsAlongParents history ranking → AreBelowCap ranking s.first.0 (numbers_of s.others.now)
      → IsVisiting history ranking s.first.0 (numbers_of s.others.now) s.coats.all s.visits

-- Paint that may be added to a commit.
pub record MayAdd {T : Type 0} (history : List Node) (ranking : Ranking) (s : Painting T) (p : ℕ) (paint : Paint) : Type 0 where
  pub painting : IsPaintingOf history ranking s
  pub so : IsSo history s.first.0 (numbers_of s.others.now) p paint
  pub waits : FallsAlongParents history ranking → AreBelowCap ranking s.first.0 (numbers_of s.others.now)
      → is_painted (paint_at s.coats.all p) ≡ true → is_queued s.coats.all p ≡ true
  pub edge : FallsAlongParents history ranking → AreBelowCap ranking s.first.0 (numbers_of s.others.now) → is_stale paint ≡ false
      → IsKnownEdge history s.first.0 (numbers_of s.others.now) s.coats.all p

-- Of an extra edge list: each word was passed with no more paint than the commit that it names has, and, unless it names the
-- last parent, than the word after it.
pub record IsPassed (coats : List Coat) (list : List ℕ) (trail : List Paint) : Type 0 where
  pub named : (w : ℕ) → Grows (trail_at trail w) (paint_at coats (named_by (extra_edge_of (slice_index list w))))
  pub goes_on : (w : ℕ) (pos : Position) → extra_edge_of (slice_index list w) ≡ extra.Internal pos
      → Grows (trail_at trail w) (trail_at trail (w + 1))

-- so of the lists of all layers, as far as a source says them
abbrev pub ArePassed : {T : Type 0} → (Told → Type 0) → Painting T → Type 0
ArePassed says s = (t : Told) → says t → (l : ℕ) → IsPassed s.coats.all (t.lists l) (trail_in s.coats.trails.layers.items l)

-- The order in which commits are visited is that of the ranks: where these fall along parents, a commit that was taken from the
-- queue stands above all that are there, and its parents are below it, or at the cap as it is.
pub record PassesInOrder {T : Type 0} (ranking : Ranking) (s : Painting T) (commit : ℕ) (paint : Paint) : Type 0 where
  pub uncapped : AreBelowCap ranking s.first.0 (numbers_of s.others.now) → ranking.rank commit < ranking.cap
  pub painted : AreBelowCap ranking s.first.0 (numbers_of s.others.now) → is_painted paint ≡ true
  pub own : AreBelowCap ranking s.first.0 (numbers_of s.others.now) → is_queued s.coats.all commit ≡ false
  pub level : IsLevel ranking s.coats.all (heap_items s.queue) (ranking.rank commit)

-- A commit that was taken from the queue passes on what this paint says of it in a history.
pub record PassesPaintOf {T : Type 0} (history : List Node) (ranking : Ranking) (s : Painting T) (commit : ℕ) (paint : Paint)
    : Type 0 where
  pub painting : IsPaintingOf history ranking s
  pub so : IsSo history s.first.0 (numbers_of s.others.now) commit paint
  pub spread : IsSpreadBut history s.first.0 (numbers_of s.others.now) s.coats.all commit
  pub in_order : FallsAlongParents history ranking → PassesInOrder ranking s commit paint

-- so in each that a source of so many commits says
pub record PassesPaint {T : Type 0} (count : ℕ) (says : Told → Type 0) (ranking : Told → Ranking) (s : Painting T) (commit : ℕ)
    (paint : Paint) : Type 0 where
  pub painting : IsPainting count s
  pub within : commit < count
  pub same : is_queued s.coats.all commit ≡ false → paint_at s.coats.all commit ≡ paint
  pub told : (t : Told) → says t → PassesPaintOf t.history (ranking t) s commit paint

-- Paint was passed on.
pub record PassesOn {T : Type 0} (old new : Painting T) : Type 0 where
  pub grows : (q : ℕ) → Grows (paint_at old.coats.all q) (paint_at new.coats.all q)
  pub work : work new.coats.all (heap_items new.queue) ≤ work old.coats.all (heap_items old.queue)

-- What the paint says when all is done.
pub record IsPainted (history : List Node) (first : ℕ) (others : List ℕ) (coats : List Coat) : Type 0 where
  pub coats_len : length coats ≡ length history
  pub base : (p : ℕ) → (is_base (paint_at coats p) ≡ true) ↔ IsMergeBase history first others p
  pub ahead : (p : ℕ) → (is_ahead (paint_at coats p) ≡ true) ↔ IsAhead history first others p
  pub behind : (p : ℕ) → (is_behind (paint_at coats p) ≡ true) ↔ IsBehind history first others p

-- These are the commits that are merge bases as far as is known, each once, in the order of their positions.
pub record AreBases (coats : List Coat) (bases : List ℕ) : Type 0 where
  pub ascending : IsStrictlyIncreasing bases
  pub those : (p : ℕ) → Contains bases p ↔ (is_base (paint_at coats p) ≡ true)
