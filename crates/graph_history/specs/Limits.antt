-- When a search or a check is stopped before its end.
use Rattle.std.specs.Prelude.{◌≡◌, ◌⊎◌, ◌+◌, ◌<◌, ◌≤◌, ◌∷◌, ◌++◌, ℕ, List, Bool, false, None, Some, is_some, IsTrue, ⊤}
use Rattle.graph_walks.specs.History.{Node}
use Rattle.graph_format.specs.Layer.{Layer}
use Rattle.graph_format.specs.Points.{Point, call, first_fault}
use Rattle.gix_commitgraph.specs.Distinct.{IsSoundWith}
use Rattle.gix_commitgraph.specs.Graph.{total}
use Rattle.gix_commitgraph.specs.Verify.{points_with}
use Rattle.gix_commitgraph.specs.declared.verify.VerifyError.{VerifyError}
use Rattle.gix_commitgraph.specs.declared.verify.VerifyError.TheVariants as error
use Rattle.gix_commitgraph.specs.declared.verify.VerifyOptions.{VerifyOptions}
use Rattle.commit_search.specs.Cardinality.{AtLeast, AtMost}
use Rattle.commit_search.specs.WalkAnswer.{IsAbove, IsAtOrAbove, LeadsWithin}
use Rattle.graph_history.specs.declared.limit.Limit.{Limit}
use Rattle.graph_history.specs.declared.limit.LimitError.{LimitError}
use Rattle.graph_history.specs.declared.limit.LimitError.TheVariants as limited
use Rattle.graph_history.specs.declared.limit.Stopped.{Stopped}

-- What stops a search or a check: how many commits may be visited, and whether there is a flag, which may be raised.
pub record Bound : Type 0 where
  pub visits : ℕ
  pub flagged : Bool

abbrev pub bound_of : Limit → Bound
bound_of limit = record { visits = limit.visits; flagged = is_some limit.flag }

-- what has visited so many commits may be stopped
abbrev pub StopsAfter : Bound → ℕ → Type 0
StopsAfter bound visits = (bound.visits ≤ visits) ⊎ IsTrue bound.flagged

-- what visits at most so many commits may be stopped
abbrev pub MayBeStopped : Bound → ℕ → Type 0
MayBeStopped bound most = (bound.visits < most) ⊎ IsTrue bound.flagged

-- a search for a walk from one commit to another may be stopped: the first reaches more commits than may be visited whose
-- generation numbers are at least that of the other, or there is a flag
abbrev pub SearchMayBeStopped : Bound → List Node → ℕ → ℕ → Type 0
SearchMayBeStopped bound history from to = AtLeast (bound.visits + 1) (IsAtOrAbove history from to) ⊎ IsTrue bound.flagged

-- a search has no answer: it was stopped, and Stops holds; or an allocation failed, and Fails holds
abbrev pub EndsEarly : {E : Type 0} → Type 0 → Type 0 → LimitError E → Type 0
EndsEarly Stops Fails limited.Stopped = Stops
EndsEarly Stops Fails (limited.Source e) = Fails

-- Whether a walk leads from one commit to another may be told once n commits were visited, by reading their parents.
pub record IsToldWithin (n : ℕ) (history : List Node) (from to : ℕ) (found : Bool) : Type 0 where
  -- a yes: some walk has at most n steps
  pub yes : IsTrue found → LeadsWithin history from to n
  -- a no: at most n commits that the first one reaches have a greater generation number than the other
  pub no : found ≡ false → AtMost n (IsAbove history from to)

-- the error of a source has a property, or there is none of it
abbrev pub IfSource : {E : Type 0} → (E → Type 0) → LimitError E → Type 0
IfSource P limited.Stopped = ⊤
IfSource P (limited.Source e) = P e

-- there is an error of a source, and it has a property
abbrev pub IsSource : {E : Type 0} → (E → Type 0) → LimitError E → Type 0
IsSource P limited.Stopped = ⊥
IsSource P (limited.Source e) = P e

-- What a check does with these options before it visits the commit at a position finds no fault.
pub record HasNoFaultBefore (options : VerifyOptions) (layers : List Layer) (pos : ℕ) : Type 0 where
  pub before : List (Point (VerifyError Stopped))
  pub after : List (Point (VerifyError Stopped))
  pub split : points_with options layers ≡ before ++ call pos ∷ after
  pub no_fault : first_fault before ≡ None

-- A check is stopped at the commit at a position, having visited those before it: as many as may be visited, and fewer only where
-- there is a flag. Nothing that comes before is wrong.
pub record IsStoppedAt (bound : Bound) (options : VerifyOptions) (layers : List Layer) (pos : ℕ) : Type 0 where
  pub there : pos < total layers
  pub within : pos ≤ bound.visits
  pub full : bound.flagged ≡ false → pos ≡ bound.visits
  pub right_so_far : HasNoFaultBefore options layers pos

-- the errors of a check with these options that may be stopped: that it was, or the first fault, and then the graph does not keep
-- what the options ask for; or that an allocation failed
abbrev pub MayRefuseWithin : Bound → VerifyOptions → List Layer → VerifyError Stopped → Type 0
MayRefuseWithin bound options layers (error.Processor pos stop) = IsStoppedAt bound options layers pos.0
MayRefuseWithin bound options layers error.OutOfMemory = ⊤
MayRefuseWithin bound options layers x = (first_fault (points_with options layers) ≡ Some x) × (¬ IsSoundWith options layers)
