-- A check is a list of points. Here is what an answer says of a check that stops at the first fault, and of its processor.
use Rattle.std.specs.Prelude.{◌≡◌, ℕ, List, [], ◌∷◌, ◌++◌, Option, Some, None, Result, Ok, Err}
use Rattle.std.specs.List.{FoldsTo}

-- A point looks for a fault, or calls the processor on the commit at a position.
pub data Point (X : Type 0) : Type 0 where
  check : Option X → Point X
  call : ℕ → Point X

-- the first of the faults that are there
abbrev pub first_some : {Y : Type 0} → List (Option Y) → Option Y
first_some [] = None
first_some (None ∷ faults) = first_some faults
first_some (Some y ∷ faults) = Some y

-- the first fault of a check
abbrev pub first_fault : {X : Type 0} → List (Point X) → Option X
first_fault [] = None
first_fault (check None ∷ points) = first_fault points
first_fault (check (Some x) ∷ points) = Some x
first_fault (call p ∷ points) = first_fault points

-- the positions that the points call on
abbrev pub calls : {X : Type 0} → List (Point X) → List ℕ
calls [] = []
calls (check o ∷ points) = calls points
calls (call p ∷ points) = p ∷ calls points

-- those of them that stand before the first fault
abbrev pub calls_before_fault : {X : Type 0} → List (Point X) → List ℕ
calls_before_fault [] = []
calls_before_fault (check None ∷ points) = calls_before_fault points
calls_before_fault (check (Some x) ∷ points) = []
calls_before_fault (call p ∷ points) = p ∷ calls_before_fault points

-- why a check stopped
pub data Cause (X E : Type 0) : Type 0 where
  refused : X → Cause X E
  by_processor : ℕ → E → Cause X E
  no_memory : Cause X E

-- `step f p r g`: a call of the processor in the state f, on the commit at p, may answer r and leave it in the state g.
module _ {F E : Type 0} (step : F → ℕ → Result (Unit {0}) E → F → Type 0) where
  -- calls at these positions, one after another, were accepted and took the processor from f to g
  abbrev pub Accepts : F → List ℕ → F → Type 0
  Accepts f positions g = FoldsTo (λ h p k. step h p (Ok tt) k) f positions g

  module _ {X : Type 0} (points : List (Point X)) (f g : F) where
    -- No point has a fault, and the processor accepted each call.
    pub record PassesAll : Type 0 where
      pub no_fault : first_fault points ≡ None
      pub accepted : Accepts f (calls points) g

    -- The first fault is x, and the processor was called just where a call stands before it, and accepted.
    pub record IsRefused (x : X) : Type 0 where
      pub fault : first_fault points ≡ Some x
      pub accepted : Accepts f (calls_before_fault points) g

    -- No point before the call at p has a fault, the processor accepted the calls before it, and answered e there.
    pub record StopsAtCall (p : ℕ) (e : E) : Type 0 where
      pub before : List (Point X)
      pub after : List (Point X)
      pub split : points ≡ before ++ call p ∷ after
      pub no_fault : first_fault before ≡ None
      pub then : F
      pub accepted : Accepts f (calls before) then
      pub answered : step then p (Err e) g

    -- Memory ran out after points without a fault, whose calls the processor accepted.
    pub record RunsOutOfMemory : Type 0 where
      pub before : List (Point X)
      pub after : List (Point X)
      pub split : points ≡ before ++ after
      pub no_fault : first_fault before ≡ None
      pub accepted : Accepts f (calls before) g

    abbrev pub StopsBy : Cause X E → Type 0
    StopsBy (refused x) = IsRefused x
    StopsBy (by_processor p e) = StopsAtCall p e
    StopsBy no_memory = RunsOutOfMemory

    -- The answer of a check and the state in which it leaves the processor. `cause` says why an error stops it.
    abbrev pub Agrees : {T W : Type 0} → (W → Cause X E) → Result T W → Type 0
    Agrees cause (Ok outcome) = PassesAll
    Agrees cause (Err error) = StopsBy (cause error)
