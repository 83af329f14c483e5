-- Bytes that an opened file gave. What its reader says of itself is that of the standard library's `Seek` and `Read`: its
-- position, the whole of its bytes, and those that remain. Where it says nothing, nothing is claimed.
use Rattle.std.specs.Prelude.{◌≡◌, ℕ, List, Option, Some, IfSome}
use Rattle.std.specs.Io.KnownBytes.{Consumes, IsAtEnd, Keeps}

-- The reader was set to an offset, and gave these bytes from there on.
pub record AreFromOffset {R : Type 0} (position : R → Option ℕ) (whole remaining : R → Option (List ℕ)) (old new : R)
    (offset : ℕ) (bytes : List ℕ) : Type 0 where
  pub there : R
  pub set : IfSome (position old) (λ _. position there ≡ Some offset)
  pub kept : Keeps (whole old) (whole there)
  pub given : Consumes (remaining there) (remaining new) bytes

-- Some opened file gave these bytes from an offset on.
pub record AreOfFileFrom {F : Type 0} (position : F → Option ℕ) (whole remaining : F → Option (List ℕ)) (offset : ℕ)
    (bytes : List ℕ) : Type 0 where
  pub opened : F
  pub last : F
  pub read : AreFromOffset position whole remaining opened last offset bytes

-- They are all that some opened file gave, to its end.
pub record AreAllOfFile {F : Type 0} (remaining : F → Option (List ℕ)) (bytes : List ℕ) : Type 0 where
  pub opened : F
  pub last : F
  pub all : IfSome (remaining opened) (λ known. bytes ≡ known)
  pub end : IsAtEnd (remaining last)
