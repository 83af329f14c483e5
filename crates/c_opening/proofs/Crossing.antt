-- What C holds of a value may go to any thread, if the value may: the box that it owns, and the shared reference that it lends.
use Rattle.std.proofs.Common.{Option, Some, None, []}
use base.Fraction.{full_share}
use base.Fml.{ftrue}
use base.Shift.{Keyless}
use mir.Raw.{raw}
use denote.Exit.{Exit, unchanged, leaves, hidden, under}
use denote.Memory.{lone}
use denote.RattleType.{RattleType}
use denote.RawPtr.{Ptr, block_ptr, null_ptr, block_of, count_of, in_block, lies_at}
use denote.Param.Send.{IsSend, IsSync, Quiet, part_keyless}
use Rattle.std.proofs.Crossing as heap
use Rattle.std.specs.contracts.impls.GlobalAllocator.TheImpl.{ghosts}
use Rattle.std.specs.declared.alloc.Global.{Global}
use Rattle.c_opening.specs.Held.{lent, owned}

pub quiet : {D X : Type 0} (to : D → X) (e : Exit X) → Quiet e → Quiet (hidden (under to e))
quiet to unchanged q = λ x w. tt
quiet to (leaves L l S s r₀) q = λ d. q (to d)

inside : (p : Ptr) → Keyless (in_block p ftrue)
inside (block_ptr b o) = tt
inside null_ptr = tt

module _ (R : RattleType) where
  -- a shared reference
  pub lent_keyless : IsSync R → (p : Ptr) (m : Option R.Denot) → Keyless (lent R p m)
  lent_keyless sync p None = tt
  lent_keyless sync p (Some x) = (inside p, sync.shared x (block_of p) (count_of p) [])

  lies : IsSend R → (p : Ptr) (x : R.Denot) → Keyless (lies_at R full_share p x)
  lies send (block_ptr b o) x = part_keyless R send full_share x b o
  lies send null_ptr x = tt

  -- a box
  pub owned_keyless : IsSend R → (alloc : Global) (p : Ptr) (m : Option R.Denot)
      → Keyless (owned (ghosts.dealloc_token alloc) R p m)
  owned_keyless send alloc p None = tt
  owned_keyless send alloc p (Some x) = (lies send p x, heap.frees.frees alloc (raw (lone R.mir)) p)
