-- what is told of a commit beside the bytes of its object
use Rattle.std.specs.Prelude.{◌≡◌, ℕ, List}
use Rattle.graph_format.specs.Layer.{Layer}
use Rattle.graph_objects.specs.Mismatches.{MismatchesAt}
use Rattle.graph_objects.specs.declared.Mismatch.{Mismatch}
use Rattle.graph_objects.specs.declared.Mismatch.TheVariants as fault
use Rattle.commitgraph_c.specs.declared.matched.CgMatched.{CgMatched}

-- nothing is told but a code
abbrev pub matched_code : ℕ → CgMatched
matched_code code = record { code = code; parent = 0 }

-- how it is told what differs: the number of the cause, and which parent
abbrev pub told_mismatch : Mismatch → CgMatched
told_mismatch fault.OtherContents = matched_code 606
told_mismatch fault.Unreadable = matched_code 607
told_mismatch fault.Tree = matched_code 608
told_mismatch (fault.Parent index) = record { code = 609; parent = index }
told_mismatch fault.Time = matched_code 610

-- The first thing that differs is told.
pub record TellsMismatch (layers : List Layer) (pos : ℕ) (bytes : List ℕ) (told : CgMatched) : Type 0 where
  pub mismatch : Mismatch
  pub differs : MismatchesAt layers pos bytes mismatch
  pub told_as : told ≡ told_mismatch mismatch
