-- What was found is told.
use Rattle.std.proofs.Common.{refl, sym}
use Rattle.std.specs.Prelude.{Ok}
use Rattle.graph_commands.specs.declared.ancestor.Ancestry.TheVariants.{FirstUnknown, SecondUnknown}
use Rattle.graph_commands.proofs.ancestor.tell.Goals as goal

pub returns-in_ok-write_line-in-FirstUnknown : goal.returns-in_ok-write_line-in-FirstUnknown
returns-in_ok-write_line-in-FirstUnknown g c =
    (Ok FirstUnknown, sym c.in-FirstUnknown.is, c.in_ok-write_line-in-FirstUnknown.ensures.written, refl)

pub returns-in_ok-write_line-in-SecondUnknown : goal.returns-in_ok-write_line-in-SecondUnknown
returns-in_ok-write_line-in-SecondUnknown g c =
    (Ok SecondUnknown, sym c.in-SecondUnknown.is, c.in_ok-write_line-in-SecondUnknown.ensures.written, refl)
