-- Two lines are written; where there is no memory for a buffer, that is told.
use Rattle.std.proofs.Common.{refl}
use Rattle.std.specs.Prelude.{Some, None}
use Rattle.graph_commands.specs.Ancestor.{MayHaveWalk, ancestor_text, ancestor_status}
use Rattle.graph_commands.specs.WrittenAnswer.{IsToldOf}
use Rattle.graph_commands.specs.declared.ancestor.Ancestry.TheVariants.{Known}
use Rattle.graph_commands.specs.declared.refusal.Refusal.TheVariants.{Walk}
use Rattle.graph_commands.proofs.AncestorAnswers.{tells_reached}
use Rattle.graph_commands.proofs.ToldLemmas.{writes_refused}
use Rattle.graph_commands.proofs.ancestor.tell_reached.Goals as goal

pub returns-in-Err : goal.returns-in-Err
returns-in-Err g c =
    writes_refused ancestor_text ancestor_status (IsToldOf MayHaveWalk (Known c.args.reached.now)) Walk _ _ _ refl refl (refl, tt)
    c.refuse.ensures

pub returns-in_ok-write_visits-in-Ok : goal.returns-in_ok-write_visits-in-Ok
returns-in_ok-write_visits-in-Ok g c =
    tells_reached c.args.reached.now (Some c.in-Some.walk) 0 _ _ _ c.in-Some.is
    (rw c.deref.ensures.value at c.in_ok-write_walk-in-Ok.ensures) c.in_ok-write_visits-in-Ok.ensures refl

pub returns-in_ok-write_visits-in-None : goal.returns-in_ok-write_visits-in-None
returns-in_ok-write_visits-in-None g c =
    tells_reached c.args.reached.now None 1 _ _ _ c.in-None.is c.in_ok-write_line-in-None.ensures.written
    c.in_ok-write_visits-in-None.ensures refl
