-- What is written is the text of the answer.
use Rattle.graph_commands.proofs.ListAnswers.{writes_listing, writes_refusal}
use Rattle.graph_commands.proofs.run.run_list.Goals as goal

pub returns-in_ok-write_listing-in-Ok : goal.returns-in_ok-write_listing-in-Ok
returns-in_ok-write_listing-in-Ok g c = record {
  written = writes_listing _ _ _ c.in-Ok.layer c.in-Ok.ensures.layer c.in_ok-write_listing-in-Ok.ensures;
}

pub returns-in-Err : goal.returns-in-Err
returns-in-Err g c = record { written = writes_refusal _ _ _ _ _ c.in-Err.ensures.refused c.refuse.ensures }
