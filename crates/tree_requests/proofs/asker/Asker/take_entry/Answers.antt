use Rattle.tree_requests.proofs.StreamLemmas.{behind_taken, fault}
use Rattle.tree_requests.proofs.asker.Asker.take_entry.Goals as goal

pub returns-in-Ok-clause-behind : goal.returns-in-Ok-clause-behind
returns-in-Ok-clause-behind g c =
    behind_taken g.E.Exchange.stream (g.R.Read.remaining c.args.self.now.reader) (g.R.Read.remaining c.take_next.new.reader)
    c.args.self.now.requests c.take_next.new.self c.in-Ok.id c.requires.behind c.in-Ok.ensures.taken c.in-Ok.ensures.bytes

pub returns-in-Err-clause-refused : goal.returns-in-Err-clause-refused
returns-in-Err-clause-refused g c =
    fault g.E.Exchange.stream (g.R.Read.remaining c.args.self.now.reader) c.args.self.now.requests c.in-Err.error
    c.requires.behind c.in-Err.ensures.refused
