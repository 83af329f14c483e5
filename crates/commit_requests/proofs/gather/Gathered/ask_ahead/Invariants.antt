use Rattle.std.proofs.Common.{◌≡◌, ◌≤◌, ℕ, List, Option, length}
use Rattle.std.specs.Io.KnownBytes.{Appends}
use Rattle.commit_requests.specs.Gathering.{AsksMore, StillWants}
use Rattle.commit_requests.specs.Requested.{request_lines}
use Rattle.commit_requests.proofs.gather.Gathered.ask_ahead.Given as goal

-- the first of those that were wanted were asked for
abbrev pub invariant-loop-self : goal.invariant-loop-self
invariant-loop-self g l =
    record {
      held : l.self.held ≡ l.fn.self.held;
      requests : l.requests ≡ record l.fn.requests { asked = l.requests.asked };
      asked : AsksMore l.fn.requests.asked l.requests.asked l.fn.self.wanted.items;
      few : length l.requests.asked ≤ l.fn.most;
      wanted : StillWants l.requests.asked l.fn.self.wanted.items l.self.wanted.items;
      written : (start : Option (List ℕ))
          → Appends start (g.W.Write.contents l.fn.writer) (request_lines l.fn.requests.asked)
          → Appends start (g.W.Write.contents l.writer) (request_lines l.requests.asked);
    }

abbrev pub decreases-loop-self : goal.decreases-loop-self
decreases-loop-self g l = length l.self.wanted.items
