-- What is exchanged in this call.
use Rattle.path_checks.specs.NamedLoan.{named}
use Rattle.path_checks.proofs.written.check_written_by_requests.Given as goal

abbrev pub ghosts-check_owned : goal.ghosts-check_owned
ghosts-check_owned g a = record {
  stream = g.R.Read.remaining a.reader.reader.now;
  written = named a.writer.writer.ghost_name (g.W.Write.contents a.writer.writer.now);
}
