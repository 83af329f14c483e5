-- What is found of the filters, by the trees that were asked for.
use Rattle.std.proofs.Common.{ℕ, List, [], Option}
use Rattle.std.proofs.KnownBytes.{Appends-nil}
use Rattle.graph_chunks.specs.GraphFilters.{FiltersOfGraph}
use Rattle.history_commands.specs.Check.{MayRefuseFilters}
use Rattle.path_commands.proofs.PathsLemmas.{filters_same, right_told}
use Rattle.path_commands.proofs.run.find.Goals as goal

pub returns-in-Err : goal.returns-in-Err
unfolding MayRefuseFilters
returns-in-Err g c = ([], Appends-nil (g.W.Write.contents c.args.writer.now), c.in-Err.ensures.refusal)

pub returns-in-Ok-check_against : goal.returns-in-Ok-check_against
returns-in-Ok-check_against g c =
    let layers = c.args.graph.now in
    let stream : Option (List ℕ) = g.R.Read.remaining c.args.reader.now in
    let all : FiltersOfGraph = c.in-Ok.filters in
    let same = filters_same all layers c.in-Ok.ensures.settings c.in-Ok.ensures.filters in
    let lines = c.in-Ok-check_against.ensures.written (λ e. cc) in (
      lines.0,
      lines.1,
      right_told c.args.standard c.args.trees stream layers all c.computed.result same c.in-Ok.ensures.accepted c.computed.ensures
          c.in-Ok-check_against.ensures.met,
    )
