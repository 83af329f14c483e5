-- The layer of the commits of a graph says what the graph says.
use Rattle.std.proofs.Common.{◌≡◌, ℕ, List, [], ◌∷◌, Option, Some, None, map, slice_get, sym, ap, ◌∙◌}
use Rattle.std.proofs.Common.{append-nil, arith, subst}
use Rattle.std.specs.Prelude.{IsSomeAnd}
use Rattle.std.proofs.lemmas.Option.{slice_get_within, same_Some}
use Rattle.graph_format.specs.Format.{Record}
use Rattle.graph_format.specs.Layer.{Layer}
use Rattle.graph_format.specs.Parents.{parents_of}
use Rattle.graph_format.specs.declared.Position.{Position}
use Rattle.gix_commitgraph.specs.Graph.{graph_ids}
use Rattle.gix_commitgraph.proofs.layers.GraphLemmas.{counted}
use Rattle.gix_commitgraph.proofs.lookup.ElementLemmas.{some-place}
use Rattle.graph_writer.specs.NewCommits.{HoldIds}
use Rattle.graph_writer.specs.WrittenLayers.{IsWrittenLayer, SaysNewCommit}
use Rattle.graph_writer.specs.declared.commit.NewCommit.{NewCommit}
use Rattle.write_commands.specs.GraphCommits.{AreCommitsOf, IsCommitAt}
use Rattle.write_commands.specs.SameCommits.{HasSameCommits, SaysTheSame}

-- what holds of a value follows from what else holds of it
implied : {X : Type 0} (o : Option X) (P Q : X → Type 0) → ((x : X) → P x → Q x) → IsSomeAnd o P → IsSomeAnd o Q
implied None P Q then holds = holds
implied (Some x) P Q then holds = then x holds

-- what a record says of a commit of the graph
says : (layers : List Layer) (p : ℕ) (layer : Layer) (commit : NewCommit) → IsCommitAt layers p commit → (r : Record)
    → SaysNewCommit (graph_ids (layer ∷ [])) layer commit r → SaysTheSame layers p layer r
says layers p layer commit is r said =
    let positions = map (λ (pos : Position). pos.0) (parents_of r layer.edges).positions in
    record {
      tree = is.tree ∙ ap (λ (tree : List ℕ). Some tree) (sym said.tree);
      time = is.time ∙ ap (λ (time : ℕ). Some time) (sym said.time);
      decoded = said.decoded;
      parents =
          subst (λ (all : List (List ℕ)). HoldIds all positions commit.parents.items) (append-nil layer.ids) said.parents
          ∙ sym is.parents;
    }

pub same_commits : (layers : List Layer) (commits : List NewCommit) (layer : Layer) → AreCommitsOf layers commits
    → IsWrittenLayer [] commits layer → HasSameCommits layers layer
same_commits layers commits layer are written =
    record {
      as_many = written.commits.as_many ∙ are.as_many;
      ascending = written.commits.ascending;
      each = λ p id at.
          let inside = slice_get_within (graph_ids layers) p id at in
          let place = some-place commits p (omega (arith, inside, are.as_many, (counted layers).ids)) in
          let is = are.each p place.0 place.1 in
          let found = written.commits.each p place.0 place.1 in
          let same : place.0.id ≡ id = same_Some place.0.id id (sym is.id ∙ at) in (
            found.0,
            found.1 ∙ ap (λ (i : List ℕ). Some i) same,
            implied (slice_get layer.records found.0) (SaysNewCommit (graph_ids (layer ∷ [])) layer place.0)
                (SaysTheSame layers p layer) (says layers p layer place.0 is) found.2,
          );
    }
