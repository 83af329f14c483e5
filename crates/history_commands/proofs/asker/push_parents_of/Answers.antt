-- A parent is added, and the others are left.
use Rattle.std.proofs.Common.{◌≡◌, ◌<◌, [], ◌∷◌, append-nil, ap, map, rules, subst, sym}
use Rattle.std.specs.Prelude.{codes}
use Rattle.std.specs.Io.KnownBytes.{Appends}
use Rattle.std.proofs.lemmas.List.Elements.{All-tail}
use Rattle.gix_hash_core.specs.Oid.{oid_bytes}
use Rattle.graph_walks.specs.History.{parents_at}
use Rattle.graph_format.specs.StoredHistory.{history_of}
use Rattle.graph_format.specs.declared.Position.{Position}
use Rattle.gix_commitgraph.specs.Graph.{total}
use Rattle.gix_commitgraph.specs.IdWalks.{ids_at}
use Rattle.history_commands.proofs.WalkLemmas.{parents_more}
use Rattle.history_commands.proofs.asker.push_parents_of.Goals as goal

pub loop-parent-init : goal.loop-parent-init
loop-parent-init g c =
    let layers = c.args.graph.now.layers in
    let same : map (λ (q : Position). q.0) c.into_iter-parent-iterator.result ≡ parents_at (history_of layers) c.args.pos.0 =
    search rules in
    record {
      within = search rules;
      added = (
        [],
        ap (ids_at layers) (sym same),
        subst (Appends _ _) (sym (append-nil (codes "parents")))
            c.in_ok-push_text.ensures,
      );
    }

pub loop-parent-preserved : goal.loop-parent-preserved
loop-parent-preserved g c =
    let layers = c.args.graph.now.layers in
    let parent = c.in-Some.parent in
    let steps : c.loop-parent.parent-iterator ≡ parent ∷ c.next.new.self = search rules in
    let before = c.loop-parent.invariant.added in
    record {
      within = All-tail (λ (q : Position). q.0 < total layers) parent c.next.new.self
          (rw steps at c.loop-parent.invariant.within);
      added = parents_more layers (ids_at layers (parents_at (history_of layers) c.args.pos.0)) before.0 parent c.next.new.self
          (oid_bytes c.id.result) _ _ _ (rw steps at before.1) c.id.ensures before.2 c.in_ok-push_parent.ensures;
    }
