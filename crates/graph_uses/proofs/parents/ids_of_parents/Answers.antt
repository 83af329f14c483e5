use Rattle.std.proofs.Common.{◌≡◌, ◌<◌, ℕ, List, [], ◌∷◌, ◌++◌, sym, ap, ◌∙◌, map, rules, append_assoc, slice_index_or}
use Rattle.std.proofs.lemmas.List.Elements.{All-tail}
use Rattle.std.proofs.lemmas.Option.{get_or_from_slice_get}
use Rattle.gix_hash_core.specs.Oid.{oid_bytes}
use Rattle.gix_commitgraph.specs.Graph.{graph_ids, total}
use Rattle.gix_commitgraph.specs.IdWalks.{ids_at}
use Rattle.gix_commitgraph.specs.Position.{Position}
use Rattle.graph_uses.proofs.parents.ids_of_parents.Goals as goal

pub loop-parent-preserved : goal.loop-parent-preserved
loop-parent-preserved c =
    let layers = c.args.graph.now.layers in
    let rest = map (λ (q : Position). q.0) c.next.new.self in
    let steps : c.loop-parent.parent-iterator ≡ c.in-Some.parent ∷ c.next.new.self = search rules in
    let id : slice_index_or (graph_ids layers) c.in-Some.parent.0 [] ≡ oid_bytes c.id.result =
    get_or_from_slice_get (graph_ids layers) c.in-Some.parent.0 (oid_bytes c.id.result) [] c.id.ensures in
    let pushed : c.push.new.self.items ≡ c.loop-parent.ids.items ++ oid_bytes c.id.result ∷ [] = search rules in
    record {
      within = All-tail (λ (q : Position). q.0 < total layers) c.in-Some.parent c.next.new.self
          (rw steps at c.loop-parent.invariant.within);
      exact = rw (steps, id) at c.loop-parent.invariant.exact
          ∙ sym (append_assoc c.loop-parent.ids.items (oid_bytes c.id.result ∷ []) (ids_at layers rest))
          ∙ ap (λ (ids : List (List ℕ)). ids ++ ids_at layers rest) (sym pushed);
    }
