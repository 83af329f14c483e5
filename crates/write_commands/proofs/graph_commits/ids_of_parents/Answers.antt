-- The id of one parent more stands at its position.
use Rattle.std.proofs.Common.{◌≡◌, ◌<◌, ◌++◌, ◌∷◌, [], ℕ, List, Option, Some, map, slice_get, sym, ap, ◌∙◌, rules, append_assoc}
use Rattle.std.proofs.lemmas.List.{map_push}
use Rattle.std.proofs.lemmas.List.Elements.{All-tail}
use Rattle.gix_hash_core.specs.Oid.{oid_bytes}
use Rattle.graph_format.specs.declared.Position.{Position}
use Rattle.gix_commitgraph.specs.Graph.{graph_ids, total}
use Rattle.write_commands.proofs.graph_commits.ids_of_parents.Goals as goal

pub loop-parent-preserved : goal.loop-parent-preserved
loop-parent-preserved c =
    let layers = c.args.graph.now.layers in
    let at : ℕ → Option (List ℕ) = slice_get (graph_ids layers) in
    let some : List ℕ → Option (List ℕ) = λ id. Some id in
    let id : List ℕ = oid_bytes c.id.result in
    let old : List (List ℕ) = c.loop-parent.ids.items in
    let rest : List (Option (List ℕ)) = map at (map (λ (q : Position). q.0) c.next.new.self) in
    let steps : c.loop-parent.parent-iterator ≡ c.in-Some.parent ∷ c.next.new.self = search rules in
    let pushed : c.push.new.self.items ≡ old ++ id ∷ [] = search rules in
    record {
      within = All-tail (λ (q : Position). q.0 < total layers) c.in-Some.parent c.next.new.self
          (rw steps at c.loop-parent.invariant.within);
      held = rw (steps, c.id.ensures) at c.loop-parent.invariant.held
          ∙ sym (append_assoc (map some old) (some id ∷ []) rest)
          ∙ ap (λ (os : List (Option (List ℕ))). os ++ rest) (sym (map_push some old id) ∙ ap (map some) (sym pushed));
    }
