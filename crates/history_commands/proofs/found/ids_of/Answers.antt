use Rattle.std.proofs.Common.{◌≡◌, ℕ, List, [], ◌∷◌, ◌++◌, sym, ap, ◌∙◌, get_or, take, rules, slice_index_or}
use Rattle.std.proofs.lemmas.List.{map_more, map_push}
use Rattle.std.proofs.lemmas.Option.{get_or_from_slice_get}
use Rattle.gix_hash_core.specs.Oid.{oid_bytes}
use Rattle.gix_commitgraph.specs.Graph.{graph_ids}
use Rattle.gix_commitgraph.specs.IdWalks.{ids_at}
use Rattle.gix_commitgraph.specs.Position.{Position}
use Rattle.commit_search.specs.Positions.{numbers_of}
use Rattle.history_commands.proofs.found.ids_of.Goals as goal

pub loop-pos-preserved : goal.loop-pos-preserved
loop-pos-preserved c =
    let layers = c.args.graph.now.layers in
    let positions = c.args.positions.now in
    let i = c.loop-pos.pos-index in
    let none : Position = record { 0 = 0 } in
    let pos = (get_or positions i none).0 in
    let before = numbers_of (take i positions) in
    let id = get_or_from_slice_get (graph_ids layers) pos (oid_bytes c.id.result) [] c.id.ensures in
    let pushed : c.push.new.self.items ≡ c.loop-pos.ids.items ++ oid_bytes c.id.result ∷ [] = search rules in
    pushed ∙ ap (λ (ids : List (List ℕ)). ids ++ oid_bytes c.id.result ∷ []) c.loop-pos.invariant
    ∙ ap (λ (id : List ℕ). ids_at layers before ++ id ∷ []) (sym id)
    ∙ sym (map_push (λ (p : ℕ). slice_index_or (graph_ids layers) p []) before pos)
    ∙ sym (ap (ids_at layers) (map_more (λ (p : Position). p.0) positions i none c.loop-pos-test.true))
