use Rattle.std.proofs.Common.{◌≡◌, ℕ, ◌<◌, ◌≤◌, ◌++◌, ◌∷◌, [], false, List, All, length, replicate}
use Rattle.std.proofs.Common.{refl, sym, ap, ◌∙◌, subst, heap_items, rules, arith}
use Rattle.std.proofs.lemmas.List.{map_push, nil_from_length}
use Rattle.std.proofs.lemmas.List.Elements.{All-map, All-tail, All-weaker}
use Rattle.gix_commitgraph.specs.Graph.{total}
use Rattle.gix_commitgraph.specs.History.{generation_at, parents_at}
use Rattle.gix_commitgraph.specs.Position.{Position}
use Rattle.gix_commitgraph.specs.StoredHistory.{history_of}
use Rattle.gix_commitgraph.specs.Walks.{Reaches}
use Rattle.commit_search.specs.Positions.{numbers_of}
use Rattle.graph_bases.proofs.ReachLemmas.{reaches_within}
use Rattle.graph_uses.proofs.WalkingLemmas.{begun, enqueued, popped, ended, numbers_within}
use Rattle.graph_uses.proofs.walking.ancestor_positions.Goals as goal

pub loop-next-init : goal.loop-next-init
loop-next-init c =
    let layers = c.args.graph.now.layers in
    let h = history_of layers in
    let len : length h ≡ total layers =
    c.the_history_of_a_graph_is_that_of_its_layers.ensures.counted layers c.num_commits.ensures.graph.opened in
    let bare : c.in_ok-seen.seen.items ≡ replicate (total layers) false = search rules in
    let within : c.args.start.0 < length h = omega (arith, c.requires, len) in
    let walking =
    begun h c.args.start.0 c.in_ok-seen.seen.items (heap_items c.new-queue.result)
    (bare ∙ ap (λ (n : ℕ). replicate n false) (sym len)) within c.new-queue.ensures.items c.new-queue.ensures.heap_order in
    let first =
    enqueued h c.args.start.0 c.in_ok-seen.seen.items (heap_items c.new-queue.result) [] [] c.args.start.0 walking
    c.enqueue.new.seen.items (heap_items c.enqueue.new.queue) c.in_ok-enqueue.ensures in
    rw c.new-walked.ensures.items first.0

pub loop-parent-init : goal.loop-parent-init
loop-parent-init c =
    let layers = c.args.graph.now.layers in
    let h = history_of layers in
    let len : length h ≡ total layers =
    c.the_history_of_a_graph_is_that_of_its_layers.ensures.counted layers c.num_commits.ensures.graph.opened in
    let i = c.loop-next.invariant in
    let next = c.in-Some.next in
    let walked = numbers_of c.loop-next.walked.items in
    let falls : (p q : ℕ) → Reaches h p q → generation_at h q ≤ generation_at h p =
    λ p q. c.generations_never_rise_along_walks.ensures h p q c.num_commits.ensures.right.generations in
    let parents : List Position = c.parents-parent-items.result in
    let same : c.into_iter-parent-iterator.result ≡ parents = search rules in
    let exact : numbers_of parents ≡ parents_at h next.1 = c.parents-parent-items.ensures.exact in
    let inside : All (λ q. q < length h) (numbers_of parents) =
    All-map (λ q. q < length h) (λ (q : Position). q.0) parents
    (All-weaker (λ (q : Position). q.0 < total layers) (λ (q : Position). q.0 < length h) (λ q lt. omega (arith, lt, len)) parents
    c.parents-parent-items.ensures.within) in
    let all =
    popped h c.args.start.0 c.loop-next.seen.items (heap_items c.loop-next.queue) (heap_items c.pop.new.self) walked next falls i
    c.in-Some.ensures.permutation (c.in-Some.ensures.heap_order i.heap).0 (c.in-Some.ensures.below_top i.heap)
    (subst (All (λ q. q < length h)) exact inside) in
    let items : c.push.new.self.items ≡ c.loop-next.walked.items ++ record { 0 = next.1 } ∷ [] = search rules in
    let pushed : numbers_of c.push.new.self.items ≡ walked ++ next.1 ∷ [] =
    ap numbers_of items ∙ map_push (λ (q : Position). q.0) c.loop-next.walked.items (record { 0 = next.1 }) in
    record {
      walking = rw (pushed, same, exact) all;
      within = rw same c.parents-parent-items.ensures.within;
      work = refl;
    }

pub loop-parent-preserved : goal.loop-parent-preserved
loop-parent-preserved c =
    let layers = c.args.graph.now.layers in
    let l = c.loop-parent in
    let parent = c.in-Some-parent.parent in
    let steps : l.parent-iterator ≡ parent ∷ c.next.new.self = search rules in
    let walking = rw steps at l.invariant.walking in
    let more =
    enqueued (history_of layers) c.args.start.0 l.seen.items (heap_items l.queue) (numbers_of c.push.new.self.items)
    (numbers_of c.next.new.self) parent.0 walking c.enqueue-in-loop-parent.new.seen.items
    (heap_items c.enqueue-in-loop-parent.new.queue) c.in_ok-enqueue-2.ensures in
    record {
      walking = more.0;
      within = All-tail (λ (q : Position). q.0 < total layers) parent c.next.new.self (rw steps at l.invariant.within);
      work = more.1 ∙ l.invariant.work;
    }

pub returns : goal.returns
returns c =
    let layers = c.args.graph.now.layers in
    let h = history_of layers in
    let len : length h ≡ total layers =
    c.the_history_of_a_graph_is_that_of_its_layers.ensures.counted layers c.num_commits.ensures.graph.opened in
    let l = c.loop-next in
    let none : length (heap_items l.queue) ≡ 0 = omega (arith, c.in_default.ensures.none, l.queue.data.ok.0) in
    let empty = nil_from_length (heap_items l.queue) none in
    let walked = numbers_of l.walked.items in
    record {
      exact = ended h c.args.start.0 l.seen.items (heap_items l.queue) walked l.invariant empty;
      within =
          numbers_within (total layers) l.walked.items
          (All-weaker (Reaches h c.args.start.0) (λ p. p < total layers)
          (λ p reaches. omega (arith, reaches_within h c.args.start.0 p reaches, len)) walked l.invariant.reached);
    }
