use Rattle.std.proofs.Common.{◌≡◌, ℕ, ◌+◌, ◌-◌, [], ◌∷◌, ◌++◌, take, refl, sym, ap, ◌∙◌, arith}
use Rattle.std.specs.Vec.{vec_len}
use Rattle.std.proofs.Math.Seq.{take-append_seam}
use Rattle.gix_commitgraph.specs.Graph.{IsGraph, total}
use Rattle.gix_commitgraph.proofs.layers.LayerListLemmas.{graph-accepted}
use Rattle.gix_commitgraph.proofs.layers.LayerStartLemmas.{starts-pushed}
use Rattle.gix_commitgraph.proofs.graph.Graph.push.Goals as goal

pub invariant_of-self-then-is_err-2 : goal.invariant_of-self-then-is_err-2
invariant_of-self-then-is_err-2 c =
    let starts = c.self.inside.starts in
    let last = c.num_commits-start.result ∷ [] in
    let pushed : c.push.new.self.items ≡ starts.items ++ last = c.push.ensures.items ∙ rw c.if-is_err.ensures.negation refl in
    let longer : vec_len c.push.new.self ≡ vec_len starts + 1 = c.push.ensures.len ∙ rw c.if-is_err.ensures.negation refl in
    let popped : c.pop.new.self.items ≡ starts.items =
    c.pop.ensures.rest
    ∙ ap (take (vec_len c.push.new.self - 1)) pushed
    ∙ ap (λ (n : ℕ). take n (starts.items ++ last)) (omega (arith, longer, starts.ok.0))
    ∙ take-append_seam starts.items last in
    let kept : c.push-2.new.self.items ≡ c.self.inside.files.items =
    c.push-2.ensures.items ∙ rw c.if-is_err-2.ensures.negation refl in
    rw (kept, popped) c.self.invariant

pub invariant_of-self-else-is_err-2 : goal.invariant_of-self-else-is_err-2
invariant_of-self-else-is_err-2 c =
    let files = c.self.inside.files.items in
    let starts = c.self.inside.starts.items in
    let start = c.num_commits-start.result in
    let is : c.args.self.now ≡ files = sym c.self.view_is in
    let first : start ≡ total files = c.num_commits-start.ensures.commits ∙ ap total is in
    let graph : IsGraph (files ++ c.args.file ∷ []) =
    rw is at (graph-accepted _ c.in_default.ensures.refusal c.in_default.ensures.opened) in
    let pushed : c.push-2.new.self.items ≡ files ++ c.args.file ∷ [] =
    c.push-2.ensures.items ∙ rw c.if-is_err-2.ensures.negation refl in
    let counted : c.push.new.self.items ≡ starts ++ start ∷ [] = c.push.ensures.items ∙ rw c.if-is_err.ensures.negation refl in
    record {
      graph = rw pushed graph;
      counted =
          rw (pushed, counted) (starts-pushed files starts c.args.file start c.self.invariant.counted first);
    }

pub returns-clause-graph : goal.returns-clause-graph
returns-clause-graph c =
    let files = c.self.inside.files.items in
    let pushed : c.push-2.new.self.items ≡ files ++ c.args.file ∷ [] =
    c.push-2.ensures.items ∙ rw c.if-is_err-2.ensures.negation refl in
    rw (pushed, c.self.view_is) (graph-accepted _ c.in_default.ensures.refusal c.in_default.ensures.opened)
