use Rattle.std.proofs.Common.{◌≡◌, ℕ, Bool, false, ◌∷◌, cond, heap_items, sym, ap, ◌∙◌, arith}
use Rattle.std.proofs.lemmas.List.Sorted.{length_permutation}
use Rattle.graph_bases.specs.Paint.{is_queued}
use Rattle.graph_bases.proofs.CoatLemmas.{joins_pushed, ranked_pushed}
use Rattle.graph_bases.proofs.painting.Painting.enqueue.Goals as goal

pub returns-clause-joins : goal.returns-clause-joins
returns-clause-joins g c =
    joins_pushed c.args.commit.0 c.in_ok-rank.rank (heap_items c.args.self.now.queue)
    (heap_items c.push_entry.new.queue) c.in_ok-push_entry.ensures.order c.in_ok-push_entry.ensures.moved

pub returns-clause-ranked : goal.returns-clause-ranked
returns-clause-ranked g c = λ t said.
    ranked_pushed (g.R.Ranks.ranking c.args.ranks.now t) c.args.commit.0 c.in_ok-rank.rank (heap_items c.args.self.now.queue)
    (heap_items c.push_entry.new.queue) (c.in_ok-rank.ensures.rank t said) c.in_ok-push_entry.ensures.moved

pub returns-clause-len : goal.returns-clause-len
returns-clause-len g c =
    let p = c.args.commit.0 in
    let coats = c.args.self.now.coats.all in
    let settled : is_queued coats p ≡ false = sym c.requires.there ∙ c.if-is_there.false in
    let one : cond {A = ℕ} (is_queued coats p) 0 1 ≡ 1 = ap (λ (b : Bool). cond {A = ℕ} b 0 1) settled in
    let len =
    length_permutation ((c.in_ok-rank.rank, p) ∷ heap_items c.args.self.now.queue)
    (heap_items c.push_entry.new.queue) c.in_ok-push_entry.ensures.moved in
    omega arith
