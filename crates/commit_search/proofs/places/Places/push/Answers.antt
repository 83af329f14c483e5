use Rattle.std.proofs.Common.{refl, arith}
use Rattle.commit_search.proofs.PlaceLemmas.{listed_put}
use Rattle.commit_search.proofs.places.Places.push.Goals as goal

pub invariant_of-self-then-put : goal.invariant_of-self-then-put
invariant_of-self-then-put c =
    let a = c.self.inside in
    rw c.in_ok-push.ensures.items
    (listed_put a.table.items c.put.new.table.items c.args.number c.len-place.result (c.put.ensures.done c.if-put.true)
    a.numbers.items c.args.number refl (omega (arith, c.len-place.ensures)) c.self.invariant)
