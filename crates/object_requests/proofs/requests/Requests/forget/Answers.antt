use Rattle.std.proofs.Common.{List, ℕ, sym, subst}
use Rattle.object_requests.specs.Kept.{AreKept}
use Rattle.object_requests.proofs.KeptLemmas.{kept_none}
use Rattle.object_requests.proofs.requests.Requests.forget.Goals as goal

pub invariant_of-self : goal.invariant_of-self
invariant_of-self c =
    let after = c.clear-2.new.self in (
      c.self.invariant.0,
      subst (λ (items : List (List ℕ)). AreKept items 0 after) (sym c.clear.ensures.items)
          (kept_none after c.clear-2.ensures.empty),
    )
