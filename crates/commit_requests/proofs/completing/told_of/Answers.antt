use Rattle.std.proofs.Common.{◌≡◌, ℕ, List, Contains, inl, inr, refl, subst}
use Rattle.commit_requests.proofs.completing.told_of.Goals as goal

pub returns-in-None : goal.returns-in-None
returns-in-None g c = inl (refl, λ id is. absurd (c.in-None.ensures id is))

pub returns-in-Some-number_of : goal.returns-in-Some-number_of
returns-in-Some-number_of g c =
    inr (
      c.in-Some.id,
      c.in-Some-number_of.number,
      c.in-Some.ensures,
      refl,
      c.in-Some-number_of.ensures.0,
      c.in-Some-number_of.ensures.1,
    )

pub returns-in-None-number_of : goal.returns-in-None-number_of
returns-in-None-number_of g c =
    inl (
      refl,
      λ id is.
          let missing = c.in-Some.ensures in
          let same : c.in-Some.id ≡ id = cc in
          subst (λ (x : List ℕ). ¬ Contains c.args.ids.now x) same c.in-None-number_of.ensures,
    )
