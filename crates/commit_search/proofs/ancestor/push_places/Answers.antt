use Rattle.std.proofs.Common.{◌≡◌, ◌<◌, ◌≤◌, ◌-◌, ◌++◌, ◌∷◌, [], ℕ, List, length, Contains, sym, ap, subst, inr, ⊎_elim, arith}
use Rattle.std.proofs.lemmas.Bool.{cases_lt}
use Rattle.std.proofs.lemmas.List.{length_push}
use Rattle.std.proofs.lemmas.List.Elements.{Contains-push, Contains-push_cases, Contains-append_left}
use Rattle.commit_search.proofs.ancestor.push_places.Goals as goal

pub loop-place-preserved : goal.loop-place-preserved
loop-place-preserved c =
    let l = c.loop-place in
    let inv = l.invariant in
    let x : ℕ = l.place - 1 in
    let items : List ℕ = l.stack.items in
    let pushed : c.push.new.self.items ≡ items ++ x ∷ [] = c.in_ok-push.ensures.items in
    record {
      low = omega arith;
      old = λ p was.
          subst (λ (xs : List ℕ). Contains xs p) (sym pushed) (Contains-append_left items (x ∷ []) p (inv.old p was));
      new = λ p from lt.
          subst (λ (xs : List ℕ). Contains xs p) (sym pushed)
          (⊎_elim
          (λ (lo : p < l.place).
          let same : x ≡ p = omega arith in subst (Contains (items ++ x ∷ [])) same (Contains-push items x))
          (λ (hi : l.place ≤ p). Contains-append_left items (x ∷ []) p (inv.new p hi lt))
          (cases_lt p l.place));
      only = λ p there.
          ⊎_elim
          (λ (was : Contains items p). inv.only p was)
          (λ (same : x ≡ p). inr (omega arith))
          (Contains-push_cases items x p (subst (λ (xs : List ℕ). Contains xs p) pushed there));
      len = omega (arith, inv.len, ap length pushed, length_push items x);
    }
