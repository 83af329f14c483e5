use Rattle.std.proofs.Common.{rules, ◌≡◌, ◌∙◌, ◌∷◌, ◌++◌, [], ℕ, List, ap, sym, subst}
use Rattle.commit_requests.specs.Placing.{AreNumbersIn}
use Rattle.commit_requests.proofs.NumberLemmas.{numbers_none, numbers_step}
use Rattle.commit_requests.proofs.StreamLemmas.{append_again, append_nil}
use Rattle.commit_requests.proofs.lists.push_numbers.Goals as goal

pub loop-id-init : goal.loop-id-init
loop-id-init c =
    record {
      can_next = tt;
      is_finite = tt;
      left = search rules;
      numbers = subst (AreNumbersIn c.args.requests.now.asked []) (sym c.requires.none) (numbers_none c.args.requests.now.asked);
    }

pub loop-id-preserved : goal.loop-id-preserved
loop-id-preserved c =
    let asked : List (List ℕ) = c.args.requests.now.asked in
    let yielded : List (List ℕ) = c.loop-id.yielded in
    let id : List ℕ = c.in-Some.id in
    let names : c.loop-id.id-iterator ≡ id ∷ c.next.new.self = search rules in
    record {
      can_next = tt;
      is_finite = tt;
      left = append_again yielded (id ∷ []) c.next.new.self
          ∙ (ap (λ (xs : List (List ℕ)). yielded ++ xs) (sym names) ∙ c.loop-id.invariant.left);
      numbers = numbers_step asked yielded c.loop-id.numbers.items c.loop-id.invariant.numbers id c.push_number.new.numbers.items
          c.in_ok-push_number.ensures;
    }

pub returns : goal.returns
returns c =
    let none : c.loop-id.id-iterator ≡ [] = search rules in
    let all : c.loop-id.yielded ≡ c.args.parents =
    sym (append_nil c.loop-id.yielded)
    ∙ (ap (λ (xs : List (List ℕ)). c.loop-id.yielded ++ xs) (sym none) ∙ c.loop-id.invariant.left) in
    subst (λ (xs : List (List ℕ)). AreNumbersIn c.args.requests.now.asked xs c.loop-id.numbers.items) all
    c.loop-id.invariant.numbers
