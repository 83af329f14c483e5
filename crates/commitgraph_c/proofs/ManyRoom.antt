-- the answers that are written to a room so far
use Rattle.std.proofs.Common.{◌≡◌, ◌≢◌, ◌∙◌, refl, sym, ap, subst, ℕ, zero, suc, ◌+◌, ◌<◌, List, [], ◌∷◌, length, set}
use Rattle.std.proofs.Common.{Some, slice_get, get_or, arith, below_more}
use Rattle.std.specs.Prelude.{IsSomeAnd}
use Rattle.std.proofs.lemmas.Option.{same_Some, slice_get_read}
use Rattle.commitgraph_c.specs.Many.{AnswersFirst}

-- one place of a room is written
set_there : (xs : List ℕ) (i answer : ℕ) → i < length xs → slice_get (set xs i answer) i ≡ Some answer
set_there [] i answer lt = absurd (omega (arith, lt))
set_there (x ∷ xs) zero answer lt = refl
set_there (x ∷ xs) (suc i) answer lt = set_there xs i answer (omega (arith, lt))

-- and no other
set_elsewhere : (xs : List ℕ) (i k answer : ℕ) → k ≢ i → slice_get (set xs i answer) k ≡ slice_get xs k
set_elsewhere [] i k answer apart = refl
set_elsewhere (x ∷ xs) zero zero answer apart = absurd (apart refl)
set_elsewhere (x ∷ xs) zero (suc k) answer apart = refl
set_elsewhere (x ∷ xs) (suc i) zero answer apart = refl
set_elsewhere (x ∷ xs) (suc i) (suc k) answer apart = set_elsewhere xs i k answer (λ e. apart (ap suc e))

module _ {X : Type 0} (Answers : X → ℕ → Type 0) (asked : List X) where
  -- before the first
  pub none_answered : (room : List ℕ) → AnswersFirst Answers asked 0 room room
  none_answered room = record { each = λ i lt. absurd (omega (arith, lt)); rest = λ i le. refl }

  -- the next one
  pub next_answered : (room now : List ℕ) (i : ℕ) (one : X) (answer : ℕ) → i < length asked → one ≡ get_or asked i one
      → i < length now → Answers one answer → AnswersFirst Answers asked i room now
      → AnswersFirst Answers asked (i + 1) room (set now i answer)
  next_answered room now i one answer lt read fits is before =
      let here : slice_get asked i ≡ Some one = slice_get_read asked (length asked) i one refl lt read in
      record {
        each = below_more _ _
            (λ j lt other there. let apart : j ≢ i = omega arith in
            subst (λ o. IsSomeAnd o (Answers other)) (sym (set_elsewhere now i j answer apart)) (before.each j lt other there))
            (λ other there. subst (λ o. IsSomeAnd o (Answers other)) (sym (set_there now i answer fits))
            (subst (λ x. Answers x answer) (same_Some one other (sym here ∙ there)) is));
        rest = λ j le. let apart : j ≢ i = omega arith in
            set_elsewhere now i j answer apart ∙ before.rest j (omega (arith, le));
      }

pub ruleset answer_laws = (none_answered, next_answered)
