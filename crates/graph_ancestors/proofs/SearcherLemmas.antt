-- Searches of a graph in memory that is right.
use Rattle.std.proofs.Common.{◌≡◌, ◌⊎◌, ℕ, List, sym}
use Rattle.std.proofs.Common.{◌≢◌, ◌↔◌, ap, Bool, IsTrue, Result, Ok, Err, IfOk, IfErr, OnErr, ⊎_elim}
use Rattle.graph_walks.specs.Walks.{CountWalks, Reaches}
use Rattle.graph_format.specs.Layer.{Layer}
use Rattle.graph_format.specs.StoredHistory.{history_of}
use Rattle.gix_commitgraph.specs.Sound.{Sound}
use Rattle.commit_search.specs.Ranks.{Ranking, FallsAlongParents}
use Rattle.commit_search.specs.WalkAnswer.{IsAnswer, IsAnswerBy, LeadsWithin, MayLead}
use Rattle.commit_search.specs.declared.Reached.{Reached}
use Rattle.commit_search.specs.Source.{Told, told_of}
use Rattle.graph_ancestors.proofs.InMemoryLemmas.{Says}

-- what a search over it answers
module _ (layers after : List Layer) (same : after ≡ layers) (right : Sound layers) (from to : ℕ) where
  said : Says after (told_of layers)
  said = ap told_of (sym same)

  pub memory_answer : {E : Type 0} (r : Result Reached E)
      → IfOk r (λ reached. (t : Told) → Says after t → CountWalks t.history → IsAnswer t.history from to reached)
      → IfOk r (IsAnswer (history_of layers) from to)
  memory_answer (Ok reached) told = told (told_of layers) said right.generations
  memory_answer (Err e) told = tt

  pub memory_found : {E : Type 0} (r : Result Bool E)
      → IfOk r (λ found. (t : Told) → Says after t → IsTrue found → Reaches t.history from to)
      → IfOk r (λ found. (t : Told) → Says after t → CountWalks t.history → Reaches t.history from to → IsTrue found)
      → IfOk r (λ found. IsTrue found ↔ Reaches (history_of layers) from to)
  memory_found (Ok found) there all = (there (told_of layers) said, all (told_of layers) said right.generations)
  memory_found (Err e) there all = tt

  -- no read fails, so an error is that of an allocation
  pub memory_refused : {T E : Type 0} (r : Result T E) (Gives : E → Type 0)
      → IfErr r (λ e. ((from ≢ to) × ⊥)
      ⊎ (Gives e × ((t : Told) → Says after t → (from ≡ to) ⊎ MayLead t.history from to)))
      → OnErr r ((from ≡ to) ⊎ MayLead (history_of layers) from to)
  memory_refused (Ok x) Gives told = tt
  memory_refused (Err e) Gives told =
      ⊎_elim
      (λ (failed : (from ≢ to) × ⊥). absurd failed.1)
      (λ (refused : Gives e × ((t : Told) → Says after t → (from ≡ to) ⊎ MayLead t.history from to)).
      refused.1 (told_of layers) said)
      told

  pub memory_led : {T E : Type 0} (r : Result T E) (Gives : E → Type 0)
      → IfErr r (λ e. (from ≢ to) × (⊥ ⊎ (Gives e × ((t : Told) → Says after t → MayLead t.history from to))))
      → OnErr r ((from ≢ to) × MayLead (history_of layers) from to)
  memory_led (Ok x) Gives told = tt
  memory_led (Err e) Gives told = (
    told.0,
    ⊎_elim
        (λ (failed : ⊥). absurd failed)
        (λ (refused : Gives e × ((t : Told) → Says after t → MayLead t.history from to)). refused.1 (told_of layers) said)
        told.1,
  )

  -- by both numbers

  pub memory_answer_by : {E : Type 0} (ranking : Told → Ranking)
      → FallsAlongParents (history_of layers) (ranking (told_of layers)) → (r : Result Reached E)
      → IfOk r (λ reached. (t : Told) → Says after t → CountWalks t.history → FallsAlongParents t.history (ranking t)
      → IsAnswerBy t.history (ranking t) from to reached)
      → IfOk r (IsAnswerBy (history_of layers) (ranking (told_of layers)) from to)
  memory_answer_by ranking along (Ok reached) told = told (told_of layers) said right.generations along
  memory_answer_by ranking along (Err e) told = tt

  pub memory_refused_by : {T E : Type 0} (Lead : Told → Type 0) (r : Result T E) (Gives : E → Type 0)
      → IfErr r (λ e. ((from ≢ to) × ⊥) ⊎ (Gives e × ((t : Told) → Says after t → (from ≡ to) ⊎ Lead t)))
      → OnErr r ((from ≡ to) ⊎ Lead (told_of layers))
  memory_refused_by Lead (Ok x) Gives told = tt
  memory_refused_by Lead (Err e) Gives told =
      ⊎_elim
      (λ (failed : (from ≢ to) × ⊥). absurd failed.1)
      (λ (refused : Gives e × ((t : Told) → Says after t → (from ≡ to) ⊎ Lead t)). refused.1 (told_of layers) said)
      told

  pub memory_led_by : (Lead : Told → Type 0) (Gives : Type 0)
      → (from ≢ to) × (⊥ ⊎ (Gives × ((t : Told) → Says after t → Lead t))) → (from ≢ to) × Lead (told_of layers)
  memory_led_by Lead Gives told = (
    told.0,
    ⊎_elim
        (λ (failed : ⊥). absurd failed)
        (λ (refused : Gives × ((t : Told) → Says after t → Lead t)). refused.1 (told_of layers) said)
        told.1,
  )

  pub memory_found_by : (ranking : Told → Ranking) → FallsAlongParents (history_of layers) (ranking (told_of layers))
      → (found : Bool) (visits : ℕ)
      → ((t : Told) → Says after t → IsTrue found → LeadsWithin t.history from to visits)
      → ((t : Told) → Says after t → CountWalks t.history → FallsAlongParents t.history (ranking t)
      → Reaches t.history from to → IsTrue found)
      → IsTrue found ↔ Reaches (history_of layers) from to
  memory_found_by ranking along found visits there all = (
    (λ yes. let led = there (told_of layers) said yes in (led.0, led.1)),
    (λ reaches. all (told_of layers) said right.generations along reaches),
  )
