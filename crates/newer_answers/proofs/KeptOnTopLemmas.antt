-- What is said of all commits after a search.
use Rattle.std.proofs.Common.{◌≡◌, ℕ, refl, sym, ap, ◌∙◌}
use Rattle.gix_hash_core.specs.declared.kind.Kind.{Kind}
use Rattle.commit_search.specs.Source.{Told}
use Rattle.newer_commits.specs.CommitsOnTop.{CommitsOnTop}
use Rattle.newer_commits.specs.JoinedHistory.{joined_with}
use Rattle.newer_answers.specs.AnswersOnTop.{IsKeptOnTop}

-- what a base and the newer commits say, as a source
abbrev pub JoinedSays : ℕ → CommitsOnTop → (Told → Type 0) → Told → Type 0
JoinedSays layer top says t = (b : Told) × says b × (t ≡ joined_with layer top b)

kept_searched : (layer other : ℕ) (top after : CommitsOnTop) (old new : Told → Type 0) → other ≡ layer → after ≡ top
    → ((t : Told) → JoinedSays other after new t → JoinedSays layer top old t) → IsKeptOnTop layer top old new
kept_searched layer other top after old new same are kept = λ t said.
    let before = kept (joined_with other after t) (t, said, refl) in
    let here : joined_with layer top t ≡ joined_with other after t =
    sym (ap (λ (l : ℕ). joined_with l after t) same ∙ ap (λ (k : CommitsOnTop). joined_with layer k t) are) in
    (before.0, before.1, here ∙ before.2)

-- the same, of all that is known of a base and newer commits
pub kept_known : {K F : Type 0} (layers : F → ℕ) (old new : Told → Type 0) (was is : K × F × CommitsOnTop × Kind) → is ≡ was
    → ((t : Told) → JoinedSays (layers is.1) is.2 new t → JoinedSays (layers was.1) was.2 old t)
    → IsKeptOnTop (layers was.1) was.2 old new
kept_known {K} {F} layers old new was is same kept =
    kept_searched (layers was.1) (layers is.1) was.2 is.2 old new (ap (λ (k : K × F × CommitsOnTop × Kind). layers k.1) same)
    (ap (λ (k : K × F × CommitsOnTop × Kind). k.2) same) kept
