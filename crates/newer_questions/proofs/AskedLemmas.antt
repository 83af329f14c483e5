-- What was asked for, and what comes back then.
use Rattle.std.proofs.Common.{◌≡◌, ℕ, ◌<◌, List, [], ◌++◌, Option, Some, None, ap, arith, length, map, refl, subst, sym}
use Rattle.std.proofs.KnownBytes.{Appends-nil, prepend_known-nil}
use Rattle.std.proofs.lemmas.List.Elements.{All-nil}
use Rattle.std.proofs.lemmas.Option.{slice_get_within}
use Rattle.std.specs.Io.KnownBytes.{Appends, Consumes, prepend_known}
use Rattle.std.specs.Prelude.{Result, Ok, Err, IfSome}
use Rattle.gix_hash_core.specs.declared.kind.Kind.{Kind}
use Rattle.commit_objects.specs.Object.{object_id_of}
use Rattle.newer_commits.specs.Adding.{AreThere}
use Rattle.newer_commits.specs.CommitsOnTop.{CommitsOnTop}
use Rattle.commit_requests.specs.Completion.{AddsInTurn, HaveIdsAmong, IsCompleteRefusal}
use Rattle.commit_requests.specs.Requested.{AreAskedFor, commit_entries, request_lines}
use Rattle.commit_requests.specs.declared.error.CompleteError.{CompleteError}
use Rattle.commit_requests.specs.declared.error.CompleteError.TheVariants as completion
use Rattle.newer_questions.specs.AskedOnTop.{AreAllOnTop, AreAskedOnTop}
use Rattle.newer_questions.proofs.OnBaseLemmas.{refusal_as}

-- nothing was asked for yet
pub none_asked : (kind : Kind) (base : List ℕ → Option ℕ → Type 0) (none : CommitsOnTop) (ids requests : List (List ℕ))
    → requests ≡ [] → AreAskedOnTop kind base none ids requests none
none_asked kind base none ids requests is =
    subst (λ (asked : List (List ℕ)). AreAskedOnTop kind base none ids asked none) (sym is)
    (record {
      read = [];
      asked_for = record {
        own = refl;
        distinct = λ i j id at other. absurd (let lt = slice_get_within [] i id at in omega (arith, lt));
        lacking = All-nil _;
        needed = All-nil _;
      };
      contents = [];
      added = refl;
      among = All-nil _;
    })

-- and nothing was written
pub none_written : (requests : List (List ℕ)) (known : Option (List ℕ)) → requests ≡ []
    → Appends known known (request_lines requests)
none_written requests known is =
    subst (λ (asked : List (List ℕ)). Appends known known (request_lines asked)) (sym is) (Appends-nil known)

-- what was consumed stood in front
stands_in_front : (known after : Option (List ℕ)) (bytes : List ℕ) → Consumes known after bytes
    → IfSome known (λ all. (rest : List ℕ) × (all ≡ bytes ++ rest))
stands_in_front None after bytes consumed = tt
stands_in_front (Some all) None bytes consumed = absurd consumed
stands_in_front (Some all) (Some rest) bytes consumed = (rest, consumed)

-- nothing was read ahead
unread_known : (ahead : List ℕ) (known : Option (List ℕ)) → ahead ≡ [] → prepend_known ahead known ≡ known
unread_known ahead known none = subst (λ (xs : List ℕ). prepend_known xs known ≡ known) (sym none) (prepend_known-nil known)

module _ (kind : Kind) (base : List ℕ → Option ℕ → Type 0) (none top : CommitsOnTop) (ids those requests : List (List ℕ))
    (same : ids ≡ those) where
  -- what was asked for and added
  pub asked_on_top : (read : List (List ℕ)) × AreAskedFor kind base none ids requests read
      → (contents : List (List ℕ)) × AddsInTurn kind base none contents top × HaveIdsAmong kind requests contents
      → AreAskedOnTop kind base none those requests top
  asked_on_top for added = record {
    read = for.0;
    asked_for = subst (λ (wanted : List (List ℕ)). AreAskedFor kind base none wanted requests for.0) same for.1;
    contents = added.0;
    added = added.1;
    among = added.2;
  }

  -- nothing is lacking
  pub all_on_top : (ahead : List ℕ) (known after : Option (List ℕ)) → AreThere base top ids → AreThere base top requests
      → ((read : List (List ℕ)) × (requests ≡ map (object_id_of kind) read)
      × Consumes (prepend_known ahead known) after (commit_entries kind read)) → ahead ≡ []
      → AreAllOnTop kind base those requests known top
  all_on_top ahead known after there each read unread = record {
    question = subst (AreThere base top) same there;
    each = each;
    read = read.0;
    own = read.1;
    entries = stands_in_front known after (commit_entries kind read.0)
        (subst (λ (start : Option (List ℕ)). Consumes start after (commit_entries kind read.0))
        (unread_known ahead known unread) read.2);
  }

  -- an error, of which more may be
  pub error_comes : {E : Type 0} (may_fail may : E → Type 0) → ((e : E) → may_fail e → may e) → (ahead : List ℕ)
      (known : Option (List ℕ)) (error : CompleteError E)
      → IsCompleteRefusal kind base may_fail none top ids requests (prepend_known ahead known) error → ahead ≡ []
      → IsCompleteRefusal kind base may none top those requests known error
  error_comes may_fail may so ahead known error why unread =
      refusal_as base base (λ id answer found. found) may_fail may so kind none top those requests known error
      (subst (λ (start : Option (List ℕ)). IsCompleteRefusal kind base may_fail none top those requests start error)
      (unread_known ahead known unread)
      (subst
      (λ (wanted : List (List ℕ)). IsCompleteRefusal kind base may_fail none top wanted requests (prepend_known ahead known)
      error)
      same why))

-- the number of an id that is told is one of the question
pub number_there : {E : Type 0} (kind : Kind) (base : List ℕ → Option ℕ → Type 0) (may_fail : E → Type 0)
    (none top : CommitsOnTop) (ids requests : List (List ℕ)) (known : Option (List ℕ)) (error : CompleteError E) (number : ℕ)
    → IsCompleteRefusal kind base may_fail none top ids requests known error → error ≡ completion.Unknown number
    → number < length ids
number_there kind base may_fail none top ids requests known error number why is =
    let unknown : IsCompleteRefusal kind base may_fail none top ids requests known (completion.Unknown number) =
    subst (IsCompleteRefusal kind base may_fail none top ids requests known) is why in
    slice_get_within ids number unknown.0 unknown.1

error_or : {A E : Type 0} → E → Result A E → E
error_or other (Ok answer) = other
error_or other (Err error) = error

-- one error comes
pub same_error : {A E : Type 0} (one other : E) → ◌≡◌ {A = Result A E} (Err one) (Err other) → one ≡ other
unfolding error_or
same_error {A} {E} one other same = ap (λ (answer : Result A E). error_or one answer) same
