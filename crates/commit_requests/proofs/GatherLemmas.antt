-- How what was asked for, read and wanted grows.
use Rattle.std.proofs.Common.{◌≡◌, ◌⊎◌, ℕ, ◌+◌, ◌<◌, ◌≤◌, List, [], ◌∷◌, ◌++◌, length, map, take}
use Rattle.std.proofs.Common.{All, Contains, Option, None, refl, sym, ap, ◌∙◌, subst, inl, inr, ⊎_elim, arith}
use Rattle.std.proofs.lemmas.List.{take_all, length-append, length-drop}
use Rattle.std.proofs.lemmas.List.Elements.{All-append, All-contains, All-nil, All-push, All-weaker, All-cons}
use Rattle.std.proofs.lemmas.List.Elements.{Contains-append_cases, Contains-append_left, Contains-append_right, Contains-push}
use Rattle.std.proofs.lemmas.List.Elements.{All-contains_itself, All-tail, Contains-push_cases}
use Rattle.gix_hash_core.specs.declared.kind.Kind.{Kind}
use Rattle.commit_objects.specs.CommitContents.{Said, Says}
use Rattle.commit_objects.specs.Object.{object_id_of}
use Rattle.object_requests.specs.Asked.{AreEachOnce, Asked, waiting}
use Rattle.newer_commits.specs.CommitsOnTop.{CommitsOnTop}
use Rattle.newer_commits.specs.FindingOnTop.{Finds}
use Rattle.commit_requests.specs.Requested.{AreAskedFor, IsNeeded}
use Rattle.commit_requests.specs.Gathering.{IsAskOneRefusal, IsAskRefusal}
use Rattle.commit_requests.specs.declared.error.CompleteError.{CompleteError}
use Rattle.commit_requests.specs.declared.error.CompleteError.TheVariants as refusal
use Rattle.commit_requests.specs.Gathering.{AreClosed, AsksMore, IsGathering, IsSeenTo, StandsThere, IsThereOrAsked, MayAsk}
use Rattle.commit_requests.specs.Gathering.{ReadsCommit, StillWants, WantsMore}
use Rattle.graph_objects.specs.CommitWalks.{NamesParent}
use Rattle.commit_requests.proofs.ListSteps.{values_more, values_next}
use Rattle.commit_requests.proofs.StreamLemmas.{append_again, append_nil}

nothing_contained : {X : Type 0} (x : X) → ¬ Contains [] x
nothing_contained x c = omega (arith, c.1)

module _ (base : List ℕ → Option ℕ → Type 0) (top : CommitsOnTop) where
  seen_asked : (asked more wanted : List (List ℕ)) (id : List ℕ) → IsSeenTo base top asked wanted id
      → IsSeenTo base top (asked ++ more) wanted id
  seen_asked asked more wanted id seen =
      ⊎_elim
      (λ (there : StandsThere base top id). inl there)
      (λ (other : Contains asked id ⊎ Contains wanted id).
      ⊎_elim
      (λ (a : Contains asked id). inr (inl (Contains-append_left asked more id a)))
      (λ (w : Contains wanted id). inr (inr w))
      other)
      seen

  seen_wanted : (asked wanted more : List (List ℕ)) (id : List ℕ) → IsSeenTo base top asked wanted id
      → IsSeenTo base top asked (wanted ++ more) id
  seen_wanted asked wanted more id seen =
      ⊎_elim
      (λ (there : StandsThere base top id). inl there)
      (λ (other : Contains asked id ⊎ Contains wanted id).
      ⊎_elim
      (λ (a : Contains asked id). inr (inl a))
      (λ (w : Contains wanted id). inr (inr (Contains-append_left wanted more id w)))
      other)
      seen

  seen_still : (asked wanted wants : List (List ℕ)) (id : List ℕ) → StillWants asked wanted wants
      → IsSeenTo base top asked wanted id → IsSeenTo base top asked wants id
  seen_still asked wanted wants id still seen =
      ⊎_elim
      (λ (there : StandsThere base top id). inl there)
      (λ (other : Contains asked id ⊎ Contains wanted id).
      ⊎_elim
      (λ (a : Contains asked id). inr (inl a))
      (λ (w : Contains wanted id). inr (All-contains (λ q. Contains asked q ⊎ Contains wants q) wanted id still.each w))
      other)
      seen

  -- nothing more is wanted
  pub wants_none : (asked wanted : List (List ℕ)) → WantsMore base top asked wanted wanted []
  wants_none asked wanted = record {
    more = [];
    added = sym (append_nil wanted);
    lacking = All-nil _;
    among = All-nil _;
    seen = All-nil _;
  }

  -- one that was seen to is not wanted
  pub wants_not : (asked wanted : List (List ℕ)) (id : List ℕ) → StandsThere base top id ⊎ Contains asked id
      → WantsMore base top asked wanted wanted (id ∷ [])
  unfolding wants_none
  wants_not asked wanted id seen = record {
    more = [];
    added = (wants_none asked wanted).added;
    lacking = All-nil _;
    among = All-nil _;
    seen = All-cons (IsSeenTo base top asked wanted) id []
        (⊎_elim (λ (there : StandsThere base top id). inl there) (λ (a : Contains asked id). inr (inl a)) seen) (All-nil _);
  }

  -- one that is lacking is wanted
  pub wants_one : (asked wanted : List (List ℕ)) (id : List ℕ) → Finds base top id None
      → WantsMore base top asked wanted (wanted ++ id ∷ []) (id ∷ [])
  wants_one asked wanted id lacks = record {
    more = id ∷ [];
    added = refl;
    lacking = All-cons (λ q. Finds base top q None) id [] lacks (All-nil _);
    among = All-cons (Contains (id ∷ [])) id [] (Contains-push [] id) (All-nil _);
    seen = All-cons (IsSeenTo base top asked (wanted ++ id ∷ [])) id [] (inr (inr (Contains-push wanted id))) (All-nil _);
  }

  -- more are wanted, and then one more
  pub wants_next : (asked old mid new list : List (List ℕ)) (id : List ℕ) → WantsMore base top asked old mid list
      → WantsMore base top asked mid new (id ∷ []) → WantsMore base top asked old new (list ++ id ∷ [])
  wants_next asked old mid new list id one other = record {
    more = one.more ++ other.more;
    added = other.added ∙ ap (λ xs. xs ++ other.more) one.added ∙ append_again old one.more other.more;
    lacking = All-append (λ q. Finds base top q None) one.more other.more one.lacking other.lacking;
    among = All-append (Contains (list ++ id ∷ [])) one.more other.more
        (All-weaker (Contains list) (Contains (list ++ id ∷ [])) (λ q c. Contains-append_left list (id ∷ []) q c) one.more
        one.among)
        (All-weaker (Contains (id ∷ [])) (Contains (list ++ id ∷ [])) (λ q c. Contains-append_right list (id ∷ []) q c)
        other.more other.among);
    seen = All-append (IsSeenTo base top asked new) list (id ∷ [])
        (subst (λ (w : List (List ℕ)). All (IsSeenTo base top asked w) list) (sym other.added)
        (All-weaker (IsSeenTo base top asked mid) (IsSeenTo base top asked (mid ++ other.more))
        (λ q s. seen_wanted asked mid other.more q s) list one.seen))
        other.seen;
  }

  module _ (kind : Kind) (ids : List (List ℕ)) where
    abbrev HasSeen : List (List ℕ) → List (List ℕ) → List ℕ → Type 0
    HasSeen asked wanted bytes = (said : Said) × Says kind bytes said × All (IsSeenTo base top asked wanted) said.parents

    -- the question alone
    pub gathering_begins : (wanted : List (List ℕ)) → WantsMore base top [] [] wanted ids
        → IsGathering kind base top ids [] [] wanted
    gathering_begins wanted wants = record {
      own = refl;
      lacking = All-nil _;
      needed = All-nil _;
      wanted_lacking = subst (All (λ id. Finds base top id None)) (sym wants.added) wants.lacking;
      wanted_needed = subst (All (IsNeeded kind ids [])) (sym wants.added)
          (All-weaker (Contains ids) (IsNeeded kind ids []) (λ id c. inl c) wants.more wants.among);
      closed = All-nil _;
      question = wants.seen;
    }

    -- the same, where all begins with nothing
    pub begins : (asked held before wanted : List (List ℕ)) → asked ≡ [] → held ≡ [] → before ≡ []
        → WantsMore base top asked before wanted ids → IsGathering kind base top ids asked held wanted
    begins asked held before wanted none empty fresh wants =
        subst (λ (xs : List (List ℕ)). IsGathering kind base top ids xs held wanted) (sym none)
        (subst (λ (ys : List (List ℕ)). IsGathering kind base top ids [] ys wanted) (sym empty)
        (gathering_begins wanted
        (subst (λ (xs : List (List ℕ)). WantsMore base top xs [] wanted ids) none
        (subst (λ (ys : List (List ℕ)). WantsMore base top asked ys wanted ids) fresh wants))))

    -- nothing was asked for
    pub asked_none : (asked : List (List ℕ)) → asked ≡ [] → AreEachOnce asked
        → (read : List (List ℕ)) × AreAskedFor kind base top ids asked read
    asked_none asked none distinct =
        subst (λ (xs : List (List ℕ)). (read : List (List ℕ)) × AreAskedFor kind base top ids xs read) (sym none)
        ([], record { own = refl; distinct = subst AreEachOnce none distinct; lacking = All-nil _; needed = All-nil _ })

    module _ (asked read wanted : List (List ℕ)) (now : IsGathering kind base top ids asked read wanted) where
      -- some of those that are wanted were asked for
      module _ (after : List (List ℕ)) (asks : AsksMore asked after wanted) where
        asked_lacking : All (λ id. Finds base top id None) after
        asked_lacking =
            subst (All (λ id. Finds base top id None)) (sym asks.added)
            (All-append (λ id. Finds base top id None) asked asks.more now.lacking
            (All-weaker (Contains wanted) (λ id. Finds base top id None)
            (λ id c. All-contains (λ q. Finds base top q None) wanted id now.wanted_lacking c) asks.more asks.among))

        asked_needed : All (IsNeeded kind ids read) after
        asked_needed =
            subst (All (IsNeeded kind ids read)) (sym asks.added)
            (All-append (IsNeeded kind ids read) asked asks.more now.needed
            (All-weaker (Contains wanted) (IsNeeded kind ids read)
            (λ id c. All-contains (IsNeeded kind ids read) wanted id now.wanted_needed c) asks.more asks.among))

        asked_own : map (object_id_of kind) read ≡ take (length read) after
        asked_own =
            values_more (object_id_of kind) read asked now.own asks.more
            ∙ ap (λ (xs : List (List ℕ)). take (length read) xs) (sym asks.added)

        pub are_asked_for : AreEachOnce after → AreAskedFor kind base top ids after read
        are_asked_for distinct = record {
          own = asked_own;
          distinct = distinct;
          lacking = asked_lacking;
          needed = asked_needed;
        }

        pub gathering_asks : (wants : List (List ℕ)) → StillWants after wanted wants
            → IsGathering kind base top ids after read wants
        gathering_asks wants still = record {
          own = asked_own;
          lacking = asked_lacking;
          needed = asked_needed;
          wanted_lacking = All-weaker (Contains wanted) (λ id. Finds base top id None)
              (λ id c. All-contains (λ q. Finds base top q None) wanted id now.wanted_lacking c) wants still.none;
          wanted_needed = All-weaker (Contains wanted) (IsNeeded kind ids read)
              (λ id c. All-contains (IsNeeded kind ids read) wanted id now.wanted_needed c) wants still.none;
          closed = All-weaker (HasSeen asked wanted) (HasSeen after wants)
              (λ bytes h.
              (h.0, h.1, All-weaker (IsSeenTo base top asked wanted) (IsSeenTo base top after wants) seen h.0.parents h.2))
              read now.closed;
          question = All-weaker (IsSeenTo base top asked wanted) (IsSeenTo base top after wants) seen ids now.question;
        } where
          seen : (id : List ℕ) → IsSeenTo base top asked wanted id → IsSeenTo base top after wants id
          seen id s =
              seen_still after wanted wants id still
              (subst (λ (xs : List (List ℕ)). IsSeenTo base top xs wanted id) (sym asks.added)
              (seen_asked asked asks.more wanted id s))

      -- nothing more was asked for
      pub still_asked_for : (after : List (List ℕ)) → after ≡ asked → AreEachOnce after
          → (all : List (List ℕ)) × AreAskedFor kind base top ids after all
      still_asked_for after same distinct =
          (read, are_asked_for after (record { more = []; added = same ∙ sym (append_nil asked); among = All-nil _ }) distinct)

      -- one more commit was read
      pub gathering_reads : (new wants : List (List ℕ)) → ReadsCommit kind base top asked read new wanted wants
          → IsGathering kind base top ids asked new wants
      gathering_reads new wants r = record {
        own = subst (λ (xs : List (List ℕ)). map (object_id_of kind) xs ≡ take (length xs) asked) (sym r.added)
            (values_next (object_id_of kind) read asked now.own r.bytes r.own);
        lacking = now.lacking;
        needed = needed asked now.needed;
        wanted_lacking = subst (All (λ id. Finds base top id None)) (sym r.parents.added)
            (All-append (λ id. Finds base top id None) wanted r.parents.more now.wanted_lacking r.parents.lacking);
        wanted_needed = subst (All (IsNeeded kind ids new)) (sym r.parents.added)
            (All-append (IsNeeded kind ids new) wanted r.parents.more (needed wanted now.wanted_needed)
            (All-weaker (Contains r.said.parents) (IsNeeded kind ids new)
            (λ id c. inr (
              r.bytes,
              subst (λ (xs : List (List ℕ)). Contains xs r.bytes) (sym r.added) (Contains-push read r.bytes),
              (r.said, r.says, c),
            ))
            r.parents.more r.parents.among));
        closed = subst (All (HasSeen asked wants)) (sym r.added)
            (All-push (HasSeen asked wants) read r.bytes
            (All-weaker (HasSeen asked wanted) (HasSeen asked wants)
            (λ bytes h.
            (h.0, h.1, All-weaker (IsSeenTo base top asked wanted) (IsSeenTo base top asked wants) seen h.0.parents h.2))
            read now.closed)
            (r.said, r.says, r.parents.seen));
        question = All-weaker (IsSeenTo base top asked wanted) (IsSeenTo base top asked wants) seen ids now.question;
      } where
        seen : (id : List ℕ) → IsSeenTo base top asked wanted id → IsSeenTo base top asked wants id
        seen id s =
            subst (λ (xs : List (List ℕ)). IsSeenTo base top asked xs id) (sym r.parents.added)
            (seen_wanted asked wanted r.parents.more id s)

        needed : (xs : List (List ℕ)) → All (IsNeeded kind ids read) xs → All (IsNeeded kind ids new) xs
        needed xs all =
            All-weaker (IsNeeded kind ids read) (IsNeeded kind ids new)
            (λ id n. ⊎_elim
            (λ (c : Contains ids id). inl c)
            (λ (named : (bytes : List ℕ) × Contains read bytes × NamesParent kind bytes id).
            inr (
              named.0,
              subst (λ (ys : List (List ℕ)). Contains ys named.0) (sym r.added)
                  (Contains-append_left read (r.bytes ∷ []) named.0 named.1),
              named.2,
            ))
            n)
            xs all

    module _ (asked read : List (List ℕ)) (now : IsGathering kind base top ids asked read []) where
      there_or_asked : (id : List ℕ) → IsSeenTo base top asked [] id → IsThereOrAsked base top asked id
      there_or_asked id seen =
          ⊎_elim
          (λ (there : StandsThere base top id). inl there)
          (λ (other : Contains asked id ⊎ Contains [] id).
          ⊎_elim (λ (a : Contains asked id). inr a) (λ (w : Contains [] id). absurd (nothing_contained id w)) other)
          seen

      -- all were read
      pub gathering_ends : length asked ≤ length read → AreClosed kind base top asked read
      gathering_ends all = record {
        own = sym (now.own ∙ take_all (length read) asked all);
        closed = All-weaker (HasSeen asked []) (λ bytes. (said : Said) × Says kind bytes said
            × All (IsThereOrAsked base top asked) said.parents)
            (λ bytes h.
            (h.0, h.1, All-weaker (IsSeenTo base top asked []) (IsThereOrAsked base top asked) there_or_asked h.0.parents h.2))
            read now.closed;
      }

      pub question_ends : All (IsThereOrAsked base top asked) ids
      question_ends = All-weaker (IsSeenTo base top asked []) (IsThereOrAsked base top asked) there_or_asked ids now.question

-- where all but none were taken, as many are held as were asked for
pub all_taken : (r : Asked) (held : List (List ℕ)) → r.taken ≡ length held → length (waiting r) ≡ 0 → length r.asked ≤ length held
all_taken r held taken none = omega (arith, taken, none, length-drop r.taken r.asked)

-- where some wait, some were not taken
pub some_waits : (r : Asked) → 0 < length (waiting r) → r.taken < length r.asked
some_waits r some = omega (arith, some, length-drop r.taken r.asked)

-- nothing was asked for
pub asks_none : (asked wanted : List (List ℕ)) → AsksMore asked asked wanted
asks_none asked wanted = record { more = []; added = sym (append_nil asked); among = All-nil _ }

-- one that was wanted was asked for, or nothing was
pub asks_step : (start asked after wanted : List (List ℕ)) (id : List ℕ) (count most : ℕ) → AsksMore start asked wanted
    → Contains wanted id → MayAsk count most asked after id → AsksMore start after wanted
asks_step start asked after wanted id count most asks contained may =
    ⊎_elim
    (λ (same : after ≡ asked). subst (λ (xs : List (List ℕ)). AsksMore start xs wanted) (sym same) asks)
    (λ (one : (after ≡ asked ++ id ∷ []) × (count < most)).
    record {
      more = asks.more ++ id ∷ [];
      added = one.0 ∙ ap (λ xs. xs ++ id ∷ []) asks.added ∙ append_again start asks.more (id ∷ []);
      among = All-push (Contains wanted) asks.more id asks.among contained;
    })
    may

asked_still : (asked after : List (List ℕ)) (id q : List ℕ) (count most : ℕ) → MayAsk count most asked after id → Contains asked q
    → Contains after q
asked_still asked after id q count most may contained =
    ⊎_elim
    (λ (same : after ≡ asked). subst (λ (xs : List (List ℕ)). Contains xs q) (sym same) contained)
    (λ (one : (after ≡ asked ++ id ∷ []) × (count < most)).
    subst (λ (xs : List (List ℕ)). Contains xs q) (sym one.0) (Contains-append_left asked (id ∷ []) q contained))
    may

pub still_step : (start asked after wanted rest : List (List ℕ)) (id : List ℕ) (count most : ℕ) → StillWants asked start wanted
    → wanted ≡ id ∷ rest → MayAsk count most asked after id → Contains after id → StillWants after start rest
still_step start asked after wanted rest id count most still first may done = record {
  each = All-weaker (λ q. Contains asked q ⊎ Contains wanted q) (λ q. Contains after q ⊎ Contains rest q)
      (λ q h. ⊎_elim
      (λ (a : Contains asked q). inl (asked_still asked after id q count most may a))
      (λ (w : Contains wanted q). of_wanted q (subst (λ (xs : List (List ℕ)). Contains xs q) first w))
      h)
      start still.each;
  none = All-tail (Contains start) id rest (subst (All (Contains start)) first still.none);
} where
  of_wanted : (q : List ℕ) → Contains (id ∷ rest) q → Contains after q ⊎ Contains rest q
  of_wanted q c =
      ⊎_elim
      (λ (one : Contains (id ∷ []) q).
      ⊎_elim
      (λ (none : Contains [] q). absurd (nothing_contained q none))
      (λ (same : id ≡ q). inl (subst (Contains after) same done))
      (Contains-push_cases [] id q one))
      (λ (more : Contains rest q). inr more)
      (Contains-append_cases (id ∷ []) rest q c)

pub still_all : (asked wanted : List (List ℕ)) → StillWants asked wanted wanted
still_all asked wanted = record {
  each = All-weaker (Contains wanted) (λ q. Contains asked q ⊎ Contains wanted q) (λ q c. inr c) wanted
      (All-contains_itself wanted);
  none = All-contains_itself wanted;
}

-- so many were asked for in all, where the entries of all but those that wait were taken
pub count_all : (r : Asked) (held waits : ℕ) → r.taken ≡ held → r.taken ≤ length r.asked → waits ≡ length (waiting r)
    → held + waits ≡ length r.asked
count_all r held waits taken within count = omega (arith, taken, within, count, length-drop r.taken r.asked)

-- no more were asked for than may be
pub few_step : (asked after : List (List ℕ)) (id : List ℕ) (count most : ℕ) → MayAsk count most asked after id
    → count ≡ length asked → length asked ≤ most → length after ≤ most
few_step asked after id count most may is few =
    ⊎_elim
    (λ (same : after ≡ asked). subst (λ (xs : List (List ℕ)). length xs ≤ most) (sym same) few)
    (λ (one : (after ≡ asked ++ id ∷ []) × (count < most)).
    omega (arith, ap length one.0, length-append asked (id ∷ []), one.1, is))
    may

asked_grows : (asked after : List (List ℕ)) (id : List ℕ) (count most : ℕ) → MayAsk count most asked after id
    → length asked ≤ length after
asked_grows asked after id count most may =
    ⊎_elim
    (λ (same : after ≡ asked). omega (arith, ap length same))
    (λ (one : (after ≡ asked ++ id ∷ []) × (count < most)).
    omega (arith, ap length one.0, length-append asked (id ∷ [])))
    may

-- why one more was not asked for is why no more are
pub one_refused : {E : Type 0} (asked after : List (List ℕ)) (id : List ℕ) (count most : ℕ) (error : CompleteError E)
    → MayAsk count most asked after id → count ≡ length asked → IsAskOneRefusal count most error → IsAskRefusal most after error
one_refused asked after id count most (refusal.Unknown number) may is r = r
one_refused asked after id count most (refusal.Entry other error) may is r = r
one_refused asked after id count most (refusal.Unreadable other) may is r = r
one_refused asked after id count most (refusal.Cycle other) may is r = r
one_refused asked after id count most refusal.Full may is r = omega (arith, r, is, asked_grows asked after id count most may)
one_refused asked after id count most refusal.OutOfMemory may is r = tt
one_refused asked after id count most refusal.Device may is r = r
one_refused asked after id count most refusal.WriteFailed may is r = tt
one_refused asked after id count most (refusal.Lost other) may is r = r
one_refused asked after id count most (refusal.Source error) may is r = r
