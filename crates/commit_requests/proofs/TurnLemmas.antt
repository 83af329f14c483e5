-- Commits that are added one after another.
use Rattle.std.proofs.Common.{◌≡◌, ◌⊎◌, ℕ, zero, suc, ◌+◌, ◌<◌, List, [], ◌∷◌, ◌++◌, length, map, take, slice_get}
use Rattle.std.proofs.Common.{All, Contains, Option, Some, None, refl, sym, ap, ◌∙◌, subst, inl, inr, ⊎_elim}
use Rattle.std.proofs.lemmas.List.{map-append}
use Rattle.std.proofs.lemmas.List.Elements.{All-contains, All-nil, All-push, All-weaker}
use Rattle.std.specs.Prelude.{slice_index_or}
use Rattle.std.proofs.lemmas.Option.{none-some, same_Some, slice_get-get_or, slice_get_within}
use Rattle.gix_hash_core.specs.declared.kind.Kind.{Kind}
use Rattle.commit_objects.specs.CommitContents.{Said, Says}
use Rattle.commit_objects.specs.Object.{object_id_of}
use Rattle.commit_objects.proofs.ParentLemmas.{says_one}
use Rattle.graph_levels.specs.ParentLists.{commit_count, parent_list}
use Rattle.graph_levels.specs.declared.lists.ParentLists.{ParentLists}
use Rattle.newer_commits.specs.Adding.{AddsCommit}
use Rattle.newer_commits.specs.CommitsOnTop.{CommitsOnTop, NewerCommit, StandsOnTop, ids_on_top}
use Rattle.newer_commits.specs.FindingOnTop.{Finds}
use Rattle.newer_commits.specs.Adding.{AreThere, IsAddRefusal}
use Rattle.newer_commits.specs.declared.error.AddError.{AddError}
use Rattle.newer_commits.specs.declared.error.AddError.TheVariants as add
use Rattle.commit_requests.specs.Completion.{AddsInTurn, HaveIdsAmong}
use Rattle.commit_requests.specs.Gathering.{AreClosed, StandsThere, IsThereOrAsked}
use Rattle.commit_requests.specs.Placing.{AddsOrHas, ParentsComeFirst, AreListsOf, ComeAfterParents, IsNumberThere}
use Rattle.commit_requests.specs.Placing.{IsLackingParent, IsOneRefusal, IsTurnRefusal}
use Rattle.commit_requests.specs.declared.error.CompleteError.{CompleteError}
use Rattle.commit_requests.specs.declared.error.CompleteError.TheVariants as refusal
use Rattle.commit_requests.proofs.ListSteps.{contains_from_get, get_from_contains, get_from_mapped, get_mapped, take_next}

get_old : {X : Type 0} (xs ys : List X) (i : ℕ) (y : X) → slice_get xs i ≡ Some y → slice_get (xs ++ ys) i ≡ Some y
get_old [] ys i y at = absurd (none-some y at)
get_old (x ∷ xs) ys zero y at = at
get_old (x ∷ xs) ys (suc i) y at = get_old xs ys i y at

get_pushed : {X : Type 0} (xs : List X) (x : X) → slice_get (xs ++ x ∷ []) (length xs) ≡ Some x
get_pushed [] x = refl
get_pushed (y ∷ xs) x = get_pushed xs x

module _ (kind : Kind) (base : List ℕ → Option ℕ → Type 0) where
  -- one more commit
  module _ (old new : CommitsOnTop) (bytes : List ℕ) (at : ℕ) (adds : AddsCommit kind base old new bytes at) where
    ids_after : ids_on_top new ≡ ids_on_top old ++ adds.commit.id ∷ []
    ids_after =
        ap (λ (xs : List NewerCommit). map (λ (c : NewerCommit). c.id) xs) adds.added
        ∙ map-append (λ (c : NewerCommit). c.id) old.commits (adds.commit ∷ [])

    pub there_after : (id : List ℕ) → StandsThere base old id → StandsThere base new id
    there_after id there = (
      there.0,
      ⊎_elim
          (λ (low : base id (Some there.0) × (there.0 < old.below)).
          inl (low.0, subst (λ (n : ℕ). there.0 < n) (sym adds.below) low.1))
          (λ (high : base id None × StandsOnTop old id there.0).
          inr (
            high.0,
            (
              high.1.0,
              subst (λ (xs : List (List ℕ)). slice_get xs high.1.0 ≡ Some id) (sym ids_after)
                  (get_old (ids_on_top old) (adds.commit.id ∷ []) high.1.0 id high.1.1),
              high.1.2 ∙ ap (λ (n : ℕ). n + high.1.0) (sym adds.below),
            ),
          ))
          there.1,
    )

    pub own_after : StandsThere base new (object_id_of kind bytes)
    own_after =
        subst (StandsThere base new) adds.is_commit.id (
          new.below + length (ids_on_top old),
          inr (
            adds.is_commit.is_new.0,
            (
              length (ids_on_top old),
              subst (λ (xs : List (List ℕ)). slice_get xs (length (ids_on_top old)) ≡ Some adds.commit.id) (sym ids_after)
                  (get_pushed (ids_on_top old) adds.commit.id),
              refl,
            ),
          ),
        )

  pub turn_kept : (old : CommitsOnTop) (contents : List (List ℕ)) (new : CommitsOnTop) → AddsInTurn kind base old contents new
      → (id : List ℕ) → StandsThere base old id → StandsThere base new id
  turn_kept old [] new turn id there = subst (λ (t : CommitsOnTop). StandsThere base t id) (sym turn) there
  turn_kept old (bytes ∷ more) new turn id there =
      turn_kept turn.0 more new turn.3 id (there_after old turn.0 bytes turn.1 turn.2 id there)

  pub turn_more : (old : CommitsOnTop) (contents : List (List ℕ)) (mid new : CommitsOnTop) (bytes : List ℕ) (at : ℕ)
      → AddsInTurn kind base old contents mid → AddsCommit kind base mid new bytes at
      → AddsInTurn kind base old (contents ++ bytes ∷ []) new
  turn_more old [] mid new bytes at turn adds =
      (new, at, subst (λ (t : CommitsOnTop). AddsCommit kind base t new bytes at) turn adds, refl)
  turn_more old (first ∷ more) mid new bytes at turn adds =
      (turn.0, turn.1, turn.2, turn_more turn.0 more mid new bytes at turn.3 adds)

  pub lost : (top : CommitsOnTop) (id : List ℕ) → Finds base top id None → StandsThere base top id
      → (p : ℕ) × base id (Some p) × base id None
  lost top id lacks there =
      ⊎_elim
      (λ (low : base id (Some there.0) × (there.0 < top.below)). (there.0, low.0, lacks.0))
      (λ (high : base id None × StandsOnTop top id there.0).
      absurd (lacks.1 (contains_from_get (ids_on_top top) high.1.0 id high.1.1)))
      there.1

  module _ (old : CommitsOnTop) (read : List (List ℕ)) (numbers : List ℕ) where
    -- The first of the commits were added.
    pub record AreAdded (k : ℕ) (new : CommitsOnTop) : Type 0 where
      pub contents : List (List ℕ)
      pub turn : AddsInTurn kind base old contents new
      pub among : All (Contains read) contents
      pub there : All (IsNumberThere kind base new read) (take k numbers)

    pub added_none : AreAdded 0 old
    added_none = record { contents = []; turn = refl; among = All-nil _; there = All-nil _ }

    there_still : (k : ℕ) (mid new : CommitsOnTop) → ((id : List ℕ) → StandsThere base mid id → StandsThere base new id)
        → All (IsNumberThere kind base mid read) (take k numbers) → All (IsNumberThere kind base new read) (take k numbers)
    there_still k mid new still all =
        All-weaker (IsNumberThere kind base mid read) (IsNumberThere kind base new read)
        (λ n h. (h.0, h.1, still (object_id_of kind h.0) h.2)) (take k numbers) all

    module _ (k : ℕ) (mid : CommitsOnTop) (so_far : AreAdded k mid) (n : ℕ) (bytes : List ℕ) (at : slice_get numbers k ≡ Some n)
        (held : slice_get read n ≡ Some bytes) where
      pub added_more : (new : CommitsOnTop) → AddsOrHas kind base mid new bytes → AreAdded (k + 1) new
      added_more new adds =
          ⊎_elim
          (λ (one : (pos : ℕ) × AddsCommit kind base mid new bytes pos).
          let own = own_after mid new bytes one.0 one.1 in
          record {
            contents = so_far.contents ++ bytes ∷ [];
            turn = turn_more old so_far.contents mid new bytes one.0 so_far.turn one.1;
            among = All-push (Contains read) so_far.contents bytes so_far.among (contains_from_get read n bytes held);
            there = subst (All (IsNumberThere kind base new read)) (sym (take_next numbers k n at))
                (All-push (IsNumberThere kind base new read) (take k numbers) n
                (there_still k mid new (there_after mid new bytes one.0 one.1) so_far.there) (bytes, held, own));
          })
          (λ (none : (new ≡ mid) × StandsThere base mid (object_id_of kind bytes)).
          subst (AreAdded (k + 1)) (sym none.0)
          (record {
            contents = so_far.contents;
            turn = so_far.turn;
            among = so_far.among;
            there = subst (All (IsNumberThere kind base mid read)) (sym (take_next numbers k n at))
                (All-push (IsNumberThere kind base mid read) (take k numbers) n so_far.there (bytes, held, none.1));
          }))
          adds

      module _ (order : ParentsComeFirst kind base old read numbers) where
        parent_there : (said : Said) (id : List ℕ) → Says kind bytes said → Contains said.parents id → StandsThere base mid id
        parent_there said id says contained =
            ⊎_elim
            (λ (there : StandsThere base old id). turn_kept old so_far.contents mid so_far.turn id there)
            (λ (early : (q : ℕ) × (next : List ℕ) × Contains (take k numbers) q × (slice_get read q ≡ Some next)
            × (id ≡ object_id_of kind next)).
            let there = All-contains (IsNumberThere kind base mid read) (take k numbers) early.0 so_far.there early.2 in
            let same : there.0 ≡ early.1 = same_Some there.0 early.1 (sym there.1 ∙ early.3) in
            subst (StandsThere base mid) (ap (object_id_of kind) same ∙ sym early.4) there.2)
            (order.after k n bytes id said at held says contained)

        pub added_refused : {E : Type 0} (may_fail : E → Type 0) (error : CompleteError E)
            → IsOneRefusal kind base may_fail mid bytes error → IsTurnRefusal kind base may_fail mid read error
        added_refused may_fail (refusal.Unknown number) r = r
        added_refused may_fail (refusal.Entry id error) r = r
        added_refused may_fail (refusal.Unreadable id) r = r
        added_refused may_fail (refusal.Cycle id) r = r
        added_refused may_fail refusal.Full r = (bytes, r.0, contains_from_get read n bytes held, r.1, r.2)
        added_refused may_fail refusal.OutOfMemory r = tt
        added_refused may_fail refusal.Device r = r
        added_refused may_fail refusal.WriteFailed r = r
        added_refused may_fail (refusal.Lost id) r = lost mid id r.3 (parent_there r.0 id r.1 r.2)
        added_refused may_fail (refusal.Source error) r = r

  module _ (top : CommitsOnTop) (asked read : List (List ℕ)) (lists : ParentLists) (numbers : List ℕ)
      (are : AreClosed kind base top asked read) (listed : AreListsOf kind asked read lists)
      (order : ComeAfterParents lists numbers)
    where
      contents_at : (q : ℕ) (id : List ℕ) → slice_get asked q ≡ Some id
          → (next : List ℕ) × (slice_get read q ≡ Some next) × (object_id_of kind next ≡ id)
      contents_at q id at =
          get_from_mapped (object_id_of kind) read q id
          (subst (λ (xs : List (List ℕ)). slice_get xs q ≡ Some id) are.own at)

      -- where each comes after its parents in the lists of these, each parent is there or comes before
      pub in_order : ParentsComeFirst kind base top read numbers
      in_order = record {
        readable = All-weaker
            (λ bytes. (said : Said) × Says kind bytes said × All (IsThereOrAsked base top asked) said.parents)
            (λ bytes. (said : Said) × Says kind bytes said) (λ bytes h. (h.0, h.1)) read are.closed;
        within = All-weaker (λ n. n < commit_count lists) (λ n. n < length read)
            (λ n lt. subst (λ (m : ℕ). n < m) listed.as_many lt) numbers order.within;
        after = λ k n bytes id said at held says contained.
            let h = All-contains
            (λ (b : List ℕ). (s : Said) × Says kind b s × All (IsThereOrAsked base top asked) s.parents) read bytes are.closed
            (contains_from_get read n bytes held) in
            let same : h.0 ≡ said = says_one kind bytes h.0 said h.1 says in
            let seen = All-contains (IsThereOrAsked base top asked) said.parents id
            (subst (λ (s : Said). All (IsThereOrAsked base top asked) s.parents) same h.2) contained in
            ⊎_elim
            (λ (there : StandsThere base top id). inl there)
            (λ (a : Contains asked id). inr (early k n bytes id said at held says contained a))
            seen;
      } where
        early : (k n : ℕ) (bytes id : List ℕ) (said : Said) → slice_get numbers k ≡ Some n → slice_get read n ≡ Some bytes
            → Says kind bytes said → Contains said.parents id → Contains asked id
            → (q : ℕ) × (next : List ℕ) × Contains (take k numbers) q × (slice_get read q ≡ Some next)
            × (id ≡ object_id_of kind next)
        early k n bytes id said at held says contained a =
            let has = listed.each n bytes held in
            let same : has.0 ≡ said = says_one kind bytes has.0 said has.1 says in
            let number = All-contains (λ (p : List ℕ). Contains asked p → (q : ℕ) × Contains (parent_list lists n) q
            × (slice_get asked q ≡ Some p)) has.0.parents id has.2.every
            (subst (λ (s : Said). Contains s.parents id) (sym same) contained) a in
            let next = contents_at number.0 id number.2 in
            (number.0, next.0, order.after k n number.0 at number.1, next.1, sym next.2)

      -- then all are there in the end
      pub all_there : (new : CommitsOnTop) → All (IsNumberThere kind base new read) numbers → AreThere base new asked
      all_there new all = each_there asked (λ i id at. there i id at) where
        there : (i : ℕ) (id : List ℕ) → slice_get asked i ≡ Some id → StandsThere base new id
        there i id at =
            let own = contents_at i id at in
            let place = contains_from_get read i own.0 own.1 in
            let n = All-contains (IsNumberThere kind base new read) numbers i all
            (order.every i (subst (λ (m : ℕ). i < m) (sym listed.as_many) (within i own.0 own.1))) in
            let same : n.0 ≡ own.0 = same_Some n.0 own.0 (sym n.1 ∙ own.1) in
            subst (StandsThere base new) (ap (object_id_of kind) same ∙ own.2) n.2
          where
            within : (j : ℕ) (bytes : List ℕ) → slice_get read j ≡ Some bytes → j < length read
            within j bytes found = slice_get_within read j bytes found

        each_there : (xs : List (List ℕ)) → ((i : ℕ) (id : List ℕ) → slice_get xs i ≡ Some id → StandsThere base new id)
            → AreThere base new xs
        each_there xs each =
            λ k d lt. each k (slice_index_or xs k d) (slice_get-get_or xs k d lt)

  -- ids of contents that were read are those that were asked for
  pub ids_among : (asked read contents : List (List ℕ)) → asked ≡ map (object_id_of kind) read → All (Contains read) contents
      → HaveIdsAmong kind asked contents
  ids_among asked read contents own all =
      All-weaker (Contains read) (λ bytes. Contains asked (object_id_of kind bytes))
      (λ bytes c.
      let at = get_from_contains read bytes c in
      subst (λ (xs : List (List ℕ)). Contains xs (object_id_of kind bytes)) (sym own)
      (contains_from_get (map (object_id_of kind) read) at.0 (object_id_of kind bytes)
      (get_mapped (object_id_of kind) read at.0 bytes at.1)))
      contents all

  -- each id of a question is there, once all that were asked for are
  pub question_there : (old : CommitsOnTop) (contents : List (List ℕ)) (new : CommitsOnTop) (asked ids : List (List ℕ))
      → AddsInTurn kind base old contents new → All (IsThereOrAsked base old asked) ids → AreThere base new asked
      → AreThere base new ids
  question_there old contents new asked ids turn seen all =
      All-weaker (IsThereOrAsked base old asked) (StandsThere base new)
      (λ id s. ⊎_elim
      (λ (there : StandsThere base old id). turn_kept old contents new turn id there)
      (λ (a : Contains asked id). All-contains (StandsThere base new) asked id all a)
      s)
      ids seen

  -- Why a commit is not added, of which a parent is not there.
  module _ {E : Type 0} (may_fail : E → Type 0) (top : CommitsOnTop) (contents : List ℕ) where
    pub lacking_told : (error : AddError E) (id : List ℕ) → IsLackingParent error (Some id)
        → IsAddRefusal kind base may_fail top contents error
        → (said : Said) × Says kind contents said × Contains said.parents id × Finds base top id None
    lacking_told add.Unreadable id told r = absurd (none-some id (sym told))
    lacking_told (add.Known pos) id told r = absurd (none-some id (sym told))
    lacking_told (add.Parent index other) id told r =
        let same : other ≡ id = same_Some other id (sym told) in (
          r.0,
          r.1.says,
          contains_from_get r.0.parents index id (r.3 ∙ ap (λ (x : List ℕ). Some x) same),
          subst (λ (x : List ℕ). Finds base top x None) same r.4,
        )
    lacking_told add.Full id told r = absurd (none-some id (sym told))
    lacking_told add.OutOfMemory id told r = absurd (none-some id (sym told))
    lacking_told (add.Source error) id told r = absurd (none-some id (sym told))

-- a parent that is not there is told
pub lacking_refused : {E : Type 0} (kind : Kind) (base : List ℕ → Option ℕ → Type 0) (may_fail : E → Type 0) (top : CommitsOnTop)
    (contents : List ℕ) (error : AddError E) (id : List ℕ) → IsLackingParent error (Some id)
    → IsAddRefusal kind base may_fail top contents error
    → (said : Said) × Says kind contents said × Contains said.parents id × Finds base top id None
lacking_refused kind base may_fail top contents error id told r = lacking_told kind base may_fail top contents error id told r

-- else it is readable, and no parent is lacking
pub never_told : {E : Type 0} (kind : Kind) (base : List ℕ → Option ℕ → Type 0) (may_fail : E → Type 0) (top : CommitsOnTop)
    (contents : List ℕ) (error : AddError E) → ((said : Said) × Says kind contents said) → IsLackingParent error None
    → IsAddRefusal kind base may_fail top contents error
    → (error ≡ add.Unreadable) ⊎ ((index : ℕ) × (id : List ℕ) × (error ≡ add.Parent index id)) → ⊥
never_told kind base may_fail top contents error readable told r is =
    ⊎_elim
    (λ (unreadable : error ≡ add.Unreadable).
    subst (IsAddRefusal kind base may_fail top contents) unreadable r readable.0 readable.1)
    (λ (parent : (index : ℕ) × (id : List ℕ) × (error ≡ add.Parent index id)).
    none-some parent.1 (subst (λ (e : AddError _). IsLackingParent e None) parent.2 told))
    is
