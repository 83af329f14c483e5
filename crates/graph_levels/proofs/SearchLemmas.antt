-- The steps of a search: a commit is opened, its frame moves on, and it is closed.
use Rattle.std.proofs.Common.{◌≡◌, ◌≢◌, ◌⊎◌, ℕ, ◌+◌, ◌*◌, ◌^◌, ◌<◌, ◌≤◌, true, false, cond, List, [], ◌∷◌, ◌++◌}
use Rattle.std.proofs.Common.{length, get_or, count_by, Contains, refl, sym, ap, ◌∙◌, subst, inl, inr, ⊎_elim, arith}
use Rattle.std.proofs.Math.ListN.{set}
use Rattle.std.proofs.Math.Seq.{get_or-append_seam}
use Rattle.std.proofs.lemmas.Bool.{cases_lt, cases_eq}
use Rattle.std.proofs.lemmas.List.{get_or-set_same, get_or-set_other, get_or_append_left, length-set, length_push, set-set}
use Rattle.std.proofs.lemmas.List.Sums.{sum_by-set}
use Rattle.graph_levels.specs.declared.level.Level.{Level}
use Rattle.graph_levels.specs.declared.level.State.{State}
use Rattle.graph_levels.specs.declared.level.State.TheVariants.{Unseen, Open, Done}
use Rattle.graph_levels.specs.declared.level.Frame.{Frame}
use Rattle.graph_levels.specs.declared.lists.ParentLists.{ParentLists}
use Rattle.graph_levels.specs.ParentLists.{commit_count, parent_list}
use Rattle.graph_levels.specs.SearchStates.{no_frame, has_level, is_unseen, state_at, work_left, FollowsFrom, IsFrame}
use Rattle.graph_levels.specs.SearchStates.{IsSearch}
use Rattle.graph_levels.specs.OnTop.{FitTogether}
use Rattle.graph_levels.proofs.DateBounds.{level_bound}
use Rattle.graph_levels.proofs.StateLemmas.{StaysDone, set_stays, still_done, level_stays}

-- the last of what was pushed, and those before it
pub push_at : {A : Type 0} (xs : List A) (x d : A) (j : ℕ) → j < length (xs ++ x ∷ [])
    → ((j < length xs) × (get_or (xs ++ x ∷ []) j d ≡ get_or xs j d)) ⊎ ((j ≡ length xs) × (get_or (xs ++ x ∷ []) j d ≡ x))
push_at xs x d j lt =
    ⊎_elim
    (λ (in_xs : j < length xs). inl (in_xs, get_or_append_left xs (x ∷ []) d j in_xs))
    (λ (past : length xs ≤ j).
    let here : j ≡ length xs = omega (arith, length_push xs x) in
    inr (here, ap (λ (n : ℕ). get_or (xs ++ x ∷ []) n d) here ∙ get_or-append_seam xs x [] d))
    (cases_lt j (length xs))

abbrev pub weight : State → ℕ
weight s = cond (is_unseen s) 1 0

pub count_set : (states : List State) (i : ℕ) (s : State) → i < length states
    → count_by is_unseen (set states i s) + weight (get_or states i Unseen)
    ≡ count_by is_unseen states + weight s
count_set states i s lt = sum_by-set (λ t. cond (is_unseen t) 1 0) states i s Unseen lt

-- a commit that is open, or unseen, is not done
not_done_from : (s t : State) → s ≡ t → has_level t ≡ false → has_level s ≡ false
not_done_from s t same none = ap has_level same ∙ none

module _ (below : List Level) (parents : ParentLists) (times : List ℕ) (states : List State) (stack : List Frame) where
  module _ (search : IsSearch below parents times states stack) (i : ℕ) (within : i < commit_count parents)
      (unseen : get_or states i Unseen ≡ Unseen)
      (link : (j : ℕ) → j + 1 ≡ length stack → Contains (parent_list parents (get_or stack j no_frame).commit)
      (length below + i)) where
    abbrev pub frame : Frame
    frame = record { commit = i; next = 0 }

    abbrev pub opened : List State
    opened = set states i Open

    inside : i < length states
    inside = omega (arith, search.as_many)

    stays : StaysDone below states opened
    stays = set_stays below states i Open (not_done_from _ _ unseen refl)

    other : (j : ℕ) → j ≢ i → get_or opened j Unseen ≡ get_or states j Unseen
    other j apart = get_or-set_other states i j Open Unseen apart

    here : get_or opened i Unseen ≡ Open
    here = get_or-set_same states i Open Unseen inside

    done_apart : (j : ℕ) (level : Level) → get_or opened j Unseen ≡ Done level → get_or states j Unseen ≡ Done level
    done_apart j level done =
        ⊎_elim
        (λ (same : j ≡ i).
        let now : Open ≡ Done level = sym here ∙ ap (λ (n : ℕ). get_or opened n Unseen) (sym same) ∙ done in
        absurd (cc))
        (λ (apart : j ≢ i). sym (other j apart) ∙ done)
        (cases_eq j i)

    old_frame : (j : ℕ) → j < length stack → IsFrame below parents opened (get_or stack j no_frame)
    old_frame j lt =
        let was = search.going.frames j lt in
        let apart : (get_or stack j no_frame).commit ≢ i = λ (same : (get_or stack j no_frame).commit ≡ i).
        let it = ap (λ (n : ℕ). get_or states n Unseen) same in
        let clash : Open ≡ Unseen = sym was.is_open ∙ it ∙ unseen in
        cc in
        record {
          within = was.within;
          is_open = other _ apart ∙ was.is_open;
          before = λ k lo hi. still_done below states opened stays _ (was.before k lo hi);
        }

    pub open_work : work_left opened (stack ++ frame ∷ []) + 1 ≡ work_left states stack
    open_work =
        let counted = count_set states i Open inside in
        let one = ap weight unseen in
        omega (arith, counted, one, length_push stack frame)

    open_frames : (j : ℕ) → j < length (stack ++ frame ∷ []) → IsFrame below parents opened (get_or
        (stack ++ frame ∷ []) j no_frame)
    open_frames j lt =
        ⊎_elim
        (λ (old : (j < length stack) × (get_or (stack ++ frame ∷ []) j no_frame ≡ get_or stack j no_frame)).
        subst (IsFrame below parents opened) (sym old.1) (old_frame j old.0))
        (λ (new : (j ≡ length stack) × (get_or (stack ++ frame ∷ []) j no_frame ≡ frame)).
        subst (IsFrame below parents opened) (sym new.1) (record {
          within = within;
          is_open = here;
          before = λ k lo hi. absurd (omega arith);
        }))
        (push_at stack frame no_frame j lt)

    -- commits on the stack are not the new one
    old_apart : (j : ℕ) → j < length stack → (get_or stack j no_frame).commit ≢ i
    old_apart j lt same =
        let it = ap (λ (n : ℕ). get_or states n Unseen) same in
        let clash : Open ≡ Unseen = sym (search.going.frames j lt).is_open ∙ it ∙ unseen in
        cc

    commit_old : (j : ℕ) → j < length stack → (get_or (stack ++ frame ∷ []) j no_frame).commit ≡ (get_or stack j no_frame).commit
    commit_old j lt = ap (λ (f : Frame). f.commit) (get_or_append_left stack (frame ∷ []) no_frame j lt)

    commit_new : (get_or (stack ++ frame ∷ []) (length stack) no_frame).commit ≡ i
    commit_new = ap (λ (f : Frame). f.commit) (get_or-append_seam stack frame [] no_frame)

    open_apart : (j k : ℕ) → j < k → k < length (stack ++ frame ∷ [])
        → (get_or (stack ++ frame ∷ []) j no_frame).commit ≢ (get_or (stack ++ frame ∷ []) k no_frame).commit
    open_apart j k lt hi same =
        let size = length_push stack frame in
        ⊎_elim
        (λ (old : k < length stack).
        search.going.apart j k lt old (sym (commit_old j (omega arith)) ∙ same ∙ commit_old k old))
        (λ (new : length stack ≤ k).
        let last : k ≡ length stack = omega arith in
        old_apart j (omega arith)
        (sym (commit_old j (omega arith))
        ∙ same
        ∙ ap (λ (n : ℕ). (get_or (stack ++ frame ∷ []) n no_frame).commit) last
        ∙ commit_new))
        (cases_lt k (length stack))

    open_linked : (j : ℕ) → j + 1 < length (stack ++ frame ∷ [])
        → Contains (parent_list parents (get_or (stack ++ frame ∷ []) j no_frame).commit)
        (length below + (get_or (stack ++ frame ∷ []) (j + 1) no_frame).commit)
    open_linked j lt =
        let size = length_push stack frame in
        let first = commit_old j (omega arith) in
        ⊎_elim
        (λ (old : j + 1 < length stack).
        let second = commit_old (j + 1) old in
        subst (λ (n : ℕ). Contains (parent_list parents n) (length below + (get_or (stack ++ frame ∷ [])
        (j + 1) no_frame).commit))
        (sym first)
        (subst (λ (n : ℕ). Contains (parent_list parents (get_or stack j no_frame).commit) (length below + n)) (sym second)
        (search.going.linked j old)))
        (λ (new : length stack ≤ j + 1).
        let last : j + 1 ≡ length stack = omega arith in
        let second = ap (λ (n : ℕ). (get_or (stack ++ frame ∷ []) n no_frame).commit) last ∙ commit_new in
        subst (λ (n : ℕ). Contains (parent_list parents n) (length below + (get_or (stack ++ frame ∷ [])
        (j + 1) no_frame).commit))
        (sym first)
        (subst (λ (n : ℕ). Contains (parent_list parents (get_or stack j no_frame).commit) (length below + n)) (sym second)
        (link j last)))
        (cases_lt (j + 1) (length stack))

    open_all : (m : ℕ) → get_or opened m Unseen ≡ Open
        → (j : ℕ) × (j < length (stack ++ frame ∷ [])) × ((get_or (stack ++ frame ∷ []) j no_frame).commit ≡ m)
    open_all m is =
        let size = length_push stack frame in
        ⊎_elim
        (λ (same : m ≡ i). (length stack, omega arith, commit_new ∙ sym same))
        (λ (apart : m ≢ i).
        let found = search.going.all m (sym (other m apart) ∙ is) in
        (found.0, omega (arith, found.1), commit_old found.0 found.1 ∙ found.2))
        (cases_eq m i)

    pub open_search : IsSearch below parents times opened (stack ++ frame ∷ [])
    open_search = record {
      as_many = length-set states i Open ∙ search.as_many;
      levels = λ j level done.
          level_stays below states opened stays (parent_list parents j) (get_or times j 0) level
          (search.levels j level (done_apart j level done));
      dates = λ j level done. omega (arith, open_work, search.dates j level (done_apart j level done));
      work = omega (arith, open_work, search.work);
      going = record { frames = open_frames; apart = open_apart; linked = open_linked; all = open_all };
    }

-- the frame on top is done with: its commit gets a level
module _ (below : List Level) (parents : ParentLists) (times : List ℕ) (states : List State) (rest : List Frame) (top : Frame)
    (search : IsSearch below parents times states (rest ++ top ∷ [])) where
  abbrev stack : List Frame
  stack = rest ++ top ∷ []

  top_at : get_or stack (length rest) no_frame ≡ top
  top_at = get_or-append_seam rest top [] no_frame

  pub top_frame : IsFrame below parents states top
  top_frame =
      subst (IsFrame below parents states) top_at (search.going.frames (length rest) (omega (arith, length_push rest top)))

  rest_at : (j : ℕ) → j < length rest → get_or stack j no_frame ≡ get_or rest j no_frame
  rest_at j lt = get_or_append_left rest (top ∷ []) no_frame j lt

  rest_commit : (j : ℕ) → j < length rest → (get_or stack j no_frame).commit ≡ (get_or rest j no_frame).commit
  rest_commit j lt = ap (λ (f : Frame). f.commit) (rest_at j lt)

  module _ (level : Level) (is : FollowsFrom below states (parent_list parents top.commit) (get_or times top.commit 0) level)
      (early : level.date + work_left states rest ≤ 2 ^ 63 + 2 * commit_count parents) where
    abbrev pub closed : List State
    closed = set states top.commit (Done level)

    top_inside : top.commit < length states
    top_inside = omega (arith, search.as_many, top_frame.within)

    close_stays : StaysDone below states closed
    close_stays = set_stays below states top.commit (Done level) (not_done_from _ _ top_frame.is_open refl)

    close_other : (j : ℕ) → j ≢ top.commit → get_or closed j Unseen ≡ get_or states j Unseen
    close_other j apart = get_or-set_other states top.commit j (Done level) Unseen apart

    close_here : get_or closed top.commit Unseen ≡ Done level
    close_here = get_or-set_same states top.commit (Done level) Unseen top_inside

    rest_apart : (j : ℕ) → j < length rest → (get_or rest j no_frame).commit ≢ top.commit
    rest_apart j lt same =
        search.going.apart j (length rest) lt (omega (arith, length_push rest top))
        (rest_commit j lt ∙ same ∙ ap (λ (f : Frame). f.commit) (sym top_at))

    pub close_work : work_left closed rest + 1 ≡ work_left states stack
    close_work =
        let counted = count_set states top.commit (Done level) top_inside in
        let one = ap weight top_frame.is_open in
        omega (arith, counted, one, length_push rest top)

    close_levels : (j : ℕ) (found : Level) → get_or closed j Unseen ≡ Done found
        → FollowsFrom below closed (parent_list parents j) (get_or times j 0) found
    close_levels j found done =
        ⊎_elim
        (λ (same : j ≡ top.commit).
        let both : Done level ≡ Done found = sym close_here ∙ ap (λ (n : ℕ). get_or closed n Unseen) (sym same) ∙ done in
        let one : level ≡ found = cc in
        level_stays below states closed close_stays (parent_list parents j) (get_or times j 0) found
        (subst (λ (n : ℕ). FollowsFrom below states (parent_list parents n) (get_or times n 0) found) (sym same)
        (subst (λ (l : Level). FollowsFrom below states (parent_list parents top.commit) (get_or times top.commit 0) l) one is)))
        (λ (apart : j ≢ top.commit).
        level_stays below states closed close_stays (parent_list parents j) (get_or times j 0) found
        (search.levels j found (sym (close_other j apart) ∙ done)))
        (cases_eq j top.commit)

    close_dates : (j : ℕ) (found : Level) → get_or closed j Unseen ≡ Done found
        → found.date + work_left closed rest ≤ 2 ^ 63 + 2 * commit_count parents
    close_dates j found done =
        ⊎_elim
        (λ (same : j ≡ top.commit).
        let both : Done level ≡ Done found = sym close_here ∙ ap (λ (n : ℕ). get_or closed n Unseen) (sym same) ∙ done in
        let one : level ≡ found = cc in
        let date : level.date ≡ found.date = ap (λ (l : Level). l.date) one in
        omega (arith, close_work, early, length_push rest top))
        (λ (apart : j ≢ top.commit).
        omega (arith, close_work, search.dates j found (sym (close_other j apart) ∙ done)))
        (cases_eq j top.commit)

    close_frames : (j : ℕ) → j < length rest → IsFrame below parents closed (get_or rest j no_frame)
    close_frames j lt =
        let was : IsFrame below parents states (get_or rest j no_frame) =
        subst (IsFrame below parents states) (rest_at j lt) (search.going.frames j (omega (arith, length_push rest top))) in
        record {
          within = was.within;
          is_open = close_other _ (rest_apart j lt) ∙ was.is_open;
          before = λ k lo hi. still_done below states closed close_stays _ (was.before k lo hi);
        }

    close_all : (m : ℕ) → get_or closed m Unseen ≡ Open → (j : ℕ) × (j < length rest) × ((get_or rest j no_frame).commit ≡ m)
    close_all m is_open =
        ⊎_elim
        (λ (same : m ≡ top.commit).
        let clash : Done level ≡ Open = sym close_here ∙ ap (λ (n : ℕ). get_or closed n Unseen) (sym same) ∙ is_open in
        absurd (cc))
        (λ (apart : m ≢ top.commit).
        let found = search.going.all m (sym (close_other m apart) ∙ is_open) in
        ⊎_elim
        (λ (lt : found.0 < length rest). (found.0, lt, sym (rest_commit found.0 lt) ∙ found.2))
        (λ (le : length rest ≤ found.0).
        let last : found.0 ≡ length rest = omega (arith, found.1, length_push rest top) in
        let it : top.commit ≡ m =
        ap (λ (f : Frame). f.commit) (sym top_at) ∙ ap (λ (n : ℕ). (get_or stack n no_frame).commit) (sym last) ∙ found.2 in
        absurd (apart (sym it)))
        (cases_lt found.0 (length rest)))
        (cases_eq m top.commit)

    pub close_search : IsSearch below parents times closed rest
    close_search = record {
      as_many = length-set states top.commit (Done level) ∙ search.as_many;
      levels = close_levels;
      dates = close_dates;
      work = omega (arith, close_work, search.work);
      going = record {
        frames = close_frames;
        apart = λ j k lt hi same.
            search.going.apart j k lt (omega (arith, length_push rest top))
            (rest_commit j (omega arith) ∙ same ∙ sym (rest_commit k hi));
        linked = λ j lt.
            subst (λ (n : ℕ). Contains (parent_list parents n) (length below + (get_or rest (j + 1) no_frame).commit))
            (rest_commit j (omega arith))
            (subst (λ (n : ℕ). Contains (parent_list parents (get_or stack j no_frame).commit) (length below + n))
            (rest_commit (j + 1) lt) (search.going.linked j (omega (arith, length_push rest top))));
        all = close_all;
      };
    }

-- a commit gets its level at once, as if it had been opened and closed
module _ (below : List Level) (parents : ParentLists) (times : List ℕ) (states : List State) (stack : List Frame)
    (search : IsSearch below parents times states stack) (i : ℕ) (within : i < commit_count parents)
    (unseen : get_or states i Unseen ≡ Unseen) (empty : length stack ≡ 0) (level : Level)
    (input : FitTogether below parents times)
    (is : FollowsFrom below states (parent_list parents i) (get_or times i 0) level) where
  none_on_top : (j : ℕ) → j + 1 ≡ length stack
      → Contains (parent_list parents (get_or stack j no_frame).commit) (length below + i)
  none_on_top j last = absurd (omega (arith, empty))

  abbrev begun : List State
  begun = set states i Open

  abbrev on_top : Frame
  on_top = record { commit = i; next = 0 }

  begun_search : IsSearch below parents times begun (stack ++ on_top ∷ [])
  begun_search = open_search below parents times states stack search i within unseen none_on_top

  follows : FollowsFrom below begun (parent_list parents i) (get_or times i 0) level
  follows =
      level_stays below states begun (set_stays below states i Open (not_done_from _ _ unseen refl)) (parent_list parents i)
      (get_or times i 0) level is

  early : level.date + work_left begun stack ≤ 2 ^ 63 + 2 * commit_count parents
  early =
      level_bound below parents times begun (stack ++ on_top ∷ []) input begun_search (parent_list parents i) i level
      (work_left begun stack) within follows (omega (arith, length_push stack on_top))

  pub give_search : IsSearch below parents times (set states i (Done level)) stack
  give_search =
      subst (λ (ss : List State). IsSearch below parents times ss stack) (set-set states i Open (Done level))
      (close_search below parents times begun stack on_top begun_search level follows early)

-- the frame on top has come further
module _ (below : List Level) (parents : ParentLists) (times : List ℕ) (states : List State) (stack : List Frame) (t next : ℕ)
    (search : IsSearch below parents times states stack) (within : t < length stack)
    (before : (k : ℕ) → k < next → k < length (parent_list parents (get_or stack t no_frame).commit)
    → has_level (state_at below states (get_or (parent_list parents (get_or stack t no_frame).commit) k 0)) ≡ true) where
  abbrev moved : Frame
  moved = record { commit = (get_or stack t no_frame).commit; next = next }

  abbrev pub advanced : List Frame
  advanced = set stack t moved

  moved_at : get_or advanced t no_frame ≡ moved
  moved_at = get_or-set_same stack t moved no_frame within

  unmoved : (j : ℕ) → j ≢ t → get_or advanced j no_frame ≡ get_or stack j no_frame
  unmoved j apart = get_or-set_other stack t j moved no_frame apart

  pub same_commit : (j : ℕ) → (get_or advanced j no_frame).commit ≡ (get_or stack j no_frame).commit
  same_commit j =
      ⊎_elim
      (λ (same : j ≡ t).
      ap (λ (n : ℕ). (get_or advanced n no_frame).commit) same
      ∙ ap (λ (f : Frame). f.commit) moved_at
      ∙ ap (λ (n : ℕ). (get_or stack n no_frame).commit) (sym same))
      (λ (apart : j ≢ t). ap (λ (f : Frame). f.commit) (unmoved j apart))
      (cases_eq j t)

  moved_frames : (j : ℕ) → j < length advanced → IsFrame below parents states (get_or advanced j no_frame)
  moved_frames j lt =
      let old = search.going.frames j (omega (arith, length-set stack t moved)) in
      ⊎_elim
      (λ (same : j ≡ t).
      let top = search.going.frames t within in
      subst (λ (n : ℕ). IsFrame below parents states (get_or advanced n no_frame)) (sym same)
      (subst (IsFrame below parents states) (sym moved_at)
      (record { within = top.within; is_open = top.is_open; before = before })))
      (λ (apart : j ≢ t). subst (IsFrame below parents states) (sym (unmoved j apart)) old)
      (cases_eq j t)

  pub advance_search : IsSearch below parents times states advanced
  advance_search =
      let size = length-set stack t moved in
      record {
        as_many = search.as_many;
        levels = search.levels;
        dates = λ j level done. omega (arith, size, search.dates j level done);
        work = omega (arith, size, search.work);
        going = record {
          frames = moved_frames;
          apart = λ j k lt hi same.
              search.going.apart j k lt (omega (arith, size)) (sym (same_commit j) ∙ same ∙ same_commit k);
          linked = λ j lt.
              subst (λ (n : ℕ). Contains (parent_list parents n) (length below + (get_or advanced (j + 1) no_frame).commit))
              (sym (same_commit j))
              (subst (λ (n : ℕ). Contains (parent_list parents (get_or stack j no_frame).commit) (length below + n))
              (sym (same_commit (j + 1))) (search.going.linked j (omega (arith, size))));
          all = λ m is_open.
              let found = search.going.all m is_open in
              (found.0, omega (arith, size, found.1), same_commit found.0 ∙ found.2);
        };
      }
