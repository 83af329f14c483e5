-- Newer commits as those with certain contents, and walks along their `parent` lines.
use Rattle.std.proofs.Common.{◌≡◌, ◌⊎◌, ℕ, suc, zero, ◌+◌, ◌-◌, ◌<◌, ◌≤◌, List, [], ◌∷◌, ◌++◌, length, map, take}
use Rattle.std.proofs.Common.{slice_get, Contains, Option, Some, None, option_map}
use Rattle.std.proofs.Common.{refl, sym, ap, ◌∙◌, subst, inl, inr, ⊎_elim, arith}
use Rattle.std.specs.List.{AllZip}
use Rattle.std.specs.Option.{option_map_or}
use Rattle.std.proofs.lemmas.Bool.{cases_order}
use Rattle.std.proofs.lemmas.List.{length-map, length-append, take-map, take_all, take-append-le}
use Rattle.std.proofs.lemmas.Option.{same_Some, none-some, slice_get_within, slice_get-map, slice_get-get_or}
use Rattle.std.proofs.lemmas.Option.{get_or_from_slice_get}
use Rattle.gix_hash_core.specs.declared.kind.Kind.{Kind}
use Rattle.commit_objects.specs.CommitContents.{Said}
use Rattle.commit_objects.specs.Object.{object_id_of}
use Rattle.graph_walks.specs.History.{Node, IsParent, parents_at}
use Rattle.graph_walks.specs.Walks.{Reaches}
use Rattle.graph_walks.proofs.WalkPathLemmas.{Path, between_from_path, path_from_between}
use Rattle.commit_objects.proofs.ParentLemmas.{says_one}
use Rattle.graph_objects.specs.CommitWalks.{CommitsLead, IsCommitWalk, NamesParent}
use Rattle.newer_commits.specs.CommitsOnTop.{CommitsOnTop, NewerCommit, before_newer, ids_on_top, nodes_on_top, StandsOnTop}
use Rattle.newer_commits.specs.FindingOnTop.{Finds}
use Rattle.newer_commits.specs.Adding.{IsCommitOf, AddsCommit}
use Rattle.newer_commits.specs.CommitsOf.{AnswersOnce, AreCommitsOf, newer_id}
use Rattle.newer_commits.specs.JoinedHistory.{joined_history}
use Rattle.newer_commits.proofs.HistoryLemmas.{joined_length, parents_above, path_above}
use Rattle.newer_commits.proofs.KeptLemmas.{push_cases}

-- lists

get_taken : {X : Type 0} (n : ℕ) (xs : List X) (i : ℕ) (x : X) → slice_get (take n xs) i ≡ Some x
    → (i < n) × (slice_get xs i ≡ Some x)
get_taken zero xs i x at = absurd (none-some x at)
get_taken (suc n) [] i x at = absurd (none-some x at)
get_taken (suc n) (y ∷ xs) zero x at = (omega arith, at)
get_taken (suc n) (y ∷ xs) (suc i) x at = let found = get_taken n xs i x at in (omega (arith, found.0), found.1)

taken_get : {X : Type 0} (n : ℕ) (xs : List X) (i : ℕ) (x : X) → i < n → slice_get xs i ≡ Some x
    → slice_get (take n xs) i ≡ Some x
taken_get zero xs i x lt at = absurd (omega (arith, lt))
taken_get (suc n) [] i x lt at = absurd (none-some x at)
taken_get (suc n) (y ∷ xs) zero x lt at = at
taken_get (suc n) (y ∷ xs) (suc i) x lt at = taken_get n xs i x (omega (arith, lt)) at

contains_from_get : {X : Type 0} (xs : List X) (i : ℕ) (x : X) → slice_get xs i ≡ Some x → Contains xs x
contains_from_get xs i x at = (i, slice_get_within xs i x at, get_or_from_slice_get xs i x x at)

get_from_contains : {X : Type 0} (xs : List X) (x : X) → Contains xs x → (i : ℕ) × (slice_get xs i ≡ Some x)
get_from_contains xs x contained =
    (contained.0, slice_get-get_or xs contained.0 x contained.1 ∙ ap (λ y. Some y) contained.2)

zip_back : {X Y : Type 0} (R : X → Y → Type 0) (xs : List X) (ys : List Y) (k : ℕ) (y : Y) → AllZip R xs ys
    → slice_get ys k ≡ Some y → (x : X) × (slice_get xs k ≡ Some x) × R x y
zip_back R [] [] k y zip at = absurd (none-some y at)
zip_back R [] (z ∷ ys) k y zip at = absurd zip
zip_back R (x ∷ xs) [] k y zip at = absurd zip
zip_back R (x ∷ xs) (z ∷ ys) zero y zip at = (x, refl, subst (R x) (same_Some z y at) zip.0)
zip_back R (x ∷ xs) (z ∷ ys) (suc k) y zip at = zip_back R xs ys k y zip.1 at

zip_forth : {X Y : Type 0} (R : X → Y → Type 0) (xs : List X) (ys : List Y) (k : ℕ) (x : X) → AllZip R xs ys
    → slice_get xs k ≡ Some x → (y : Y) × (slice_get ys k ≡ Some y) × R x y
zip_forth R [] [] k x zip at = absurd (none-some x at)
zip_forth R [] (z ∷ ys) k x zip at = absurd zip
zip_forth R (w ∷ xs) [] k x zip at = absurd zip
zip_forth R (w ∷ xs) (y ∷ ys) zero x zip at = (y, refl, subst (λ z. R z y) (same_Some w x at) zip.0)
zip_forth R (w ∷ xs) (y ∷ ys) (suc k) x zip at = zip_forth R xs ys k x zip.1 at

zip_weaker : {X Y : Type 0} (R S : X → Y → Type 0) → ((x : X) (y : Y) → R x y → S x y) → (xs : List X) (ys : List Y)
    → AllZip R xs ys → AllZip S xs ys
zip_weaker R S f [] [] zip = tt
zip_weaker R S f [] (y ∷ ys) zip = absurd zip
zip_weaker R S f (x ∷ xs) [] zip = absurd zip
zip_weaker R S f (x ∷ xs) (y ∷ ys) zip = (f x y zip.0, zip_weaker R S f xs ys zip.1)

one_less : (n : ℕ) → suc n - 1 ≡ n
one_less n = omega arith

-- the ids of the first ones
ids_before : (top : CommitsOnTop) (i : ℕ) → ids_on_top (before_newer i top) ≡ take i (ids_on_top top)
ids_before top i = sym (take-map (λ (c : NewerCommit). c.id) i top.commits)

id_at : (top : CommitsOnTop) (i : ℕ) (commit : NewerCommit) → slice_get top.commits i ≡ Some commit
    → slice_get (ids_on_top top) i ≡ Some commit.id
id_at top i commit at =
    slice_get-map (λ (c : NewerCommit). c.id) top.commits i ∙ ap (λ o. option_map (λ (c : NewerCommit). c.id) o) at

node_at : (top : CommitsOnTop) (i : ℕ) (commit : NewerCommit) → slice_get top.commits i ≡ Some commit
    → parents_at (nodes_on_top top) i ≡ commit.node.parents
node_at top i commit at =
    ap (λ o. option_map_or (λ (n : Node). n.parents) o [])
    (slice_get-map (λ (c : NewerCommit). c.node) top.commits i ∙ ap (λ o. option_map (λ (c : NewerCommit). c.node) o) at)

-- the lookup sees the number of commits below and the ids alone
finds_alike : (finds : List ℕ → Option ℕ → Type 0) (one other : CommitsOnTop) (id : List ℕ) (answer : Option ℕ)
    → one.below ≡ other.below → ids_on_top one ≡ ids_on_top other → Finds finds one id answer → Finds finds other id answer
finds_alike finds one other id None below ids found =
    (found.0, λ contained. found.1 (subst (λ (xs : List (List ℕ)). Contains xs id) (sym ids) contained))
finds_alike finds one other id (Some p) below ids found =
    ⊎_elim
    (λ (base : finds id (Some p) × (p < one.below)). inl (base.0, omega (arith, base.1, below)))
    (λ (top : finds id None × StandsOnTop one id p).
    let at : slice_get (ids_on_top other) top.1.0 ≡ Some id =
    subst (λ (xs : List (List ℕ)). slice_get xs top.1.0 ≡ Some id) ids top.1.1 in
    inr (top.0, (top.1.0, at, omega (arith, top.1.2, below))))
    found

commit_alike : (kind : Kind) (finds : List ℕ → Option ℕ → Type 0) (one other : CommitsOnTop) (bytes : List ℕ)
    (commit : NewerCommit) → one.below ≡ other.below → ids_on_top one ≡ ids_on_top other
    → IsCommitOf kind finds one bytes commit → IsCommitOf kind finds other bytes commit
commit_alike kind finds one other bytes commit below ids is = record {
  id = is.id;
  is_new = finds_alike finds one other commit.id None below ids is.is_new;
  said = is.said;
  says = is.says;
  parents =
      zip_weaker (λ (parent : List ℕ) (p : ℕ). Finds finds one parent (Some p))
      (λ (parent : List ℕ) (p : ℕ). Finds finds other parent (Some p))
      (λ (parent : List ℕ) (p : ℕ) found. finds_alike finds one other parent (Some p) below ids found)
      is.said.parents commit.node.parents is.parents;
}

-- one more commit

module _ (kind : Kind) (finds : List ℕ → Option ℕ → Type 0) (old new : CommitsOnTop) (contents : List (List ℕ)) (bytes : List ℕ)
    (pos : ℕ) (are : AreCommitsOf kind finds old contents) (adds : AddsCommit kind finds old new bytes pos) where
  ids_of_first : (i : ℕ) → i ≤ length old.commits → ids_on_top (before_newer i old) ≡ ids_on_top (before_newer i new)
  ids_of_first i le =
      ap (λ (cs : List NewerCommit). map (λ (c : NewerCommit). c.id) cs)
      (sym (ap (λ (cs : List NewerCommit). take i cs) adds.added
      ∙ take-append-le i old.commits (adds.commit ∷ []) le))

  ids_of_old : ids_on_top old ≡ ids_on_top (before_newer (length old.commits) new)
  ids_of_old =
      ap (λ (cs : List NewerCommit). map (λ (c : NewerCommit). c.id) cs)
      (sym (take_all (length old.commits) old.commits (omega arith)))
      ∙ ids_of_first (length old.commits) (omega arith)

  each_added : (i : ℕ) (commit : NewerCommit) (all : List ℕ)
      → (slice_get old.commits i ≡ Some commit) ⊎ ((i ≡ length old.commits) × (adds.commit ≡ commit))
      → (slice_get contents i ≡ Some all) ⊎ ((i ≡ length contents) × (bytes ≡ all))
      → IsCommitOf kind finds (before_newer i new) all commit
  each_added i commit all place content =
      ⊎_elim
      (λ (at : slice_get old.commits i ≡ Some commit).
      let lt = slice_get_within old.commits i commit at in
      ⊎_elim
      (λ (here : slice_get contents i ≡ Some all).
      commit_alike kind finds (before_newer i old) (before_newer i new) all commit (sym adds.below)
      (ids_of_first i (omega (arith, lt))) (are.each i commit all at here))
      (λ (last : (i ≡ length contents) × (bytes ≡ all)). absurd (omega (arith, last.0, lt, are.as_many)))
      content)
      (λ (at : (i ≡ length old.commits) × (adds.commit ≡ commit)).
      ⊎_elim
      (λ (here : slice_get contents i ≡ Some all).
      absurd (omega (arith, slice_get_within contents i all here, at.0, are.as_many)))
      (λ (last : (i ≡ length contents) × (bytes ≡ all)).
      let is : IsCommitOf kind finds old all commit =
      subst (λ (c : NewerCommit). IsCommitOf kind finds old all c) at.1
      (subst (λ (b : List ℕ). IsCommitOf kind finds old b adds.commit) last.1 adds.is_commit) in
      commit_alike kind finds old (before_newer i new) all commit (sym adds.below)
      (ids_of_old ∙ ap (λ (n : ℕ). ids_on_top (before_newer n new)) (sym at.0)) is)
      content)
      place

  pub commits_of_added : AreCommitsOf kind finds new (contents ++ bytes ∷ [])
  commits_of_added = record {
    as_many =
        length-append contents (bytes ∷ [])
        ∙ omega (
          arith,
          are.as_many,
          ap (λ (cs : List NewerCommit). length cs) adds.added,
          length-append old.commits (adds.commit ∷ []),
        );
    each = λ i commit all at content.
        each_added i commit all
        (push_cases old.commits adds.commit i commit
        (subst (λ (cs : List NewerCommit). slice_get cs i ≡ Some commit) adds.added at))
        (push_cases contents bytes i all content);
  }

pub no_commits_of : (kind : Kind) (finds : List ℕ → Option ℕ → Type 0) (top : CommitsOnTop) → top.commits ≡ []
    → AreCommitsOf kind finds top []
no_commits_of kind finds top none = record {
  as_many = sym (ap (λ (cs : List NewerCommit). length cs) none);
  each = λ i commit bytes at content. absurd (none-some bytes content);
}

-- walks between newer commits

module _ (kind : Kind) (finds : List ℕ → Option ℕ → Type 0) (top : CommitsOnTop) (contents : List (List ℕ)) (base : List Node)
    (are : AreCommitsOf kind finds top contents) (below : length base ≡ top.below) where
  abbrev history : List Node
  history = joined_history base (nodes_on_top top)

  abbrev Commit : ℕ → List ℕ → Type 0
  Commit i bytes = (commit : NewerCommit) × (slice_get top.commits i ≡ Some commit) × (slice_get contents i ≡ Some bytes)

  -- the commit of a number, with its contents
  there : (i : ℕ) → i < length top.commits → (bytes : List ℕ) × Commit i bytes
  there i lt =
      let commit = get_some top.commits i lt in
      let bytes = get_some contents i (omega (arith, lt, are.as_many)) in
      (bytes.0, (commit.0, commit.1, bytes.1))
    where
      get_some : {X : Type 0} (xs : List X) (k : ℕ) → k < length xs → (x : X) × (slice_get xs k ≡ Some x)
      get_some [] k lt = absurd (omega (arith, lt))
      get_some (x ∷ xs) zero lt = (x, refl)
      get_some (x ∷ xs) (suc k) lt = get_some xs k (omega (arith, lt))

  is_commit : (i : ℕ) (bytes : List ℕ) (commit : Commit i bytes) → IsCommitOf kind finds (before_newer i top) bytes commit.0
  is_commit i bytes commit = are.each i commit.0 bytes commit.1 commit.2

  id_is : (i : ℕ) (bytes : List ℕ) → Commit i bytes → slice_get (ids_on_top top) i ≡ Some (object_id_of kind bytes)
  id_is i bytes commit = id_at top i commit.0 commit.1 ∙ ap (λ x. Some x) (is_commit i bytes commit).id

  named_id : (i : ℕ) (bytes : List ℕ) → Commit i bytes → object_id_of kind bytes ≡ newer_id top i
  named_id i bytes commit = sym (get_or_from_slice_get (ids_on_top top) i (object_id_of kind bytes) [] (id_is i bytes commit))

  length_is : length history ≡ top.below + length top.commits
  length_is =
      joined_length base (nodes_on_top top)
      ∙ omega (arith, below, length-map top.commits (λ (c : NewerCommit). c.node))

  index_of : (p : ℕ) → length base ≤ p → p ≡ top.below + (p - top.below)
  index_of p le = omega (arith, le, below)

  -- a parent of a newer commit that is a newer one itself is named in a line of it
  names_newer : (i k : ℕ) (bytes next : List ℕ) → Commit i bytes → Commit k next
      → IsParent history (top.below + i) (top.below + k) → NamesParent kind bytes (object_id_of kind next)
  names_newer i k bytes next commit other parent =
      let is = is_commit i bytes commit in
      let contained : Contains commit.0.node.parents (top.below + k) =
      subst (λ (ps : List ℕ). Contains ps (top.below + k))
      (parents_above base (nodes_on_top top) (top.below + i) (omega (arith, below))
      ∙ ap (λ (n : ℕ). parents_at (nodes_on_top top) n) (minus_base i) ∙ node_at top i commit.0 commit.1) parent.2 in
      let place = get_from_contains commit.0.node.parents (top.below + k) contained in
      let named = zip_back (λ (id : List ℕ) (p : ℕ). Finds finds (before_newer i top) id (Some p)) is.said.parents
      commit.0.node.parents place.0 (top.below + k) is.parents place.1 in
      ⊎_elim
      (λ (base_has : finds named.0 (Some (top.below + k)) × (top.below + k < top.below)). absurd (omega (arith, base_has.1)))
      (λ (on_top : finds named.0 None × StandsOnTop (before_newer i top) named.0 (top.below + k)).
      let same : on_top.1.0 ≡ k = omega (arith, on_top.1.2) in
      let early = get_taken i (ids_on_top top) on_top.1.0 named.0
      (subst (λ (ids : List (List ℕ)). slice_get ids on_top.1.0 ≡ Some named.0) (ids_before top i) on_top.1.1) in
      let id_here : named.0 ≡ object_id_of kind next =
      same_Some named.0 (object_id_of kind next)
      (sym early.1 ∙ ap (λ (n : ℕ). slice_get (ids_on_top top) n) same ∙ id_is k next other) in
      (is.said, is.says, subst (Contains is.said.parents) id_here (contains_from_get is.said.parents place.0 named.0 named.1)))
      named.2
    where
      minus_base : (n : ℕ) → (top.below + n) - length base ≡ n
      minus_base n = omega (arith, below)

  -- a path between newer commits, as a walk of their contents that begins with these
  Walks : List ℕ → ℕ → Type 0
  Walks bytes j = (rest : List (List ℕ)) × IsCommitWalk kind contents (bytes ∷ rest)
      × (option_map (object_id_of kind) (slice_get (bytes ∷ rest) (length rest)) ≡ Some (newer_id top j))

  walk_of_path : (i j : ℕ) (bytes : List ℕ) (rest : List ℕ) → Commit i bytes → j < length top.commits
      → Path history (top.below + i) (top.below + j) rest → Walks bytes j
  unfolding Walks
  walk_of_path i j bytes [] commit within path =
      let same : i ≡ j = omega (arith, path.0) in (
        [],
        contains_from_get contents i bytes commit.2,
        ap (λ x. Some x) (named_id i bytes commit ∙ ap (newer_id top) same),
      )
  walk_of_path i j bytes (y ∷ rest) commit within path =
      let above : length base ≤ y =
      path_above base (nodes_on_top top) y (top.below + j) rest (omega (arith, below)) path.1 in
      let k = y - top.below in
      let is : y ≡ top.below + k = index_of y above in
      let next = there k (omega (arith, path.0.1, length_is, is)) in
      let parent : IsParent history (top.below + i) (top.below + k) =
      subst (λ (q : ℕ). IsParent history (top.below + i) q) is path.0 in
      let more = walk_of_path k j next.0 rest next.1 within
      (subst (λ (q : ℕ). Path history q (top.below + j) rest) is path.1) in (
        next.0 ∷ more.0,
        (contains_from_get contents i bytes commit.2, names_newer i k bytes next.0 commit next.1 parent, more.1),
        more.2,
      )

  pub commits_lead : (i j : ℕ) → i < length top.commits → j < length top.commits
      → Reaches history (top.below + i) (top.below + j) → CommitsLead kind contents (newer_id top i) (newer_id top j)
  unfolding Walks
  commits_lead i j from to reaches =
      let path = path_from_between history (top.below + i) (top.below + j) reaches.0 reaches.1 in
      let first = there i from in
      let walk = walk_of_path i j first.0 path.0 first.1 to path.2 in
      record {
        walk = first.0 ∷ walk.0;
        is_walk = walk.1;
        first = ap (λ x. Some x) (named_id i first.0 first.1);
        last =
            ap (λ (n : ℕ). option_map (object_id_of kind) (slice_get (first.0 ∷ walk.0) n)) (one_less (length walk.0)) ∙ walk.2;
      }

  -- an id stands at one place
  no_earlier : (i k : ℕ) (id next : List ℕ) → Commit k next → slice_get (ids_on_top top) i ≡ Some id
      → slice_get (ids_on_top top) k ≡ Some id → ¬ (i < k)
  no_earlier i k id next commit at other = λ early.
      let is = is_commit k next commit in
      let own : commit.0.id ≡ id = same_Some commit.0.id id (sym (id_at top k commit.0 commit.1) ∙ other) in
      let standing : slice_get (ids_on_top (before_newer k top)) i ≡ Some commit.0.id =
      subst (λ (ids : List (List ℕ)). slice_get ids i ≡ Some commit.0.id) (sym (ids_before top k))
      (taken_get k (ids_on_top top) i commit.0.id early (at ∙ ap (λ x. Some x) (sym own))) in
      is.is_new.1 (contains_from_get (ids_on_top (before_newer k top)) i commit.0.id standing)

  one_place : (i k : ℕ) (id bytes next : List ℕ) → Commit i bytes → Commit k next → slice_get (ids_on_top top) i ≡ Some id
      → slice_get (ids_on_top top) k ≡ Some id → i ≡ k
  one_place i k id bytes next commit other at there_too =
      ⊎_elim
      (λ (same : i ≡ k). same)
      (λ (apart : (i < k) ⊎ (k < i)).
      ⊎_elim
      (λ (early : i < k). absurd (no_earlier i k id next other at there_too early))
      (λ (late : k < i). absurd (no_earlier k i id bytes commit there_too at late))
      apart)
      (cases_order i k)

  number_within : (k : ℕ) (next : List ℕ) → Commit k next → k < length top.commits
  number_within k next commit = slice_get_within top.commits k commit.0 commit.1

  -- one of the contents is that of a commit with a number
  number_of : (bytes : List ℕ) → Contains contents bytes → (k : ℕ) × Commit k bytes
  number_of bytes contained =
      let place = get_from_contains contents bytes contained in
      let commit = there place.0 (omega (arith, slice_get_within contents place.0 bytes place.1, are.as_many)) in
      let same : commit.0 ≡ bytes = same_Some commit.0 bytes (sym commit.1.2 ∙ place.1) in
      (place.0, subst (Commit place.0) same commit.1)

  module _ (once : AnswersOnce finds) where
    parent_of_named : (i k : ℕ) (bytes next : List ℕ) → Commit i bytes → Commit k next
        → NamesParent kind bytes (object_id_of kind next) → IsParent history (top.below + i) (top.below + k)
    parent_of_named i k bytes next commit other names =
        let is = is_commit i bytes commit in
        let said : names.0 ≡ is.said = says_one kind bytes names.0 is.said names.1 is.says in
        let named = get_from_contains is.said.parents (object_id_of kind next)
        (subst (λ (s : Said). Contains s.parents (object_id_of kind next)) said names.2) in
        let place = zip_forth (λ (id : List ℕ) (p : ℕ). Finds finds (before_newer i top) id (Some p)) is.said.parents
        commit.0.node.parents named.0 (object_id_of kind next) is.parents named.1 in
        ⊎_elim
        (λ (base_has : finds (object_id_of kind next) (Some place.0) × (place.0 < top.below)).
        let own = is_commit k next other in
        let lacks : finds (object_id_of kind next) None = subst (λ (id : List ℕ). finds id None) own.id own.is_new.0 in
        absurd (none-some place.0 (once (object_id_of kind next) None (Some place.0) lacks base_has.0)))
        (λ (on_top : finds (object_id_of kind next) None × StandsOnTop (before_newer i top) (object_id_of kind next) place.0).
        let early = get_taken i (ids_on_top top) on_top.1.0 (object_id_of kind next)
        (subst (λ (ids : List (List ℕ)). slice_get ids on_top.1.0 ≡ Some (object_id_of kind next)) (ids_before top i)
        on_top.1.1) in
        let earlier = there on_top.1.0 (omega (arith, early.0, number_within i bytes commit)) in
        let same : on_top.1.0 ≡ k =
        one_place on_top.1.0 k (object_id_of kind next) earlier.0 next earlier.1 other early.1 (id_is k next other) in
        let position : place.0 ≡ top.below + k = omega (arith, on_top.1.2, same) in
        let contained : Contains (parents_at history (top.below + i)) (top.below + k) =
        subst (λ (ps : List ℕ). Contains ps (top.below + k))
        (sym (parents_above base (nodes_on_top top) (top.below + i) (omega (arith, below))
        ∙ ap (λ (n : ℕ). parents_at (nodes_on_top top) n) (minus_base i) ∙ node_at top i commit.0 commit.1))
        (subst (Contains commit.0.node.parents) position
        (contains_from_get commit.0.node.parents named.0 place.0 place.1)) in
        (omega (arith, number_within i bytes commit, length_is), omega (arith, number_within k next other, length_is), contained))
        place.2
      where
        minus_base : (n : ℕ) → (top.below + n) - length base ≡ n
        minus_base n = omega (arith, below)

    path_of_walk : (i j : ℕ) (bytes : List ℕ) (rest : List (List ℕ)) → Commit i bytes → j < length top.commits
        → IsCommitWalk kind contents (bytes ∷ rest)
        → option_map (object_id_of kind) (slice_get (bytes ∷ rest) (length rest)) ≡ Some (newer_id top j)
        → (path : List ℕ) × Path history (top.below + i) (top.below + j) path
    path_of_walk i j bytes [] commit within walk last =
        let final = there j within in
        let id : object_id_of kind bytes ≡ object_id_of kind final.0 =
        same_Some (object_id_of kind bytes) (newer_id top j) last ∙ sym (named_id j final.0 final.1) in
        let same : i ≡ j =
        one_place i j (object_id_of kind final.0) bytes final.0 commit final.1 (id_is i bytes commit ∙ ap (λ x. Some x) id)
        (id_is j final.0 final.1) in
        ([], (omega (arith, same), omega (arith, number_within i bytes commit, length_is)))
    path_of_walk i j bytes (next ∷ rest) commit within walk last =
        let other = number_of next (first_is next rest walk.2) in
        let more = path_of_walk other.0 j next rest other.1 within walk.2 last in
        ((top.below + other.0) ∷ more.0, (parent_of_named i other.0 bytes next commit other.1 walk.1, more.1))
      where
        first_is : (w : List ℕ) (ws : List (List ℕ)) → IsCommitWalk kind contents (w ∷ ws) → Contains contents w
        first_is w [] is = is
        first_is w (x ∷ ws) is = is.0

    pub lead_along : (i j : ℕ) → i < length top.commits → j < length top.commits
        → CommitsLead kind contents (newer_id top i) (newer_id top j)
        → Reaches history (top.below + i) (top.below + j)
    lead_along i j from to lead = by_cases lead.walk lead.is_walk lead.first lead.last
      where
        by_cases : (walk : List (List ℕ)) → IsCommitWalk kind contents walk
            → option_map (object_id_of kind) (slice_get walk 0) ≡ Some (newer_id top i)
            → option_map (object_id_of kind) (slice_get walk (length walk - 1)) ≡ Some (newer_id top j)
            → Reaches history (top.below + i) (top.below + j)
        by_cases [] is_walk first last = absurd is_walk
        by_cases (w ∷ ws) is_walk first last =
            let begin = number_of w (starts w ws is_walk) in
            let own = there i from in
            let id : object_id_of kind w ≡ object_id_of kind own.0 =
            same_Some (object_id_of kind w) (newer_id top i) first ∙ sym (named_id i own.0 own.1) in
            let same : begin.0 ≡ i =
            one_place begin.0 i (object_id_of kind own.0) w own.0 begin.1 own.1
            (id_is begin.0 w begin.1 ∙ ap (λ x. Some x) id) (id_is i own.0 own.1) in
            let path = path_of_walk begin.0 j w ws begin.1 to is_walk
            (ap (λ (n : ℕ). option_map (object_id_of kind) (slice_get (w ∷ ws) n)) (sym (one_less (length ws))) ∙ last) in
            let from_i = subst (λ (k : ℕ). Path history (top.below + k) (top.below + j) path.0) same path.1 in
            ((top.below + i) ∷ path.0, between_from_path history (top.below + i) (top.below + j) path.0 from_i)
          where
            starts : (x : List ℕ) (xs : List (List ℕ)) → IsCommitWalk kind contents (x ∷ xs) → Contains contents x
            starts x [] is = is
            starts x (y ∷ xs) is = is.0
