-- the next entries of two trees
use Rattle.std.proofs.Common.{◌≡◌, ◌≢◌, ℕ, Bool, true, false, List, [], ◌++◌, Option, Some, None, refl, sym, ◌∙◌, subst}
use Rattle.std.proofs.Common.{append-nil}
use Rattle.std.specs.Prelude.{All}
use Rattle.std.specs.Ordering.{nat_cmp}
use Rattle.std.specs.declared.cmp.Ordering.TheVariants.{Less, Equal, Greater}
use Rattle.std.specs.Cmp.Lexicographic.{slice_cmp}
use Rattle.std.proofs.lemmas.Cmp.{nat_list_cmp_total}
use Rattle.std.proofs.lemmas.List.Elements.{All-nil}
use Rattle.std.specs.FinMap.{slice_cmp-IsAntisymmetric, nat_cmp-IsAntisymmetric}
use Rattle.gix_hash_core.specs.declared.kind.Kind.{Kind}
use Rattle.tree_objects.specs.Tree.{TreeEntry, BeginsWithTreeEntry, AreEntriesAnd, StandsBefore, IsName, key_of}
use Rattle.tree_objects.specs.Tree.{AreInOrder}
use Rattle.tree_objects.proofs.SplitLemmas.{opened, closed, first_is_one, no_byte}
use Rattle.tree_changes.specs.Stands.{is_directory}
use Rattle.tree_changes.specs.Walk.{IsSide, end_if}
use Rattle.tree_changes.proofs.SideLemmas.{before_first, side_first, side_none, key_is}

abbrev pub IsPairOf : Kind → List TreeEntry → List TreeEntry → Option TreeEntry → Option TreeEntry → List ℕ → List ℕ → List ℕ
    → Bool → Type 0
IsPairOf kind olds news old new old_bytes new_bytes name directory =
    IsSide kind olds old old_bytes name directory × IsSide kind news new new_bytes name directory × IsName name

-- names with their ends tell names and ends apart
ends_apart : (x y : List ℕ) (d e : Bool) → All (λ b. b ≢ 47) x → All (λ b. b ≢ 47) y → x ++ end_if d ≡ y ++ end_if e
    → (y ≡ x) × (e ≡ d)
ends_apart x y true true h k e = (sym (first_is_one 47 x y [] [] h k e).front, refl)
ends_apart x y true false h k e = absurd (no_byte 47 x [] (subst (All (λ b. b ≢ 47)) (sym (e ∙ append-nil y)) k))
ends_apart x y false true h k e = absurd (no_byte 47 y [] (subst (All (λ b. b ≢ 47)) (sym (sym e ∙ append-nil x)) h))
ends_apart x y false false h k e = (sym (append-nil y) ∙ sym e ∙ append-nil x, refl)

after_is_before : (x y : List ℕ) → slice_cmp nat_cmp x y ≡ Greater → slice_cmp nat_cmp y x ≡ Less
after_is_before x y h = let back = nat_list_cmp_total.antisymm y x in rw h at back

abbrev pub HasNone : Kind → List ℕ → Type 0
HasNone kind bytes = (e : TreeEntry) (next : List ℕ) → BeginsWithTreeEntry kind bytes e next → ⊥

module _ (kind : Kind) (old new : List ℕ) where
  pub arm_none : HasNone kind old → HasNone kind new → (olds news : List TreeEntry) → AreEntriesAnd kind old olds []
      → AreEntriesAnd kind new news [] → AreInOrder olds → AreInOrder news → (olds ≡ []) × (news ≡ [])
  arm_none h k olds news a b r s = (closed kind old olds a h, closed kind new news b k)

  pub arm_old : (a : TreeEntry) (next : List ℕ) (d : Bool) → BeginsWithTreeEntry kind old a next → HasNone kind new
      → d ≡ is_directory a.kind → (olds news : List TreeEntry) → AreEntriesAnd kind old olds [] → AreEntriesAnd kind new news []
      → AreInOrder olds → AreInOrder news → IsPairOf kind olds news (Some a) None next new a.name d
  arm_old a next d h k e olds news are are' r s =
      let cut = opened kind old olds a next are h in
      let none = closed kind new news are' k in
      subst (IsPairOf kind olds news (Some a) None next new a.name) (sym e) (
        side_first kind olds a cut.0 next cut.1 cut.2 r,
        side_none kind news a new are' s (subst (All (StandsBefore a)) (sym none) (All-nil (StandsBefore a))),
        h.named,
      )

  pub arm_new : (b : TreeEntry) (next : List ℕ) (d : Bool) → HasNone kind old → BeginsWithTreeEntry kind new b next
      → d ≡ is_directory b.kind → (olds news : List TreeEntry) → AreEntriesAnd kind old olds [] → AreEntriesAnd kind new news []
      → AreInOrder olds → AreInOrder news → IsPairOf kind olds news None (Some b) old next b.name d
  arm_new b next d k h e olds news are are' r s =
      let cut = opened kind new news b next are' h in
      let none = closed kind old olds are k in
      subst (IsPairOf kind olds news None (Some b) old next b.name) (sym e) (
        side_none kind olds b old are r (subst (All (StandsBefore b)) (sym none) (All-nil (StandsBefore b))),
        side_first kind news b cut.0 next cut.1 cut.2 s,
        h.named,
      )

  module _ (a b : TreeEntry) (next next' : List ℕ) (d : Bool) (h : BeginsWithTreeEntry kind old a next)
      (k : BeginsWithTreeEntry kind new b next') where
    pub arm_less : StandsBefore a b → d ≡ is_directory a.kind → (olds news : List TreeEntry) → AreEntriesAnd kind old olds []
        → AreEntriesAnd kind new news [] → AreInOrder olds → AreInOrder news
        → IsPairOf kind olds news (Some a) None next new a.name d
    arm_less before e olds news are are' r s =
        let cut = opened kind old olds a next are h in
        let other = opened kind new news b next' are' k in
        let all = before_first a b other.0 (subst AreInOrder other.1 s) before in
        subst (IsPairOf kind olds news (Some a) None next new a.name) (sym e) (
          side_first kind olds a cut.0 next cut.1 cut.2 r,
          side_none kind news a new are' s (subst (All (StandsBefore a)) (sym other.1) all),
          h.named,
        )

    pub arm_greater : slice_cmp nat_cmp (key_of a) (key_of b) ≡ Greater → d ≡ is_directory b.kind → (olds news : List TreeEntry)
        → AreEntriesAnd kind old olds [] → AreEntriesAnd kind new news [] → AreInOrder olds → AreInOrder news
        → IsPairOf kind olds news None (Some b) old next' b.name d
    arm_greater after e olds news are are' r s =
        let cut = opened kind new news b next' are' k in
        let other = opened kind old olds a next are h in
        let all = before_first b a other.0 (subst AreInOrder other.1 r) (after_is_before (key_of a) (key_of b) after) in
        subst (IsPairOf kind olds news None (Some b) old next' b.name) (sym e) (
          side_none kind olds b old are r (subst (All (StandsBefore b)) (sym other.1) all),
          side_first kind news b cut.0 next' cut.1 cut.2 s,
          k.named,
        )

    pub arm_equal : slice_cmp nat_cmp (key_of a) (key_of b) ≡ Equal → d ≡ is_directory a.kind → (olds news : List TreeEntry)
        → AreEntriesAnd kind old olds [] → AreEntriesAnd kind new news [] → AreInOrder olds → AreInOrder news
        → IsPairOf kind olds news (Some a) (Some b) next next' a.name d
    arm_equal same e olds news are are' r s =
        let cut = opened kind old olds a next are h in
        let other = opened kind new news b next' are' k in
        let keys : key_of a ≡ key_of b = slice_cmp-IsAntisymmetric nat_cmp-IsAntisymmetric (key_of a) (key_of b) same in
        let one = ends_apart a.name b.name (is_directory a.kind) (is_directory b.kind) h.named.2 k.named.2
        (sym (key_is a) ∙ keys ∙ key_is b) in
        let second = side_first kind news b other.0 next' other.1 other.2 s in
        subst (IsPairOf kind olds news (Some a) (Some b) next next' a.name) (sym e) (
          side_first kind olds a cut.0 next cut.1 cut.2 r,
          subst (λ n. IsSide kind news (Some b) next' n (is_directory a.kind)) one.0
              (subst (λ k. IsSide kind news (Some b) next' b.name k) one.1 second),
          h.named,
        )
