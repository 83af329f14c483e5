-- the commits that are handed in, one after another
use Rattle.std.proofs.Common.{◌≡◌, ℕ, ◌+◌, ◌<◌, ◌≤◌, List, [], ◌∷◌, All, length, map, take, get_or, refl, subst, sym, true}
use Rattle.std.proofs.lemmas.List.{take_more, take_all}
use Rattle.std.proofs.lemmas.List.Elements.{All-nil, All-push, All-head, All-tail}
use Rattle.c_writing.specs.HandedIn.{AreHandedIn, HaveIds, IsHandedIn, has_ids}
use Rattle.c_writing.specs.SaidCommits.{HasFewParents, said}
use Rattle.c_writing.specs.declared.new_commits.CgNewCommit.{CgNewCommit}
use Rattle.c_writing.proofs.ParentRoom.{all-taken}

-- what is handed in of a commit says it
said-of : (one : CgNewCommit) → has_ids one ≡ true → HasFewParents one → IsHandedIn one (said one)
said-of one ids few = record {
  ids = ids;
  id = refl;
  tree = refl;
  parents = all-taken one few;
  time = refl;
}

-- and so of all
pub said-all : (handed : List CgNewCommit) → HaveIds handed → All HasFewParents handed → AreHandedIn handed (map said handed)
said-all [] ids few = tt
said-all (one ∷ handed) ids few = (
  said-of one (All-head (λ (h : CgNewCommit). has_ids h ≡ true) one handed ids) (All-head HasFewParents one handed few),
  said-all handed (All-tail (λ (h : CgNewCommit). has_ids h ≡ true) one handed ids) (All-tail HasFewParents one handed few),
)

-- none was looked at, and one more
pub none_looked_at : (handed : List CgNewCommit) → HaveIds (take 0 handed)
none_looked_at handed = All-nil (λ one. has_ids one ≡ true)

pub more_are : (P : CgNewCommit → Type 0) (handed : List CgNewCommit) (i : ℕ) (d : CgNewCommit) → i < length handed
    → All P (take i handed) → P (get_or handed i d) → All P (take (i + 1) handed)
more_are P handed i d below all is =
    subst (λ (hs : List CgNewCommit). All P hs) (sym (take_more handed i d below)) (All-push P _ _ all is)

pub all_are : (P : CgNewCommit → Type 0) (handed : List CgNewCommit) (i : ℕ) → length handed ≤ i → All P (take i handed)
    → All P handed
all_are P handed i past all = subst (λ (hs : List CgNewCommit). All P hs) (take_all i handed past) all
