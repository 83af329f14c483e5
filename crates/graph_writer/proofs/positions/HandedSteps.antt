-- The commits that are handed in, by what they say.
use Rattle.std.proofs.Common.{◌≡◌, ◌==◌, ◌<◌, ℕ, true, List, [], ◌∷◌, Some, length, map, slice_get, get_or, refl, sym, ap, ◌∙◌}
use Rattle.std.proofs.Common.{arith}
use Rattle.std.proofs.lemmas.Bool.{eqb-true}
use Rattle.std.proofs.lemmas.Option.{get_or_from_slice_get}
use Rattle.gix_hash_core.specs.declared.kind.Kind.TheVariants.{Sha1}
use Rattle.graph_writer.specs.NewCommits.{new_ids}
use Rattle.graph_writer.specs.WriteRefusal.{kind_to_write}
use Rattle.graph_writer.specs.declared.commit.NewCommit.{NewCommit}
use Rattle.graph_writer.proofs.positions.NewIdSteps.{id-at}

-- commits that say what they are
pub same-commits : (commits : List NewCommit) → map (λ commit. commit) commits ≡ commits
same-commits [] = refl
same-commits (commit ∷ commits) = ap (λ (cs : List NewCommit). commit ∷ cs) (same-commits commits)

-- the id that a commit says
pub said-at : (commits : List NewCommit) (i : ℕ) (commit : NewCommit) (id : List ℕ) → slice_get commits i ≡ Some commit
    → id ≡ commit.id → slice_get (new_ids commits) i ≡ Some id
said-at commits i commit id here is = id-at commits i commit here ∙ ap (λ (x : List ℕ). Some x) (sym is)

-- and as it is read
pub said-of : (commits : List NewCommit) (i : ℕ) (commit : NewCommit) (id : List ℕ) → slice_get commits i ≡ Some commit
    → id ≡ commit.id → get_or (new_ids commits) i [] ≡ id
said-of commits i commit id here is = get_or_from_slice_get (new_ids commits) i id [] (said-at commits i commit id here is)

-- the kind of a layer without commits
pub kind-of_none : (commits : List NewCommit) → (length commits == 0) ≡ true → kind_to_write [] commits ≡ Sha1
kind-of_none [] none = refl
kind-of_none (commit ∷ commits) none = absurd (omega (arith, eqb-true (length (commit ∷ commits)) 0 none))
