-- the first of the paths that are changed, as they are told one after another
use Rattle.std.proofs.Common.{◌≡◌, ℕ, Bool, true, false, List, [], ◌∷◌, ◌++◌, Option, Some, refl, sym, ap, ◌∙◌, subst, inl, inr}
use Rattle.std.specs.Prelude.{All}
use Rattle.std.specs.Ordering.{nat_cmp}
use Rattle.std.specs.declared.cmp.Ordering.TheVariants.{Less}
use Rattle.std.specs.Cmp.Lexicographic.{slice_cmp}
use Rattle.std.proofs.lemmas.List.Elements.{All-nil, All-head, All-tail, All-weaker, All-contains}
use Rattle.gix_hash_core.specs.declared.kind.Kind.{Kind}
use Rattle.tree_changes.specs.Stands.{World, stands}
use Rattle.tree_changes.specs.Changes.{AreFirstChanged}
use Rattle.tree_changes.specs.Walk.{Change, IsEarlier, change_key, leaf_texts, HasNames, IsLeft, IsFoundIn, IsFoundSoFar}
use Rattle.tree_changes.specs.Walk.{Pending}
use Rattle.tree_changes.specs.Reads.{IsFoundThen}
use Rattle.tree_changes.specs.InTurn.{HasFound, GoesOn, last_found}
use Rattle.tree_changes.specs.declared.walk.Walk.{Walk}
use Rattle.tree_changes.specs.declared.in_turn.ChangesInTurn.{ChangesInTurn}
use Rattle.tree_changes.proofs.FinalLemmas.{text_of, key_is, all_cond, HasText, have_texts, texts_rise, each_text, all_found}

abbrev IsBefore : List ℕ → List ℕ → Type 0
IsBefore last text = slice_cmp nat_cmp text last ≡ Less

-- the texts of changes that are earlier than a leaf come before its text
texts_before : (d : Change) (changes : List Change) → d.directory ≡ false → All (λ c. IsEarlier c d) changes
    → All (IsBefore (text_of d)) (leaf_texts changes)
texts_before d [] e h = All-nil (IsBefore (text_of d))
texts_before d (c ∷ changes) e h =
    all_cond (IsBefore (text_of d)) c.directory (text_of c) (leaf_texts changes)
    (λ f.
    let Q : List ℕ → Type 0 = λ t. slice_cmp nat_cmp (change_key c) t ≡ Less in
    subst (IsBefore (text_of d)) (key_is c f) (subst Q (key_is d e) (All-head (λ b. IsEarlier b d) c changes h)))
    (texts_before d changes e (All-tail (λ b. IsEarlier b d) c changes h))

are_first : (world : World) (old new : Option (List ℕ)) (found : List Change) (left : List Pending)
    → IsFoundIn world old new found left → All HasNames found → AreFirstChanged world old new (leaf_texts found)
are_first world old new found left h named = record {
  rising = texts_rise found h.rising;
  each = each_text world old new found h.each named;
  others = λ path changed.
      let c : Change = record {
        directory = false;
        directories = path.directories;
        name = path.name;
        old = stands world old path;
        new = stands world new path;
      } in
      elim (h.all c (refl, refl, changed)) [
        | inl f ↦ inl (All-contains (HasText (leaf_texts found)) found c (have_texts found) f refl)
        | inr l ↦
            inr (texts_before c found refl
            (All-weaker (λ d. (e : Change) → IsLeft world left e → IsEarlier d e) (λ d. IsEarlier d c) (λ d k. k c l) found
            h.earlier))
      ];
}

-- what a step of a walk comes to
pub goes_on : (kind kind' : Kind) (says : World → Type 0) (old new : Option (List ℕ)) (names trees : ℕ) (texts : List (List ℕ))
    (found : List Change) (more : Bool) (walk : Walk) (changes : ChangesInTurn) → kind' ≡ kind → changes.walk ≡ Some walk
    → leaf_texts found ≡ texts → walk.names ≡ names
    → IsFoundThen kind says old new trees found more walk.path.items walk.levels.items walk.trees
    → GoesOn kind' says old new names trees texts more changes
goes_on kind kind' says old new names trees texts found true walk changes k e same named h =
    let whole : leaf_texts h.found_then ≡ texts ++ walk.path.items ∷ [] =
    h.texts_more refl ∙ ap (λ t. t ++ walk.path.items ∷ []) same in
    let told : HasFound kind' says old new names trees (texts ++ walk.path.items ∷ []) (Some walk) = (
      h.found_then,
      subst (λ t. IsFoundSoFar t says old new trees h.found_then walk.path.items walk.levels.items walk.trees) (sym k) h.so_far,
      whole,
      named,
    ) in
    let first : (world : World) → says world → AreFirstChanged world old new (texts ++ walk.path.items ∷ []) = λ world w.
    subst (AreFirstChanged world old new) whole
    (are_first world old new h.found_then h.so_far.left (h.so_far.agreed world w) h.so_far.named) in (
      subst (λ o. HasFound kind' says old new names trees (texts ++ last_found o ∷ []) o) (sym e) told,
      subst (λ o. (world : World) → says world → AreFirstChanged world old new (texts ++ last_found o ∷ [])) (sym e) first,
    )
goes_on kind kind' says old new names trees texts found false walk changes k e same named h =
    all_found kind says old new trees found false walk.path.items walk.levels.items walk.trees texts h refl same
