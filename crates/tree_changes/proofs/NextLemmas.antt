-- the next difference of two trees
use Rattle.std.proofs.Common.{◌≡◌, ◌≢◌, ℕ, Bool, List, [], Option, sym, ap, ◌∙◌, inl, inr}
use Rattle.std.specs.Prelude.{option_map, ◌↔◌}
use Rattle.gix_hash_core.specs.declared.kind.Kind.{Kind}
use Rattle.tree_objects.specs.Tree.{TreeEntry, AreEntriesAnd}
use Rattle.tree_objects.specs.Tree.{AreInOrder}
use Rattle.tree_changes.specs.Stands.{World, item_of, item_at, item_id, entries_of}
use Rattle.tree_changes.specs.Walk.{Change, IsChange, IsHere, IsNext}
use Rattle.tree_changes.proofs.PairLemmas.{IsPairOf}
use Rattle.tree_changes.proofs.StepLemmas.{step_is}
use Rattle.tree_changes.proofs.EarlierLemmas.{names_all, here_before}

-- Entries were passed by that are alike: what differs is among those that are left.
pub record IsPast (kind : Kind) (olds news : List TreeEntry) (old_bytes new_bytes : List ℕ) : Type 0 where
  pub olds_rest : List TreeEntry
  pub news_rest : List TreeEntry
  pub old_entries : AreEntriesAnd kind old_bytes olds_rest []
  pub new_entries : AreEntriesAnd kind new_bytes news_rest []
  pub old_order : AreInOrder olds_rest
  pub new_order : AreInOrder news_rest
  pub same : (world : World) (c : Change) → IsChange world olds news c ↔ IsChange world olds_rest news_rest c

pub past_none : (kind : Kind) (old new : List ℕ) (olds news : List TreeEntry) → AreEntriesAnd kind old olds []
    → AreEntriesAnd kind new news [] → AreInOrder olds → AreInOrder news → IsPast kind olds news old new
past_none kind old new olds news a b r s = record {
  olds_rest = olds;
  news_rest = news;
  old_entries = a;
  new_entries = b;
  old_order = r;
  new_order = s;
  same = λ world c. (λ h. h, λ h. h);
}

-- the pair at which two trees go on, by their entries
abbrev pub PairsBy : Kind → List ℕ → List ℕ → Option TreeEntry → Option TreeEntry → List ℕ → List ℕ → List ℕ → Bool → Type 0
PairsBy kind old new a b old' new' name directory =
    (olds news : List TreeEntry) → AreEntriesAnd kind old olds [] → AreEntriesAnd kind new news [] → AreInOrder olds
    → AreInOrder news → IsPairOf kind olds news a b old' new' name directory

here_alike : (world : World) (old new : Option TreeEntry) (name : List ℕ) (directory : Bool) (c : Change)
    → option_map item_of old ≡ option_map item_of new → IsHere world old new name directory c → ⊥
here_alike world old new name directory c alike (inl h) = h.differs (sym h.old_is ∙ alike ∙ h.new_is)
here_alike world old new name directory c alike (inr h) =
    h.change.2 (sym h.change.0 ∙ ap (λ i. item_at world c.directory (entries_of world (item_id i)) h.rest c.name) alike
    ∙ h.change.1)

module _ (kind : Kind) (olds news : List TreeEntry) (old new : List ℕ) (p : IsPast kind olds news old new) where
  pub past_more : (a b : Option TreeEntry) (old' new' name : List ℕ) (directory : Bool)
      → PairsBy kind old new a b old' new' name directory → option_map item_of a ≡ option_map item_of b
      → IsPast kind olds news old' new'
  past_more a b old' new' name directory pairs alike =
      let pair = pairs p.olds_rest p.news_rest p.old_entries p.new_entries p.old_order p.new_order in
      let x = pair.0 in
      let y = pair.1 in
      record {
        olds_rest = x.rest;
        news_rest = y.rest;
        old_entries = x.entries_are;
        new_entries = y.entries_are;
        old_order = x.in_order;
        new_order = y.in_order;
        same = λ world c.
            let step = step_is kind world p.olds_rest a old' p.news_rest b new' name directory x y c.directories c in (
              λ h. elim (step.0 ((p.same world c).0 h)) [
                | inl here ↦ absurd (here_alike world a b name directory c alike here)
                | inr rest ↦ rest
              ],
              λ h. (p.same world c).1 (step.1 (inr h)),
            );
      }

  pub next_is : (a b : Option TreeEntry) (old' new' name : List ℕ) (directory : Bool)
      → PairsBy kind old new a b old' new' name directory → option_map item_of a ≢ option_map item_of b
      → IsNext kind olds news a b old' new' name directory
  next_is a b old' new' name directory pairs differ =
      let pair = pairs p.olds_rest p.news_rest p.old_entries p.new_entries p.old_order p.new_order in
      let x = pair.0 in
      let y = pair.1 in
      record {
        olds_rest = x.rest;
        news_rest = y.rest;
        old_entries = x.entries_are;
        new_entries = y.entries_are;
        old_order = x.in_order;
        new_order = y.in_order;
        named = pair.2;
        differ = differ;
        step = λ world c.
            let step = step_is kind world p.olds_rest a old' p.news_rest b new' name directory x y c.directories c in
            (λ h. step.0 ((p.same world c).0 h), λ h. (p.same world c).1 (step.1 h));
        earlier = λ world c d here rest.
            here_before name directory pair.2 world a b x.rest y.rest x.behind (names_all kind old' x.rest x.entries_are) y.behind
            (names_all kind new' y.rest y.entries_are) c d here rest;
      }

  nothing_differs : (world : World) (c : Change) (xs ys : List TreeEntry) → xs ≡ [] → ys ≡ [] → IsChange world xs ys c → ⊥
  nothing_differs world c xs ys e f h =
      h.2 (sym h.0 ∙ ap (λ t. item_at world c.directory t c.directories c.name) (e ∙ sym f) ∙ h.1)

  pub past_all : ((xs ys : List TreeEntry) → AreEntriesAnd kind old xs [] → AreEntriesAnd kind new ys [] → AreInOrder xs
      → AreInOrder ys → (xs ≡ []) × (ys ≡ []))
      → (world : World) (c : Change) → IsChange world olds news c → ⊥
  past_all ended world c h =
      let e = ended p.olds_rest p.news_rest p.old_entries p.new_entries p.old_order p.new_order in
      nothing_differs world c p.olds_rest p.news_rest e.0 e.1 ((p.same world c).0 h)
