-- Why a commit is not added, and what is known of one that is.
use Rattle.std.proofs.Common.{◌≡◌, ℕ, List, ◌∷◌, ◌++◌, [], length, take, slice_get, Option, Some, None, refl, sym, ap, ◌∙◌}
use Rattle.std.proofs.Common.{subst, arith}
use Rattle.std.specs.List.{AllZip}
use Rattle.std.proofs.Common.{◌⊎◌, ◌<◌, ◌+◌, suc, map, min, Contains, Result, Ok, Err, OnErr, OnOk, inl, inr}
use Rattle.std.proofs.lemmas.List.{length-map, map-append}
use Rattle.gix_hash_core.specs.declared.kind.Kind.{Kind}
use Rattle.commit_objects.specs.CommitContents.{Said, Says}
use Rattle.commit_objects.specs.Object.{object_id_of}
use Rattle.commit_search.specs.Source.{Told}
use Rattle.graph_walks.specs.declared.TheConstants.{GENERATION_NUMBER_MAX}
use Rattle.graph_walks.specs.Counts.{greatest}
use Rattle.graph_walks.specs.History.{Node, generation_at}
use Rattle.newer_commits.specs.CommitsOnTop.{AreAfterParents, CommitsOnTop, NewerCommit, end_of_top, newer_commit, nodes_on_top}
use Rattle.newer_commits.specs.JoinedHistory.{AreNumberedOnTop, joined_history}
use Rattle.newer_commits.proofs.FoundLemmas.{found_there}
use Rattle.newer_commits.proofs.HistoryLemmas.{numbered_pushed}
use Rattle.newer_commits.specs.Adding.{AddsCommit, AreThere, IsNewCommit, IsAddRefusal}
use Rattle.newer_commits.specs.FindingOnTop.{Finds}
use Rattle.newer_commits.specs.FoundParents.{AreFoundParents, IsOneParentRefusal, IsParentRefusal, IsPrepared, IsPushed}
use Rattle.newer_commits.specs.FoundParents.{IsPushRefusal}
use Rattle.newer_commits.specs.Room.{IsFull}
use Rattle.newer_commits.specs.declared.error.AddError.{AddError}
use Rattle.newer_commits.specs.declared.error.AddError.TheVariants as refusal
use Rattle.newer_commits.specs.declared.found.FoundParents.{FoundParents}
use Rattle.newer_commits.specs.declared.found.Prepared.{Prepared}

module _ {E : Type 0} (base : List ℕ → Option ℕ → Type 0) (may_fail : E → Type 0) (top : CommitsOnTop) where
  -- the first parent that is not there
  pub first_refused : (ids : List (List ℕ)) (n : ℕ) (id : List ℕ) → AreThere base top (take n ids) → slice_get ids n ≡ Some id
      → (e : AddError E) → IsOneParentRefusal base may_fail top n id e → IsParentRefusal base may_fail top ids e
  first_refused ids n id there at refusal.Unreadable is = absurd is
  first_refused ids n id there at (refusal.Known pos) is = absurd is
  first_refused ids n id there at (refusal.Parent index other) is = (
    subst (λ (k : ℕ). AreThere base top (take k ids)) (sym is.0) there,
    ap (slice_get ids) is.0 ∙ at ∙ ap (λ x. Some x) (sym is.1),
    subst (λ (x : List ℕ). Finds base top x None) (sym is.1) is.2,
  )
  first_refused ids n id there at refusal.Full is = absurd is
  first_refused ids n id there at refusal.OutOfMemory is = absurd is
  first_refused ids n id there at (refusal.Source error) is = is

  module _ (kind : Kind) (contents : List ℕ) (said : Said) (absent : IsNewCommit kind base top contents said) where
    pub parent_refused : (e : AddError E) → IsParentRefusal base may_fail top said.parents e
        → IsAddRefusal kind base may_fail top contents e
    parent_refused refusal.Unreadable is = absurd is
    parent_refused (refusal.Known pos) is = absurd is
    parent_refused (refusal.Parent index id) is = (said, absent, is.0, is.1, is.2)
    parent_refused refusal.Full is = absurd is
    parent_refused refusal.OutOfMemory is = absurd is
    parent_refused (refusal.Source error) is = is

    pub push_refused : (count : ℕ) → AreThere base top said.parents → count ≡ length said.parents → (e : AddError E)
        → IsPushRefusal top count e → IsAddRefusal kind base may_fail top contents e
    push_refused count there many refusal.Unreadable is = absurd is
    push_refused count there many (refusal.Known pos) is = absurd is
    push_refused count there many (refusal.Parent index id) is = absurd is
    push_refused count there many refusal.Full is = (said, absent, there, subst (IsFull top) many is)
    push_refused count there many refusal.OutOfMemory is =
        (said, absent, there, subst (λ (k : ℕ). ¬ IsFull top k) many is)
    push_refused count there many (refusal.Source error) is = absurd is

pub adds_from : (kind : Kind) (base : List ℕ → Option ℕ → Type 0) (old new : CommitsOnTop) (contents : List ℕ) (said : Said)
    (id : List ℕ) (at : ℕ) → id ≡ object_id_of kind contents → Says kind contents said → Finds base old id None
    → IsPushed base old new said.parents id at → AddsCommit kind base old new contents at
adds_from kind base old new contents said id at is_id says is_new pushed = record {
  commit = newer_commit id pushed.generation pushed.places;
  is_commit = record { id = is_id; is_new = is_new; said = said; says = says; parents = pushed.each };
  added = pushed.added;
  below = pushed.below;
  position = pushed.position;
}

length_zip : {X Y : Type 0} (R : X → Y → Type 0) (xs : List X) (ys : List Y) → AllZip R xs ys → length xs ≡ length ys
length_zip R [] [] zip = refl
length_zip R [] (y ∷ ys) zip = absurd zip
length_zip R (x ∷ xs) [] zip = absurd zip
length_zip R (x ∷ xs) (y ∷ ys) zip = ap suc (length_zip R xs ys zip.1)

pub found_many : (base : List ℕ → Option ℕ → Type 0) (says : Told → Type 0) (top : CommitsOnTop) (ids : List (List ℕ))
    (found : FoundParents) → AreFoundParents base says top ids found → found.count ≡ length ids
found_many base says top ids found are =
    are.count ∙ sym (length_zip (λ (id : List ℕ) (p : ℕ). Finds base top id (Some p)) ids are.places are.each)

-- a commit that was prepared

module _ (kind : Kind) (base : List ℕ → Option ℕ → Type 0) (says : Told → Type 0) (top new : CommitsOnTop) (contents : List ℕ)
    (prepared : Prepared) (is : IsPrepared kind base says top contents prepared) where
  absent_id : Finds base top prepared.id None
  absent_id = subst (λ (x : List ℕ). Finds base top x None) (sym is.id) is.absent.is_new

  adds_prepared : (at : ℕ) → IsPushed base top new is.said.parents prepared.id at → AddsCommit kind base top new contents at
  adds_prepared at pushed =
      adds_from kind base top new contents is.said prepared.id at is.id is.absent.says absent_id pushed

pub prepared_absent : (kind : Kind) (base : List ℕ → Option ℕ → Type 0) (says : Told → Type 0) (top : CommitsOnTop)
    (contents : List ℕ) (prepared : Prepared) → IsPrepared kind base says top contents prepared
    → Finds base top prepared.id None
prepared_absent kind base says top contents prepared is = absent_id kind base says top top contents prepared is

pub prepared_adds : (kind : Kind) (base : List ℕ → Option ℕ → Type 0) (says : Told → Type 0) (top new : CommitsOnTop)
    (contents : List ℕ) (prepared : Prepared) (is : IsPrepared kind base says top contents prepared) (at : ℕ)
    → IsPushed base top new is.said.parents prepared.id at → AddsCommit kind base top new contents at
prepared_adds kind base says top new contents prepared is at pushed =
    adds_prepared kind base says top new contents prepared is at pushed

pub prepared_refused : {E : Type 0} (kind : Kind) (base : List ℕ → Option ℕ → Type 0) (may_fail : E → Type 0)
    (says : Told → Type 0) (top : CommitsOnTop) (contents : List ℕ) (prepared : Prepared)
    → IsPrepared kind base says top contents prepared → (e : AddError E) → IsPushRefusal top prepared.found.count e
    → IsAddRefusal kind base may_fail top contents e
prepared_refused kind base may_fail says top contents prepared is e refused =
    push_refused base may_fail top kind contents is.said is.absent prepared.found.count
    (found_there base says top is.said.parents prepared.found is.found)
    (found_many base says top is.said.parents prepared.found is.found) e refused

pub ok_or_err : {T E : Type 0} (r : Result T E) (P Q : Type 0) → OnOk r P → OnErr r Q → P ⊎ Q
ok_or_err (Ok x) P Q p q = inl p
ok_or_err (Err e) P Q p q = inr q

-- one more commit has the number that its parents ask for
pub numbered_after : (base : List Node) (old new : CommitsOnTop) (id : List ℕ) (generation : ℕ) (parents : List ℕ)
    → length base ≡ old.below → AreNumberedOnTop base (nodes_on_top old) → AreAfterParents old
    → ((q : ℕ) → Contains parents q → q < end_of_top old)
    → generation ≡ min GENERATION_NUMBER_MAX
    (1 + greatest (map (generation_at (joined_history base (nodes_on_top old))) parents))
    → new.commits ≡ old.commits ++ newer_commit id generation parents ∷ [] → AreNumberedOnTop base (nodes_on_top new)
numbered_after base old new id generation parents below numbered order before number added =
    let size = length-map old.commits (λ (c : NewerCommit). c.node) in
    let nodes : nodes_on_top new ≡ nodes_on_top old ++ record { generation = generation; parents = parents } ∷ [] =
    ap (λ (cs : List NewerCommit). map (λ (c : NewerCommit). c.node) cs) added
    ∙ map-append (λ (c : NewerCommit). c.node) old.commits (newer_commit id generation parents ∷ []) in
    subst (AreNumberedOnTop base) (sym nodes)
    (numbered_pushed base (nodes_on_top old) generation parents numbered
    (λ i q contained. omega (arith, order i q contained, below))
    (λ q contained. omega (arith, before q contained, below, size)) number)
