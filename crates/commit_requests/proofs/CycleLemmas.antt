-- A cycle of numbers is a cycle of commits.
use Rattle.std.proofs.Common.{◌≡◌, ℕ, suc, ◌-◌, ◌<◌, ◌≤◌, List, [], ◌∷◌, length, map, slice_get, option_map}
use Rattle.std.proofs.Common.{Contains, Some, refl, sym, ap, ◌∙◌, subst, arith}
use Rattle.std.proofs.lemmas.List.Elements.{All-contains}
use Rattle.std.proofs.lemmas.Option.{same_Some, slice_get-get_or}
use Rattle.std.specs.Prelude.{slice_index_or}
use Rattle.gix_hash_core.specs.declared.kind.Kind.{Kind}
use Rattle.commit_objects.specs.Object.{object_id_of}
use Rattle.graph_walks.specs.History.{Node, IsParent}
use Rattle.graph_walks.proofs.WalkPathLemmas.{Path, path_from_between}
use Rattle.graph_objects.specs.CommitWalks.{IsCommitWalk, NamesParent}
use Rattle.graph_levels.specs.OnTop.{IsLevelsRefusal}
use Rattle.graph_levels.specs.ParentLists.{parent_list}
use Rattle.graph_levels.specs.declared.level.LevelsError.TheVariants.{Cycle}
use Rattle.graph_levels.specs.declared.lists.ParentLists.{ParentLists}
use Rattle.commit_requests.specs.Completion.{IsOwnAncestor}
use Rattle.commit_requests.specs.Placing.{AreListsOf}
use Rattle.commit_requests.proofs.ListSteps.{contains_from_get, get_from_mapped}
use Rattle.commit_requests.proofs.OrderLemmas.{history_length, history_of_lists, history_on_top, history_parents}

module _ (kind : Kind) (asked read : List (List ℕ)) (lists : ParentLists) (own : asked ≡ map (object_id_of kind) read)
    (listed : AreListsOf kind asked read lists) where
  abbrev history : List Node
  history = history_of_lists lists

  contents_of : (y : ℕ) → y < length history → (bytes : List ℕ) × (slice_get read y ≡ Some bytes)
  contents_of y lt =
      (slice_index_or read y [], slice_get-get_or read y [] (omega (arith, lt, history_length lists, listed.as_many)))

  names : (p y : ℕ) (bytes next : List ℕ) → IsParent history p y → slice_get read p ≡ Some bytes → slice_get read y ≡ Some next
      → NamesParent kind bytes (object_id_of kind next)
  names p y bytes next parent at other =
      let has = listed.each p bytes at in
      let number = All-contains (λ (q : ℕ). (id : List ℕ) × (slice_get asked q ≡ Some id) × Contains has.0.parents id)
      (parent_list lists p) y has.2.each
      (subst (λ (ps : List ℕ). Contains ps y)
      (history_parents lists p (subst (λ (n : ℕ). p < n) (history_length lists) parent.0)) parent.2) in
      let found = get_from_mapped (object_id_of kind) read y number.0
      (subst (λ (xs : List (List ℕ)). slice_get xs y ≡ Some number.0) own number.1) in
      let same : found.0 ≡ next = same_Some found.0 next (sym found.1 ∙ other) in (
        has.0,
        has.1,
        subst (Contains has.0.parents) (sym found.2 ∙ ap (object_id_of kind) same) number.2,
      )

  -- the commits of a path
  leads_along : (p q : ℕ) (rest : List ℕ) (bytes last : List ℕ) → Path history p q rest → slice_get read p ≡ Some bytes
      → slice_get read q ≡ Some last
      → (more : List (List ℕ)) × IsCommitWalk kind read (bytes ∷ more)
      × (option_map (object_id_of kind) (slice_get (bytes ∷ more) (length more)) ≡ Some (object_id_of kind last))
  leads_along p q [] bytes last path at end =
      let same : bytes ≡ last = same_Some bytes last (sym at ∙ ap (slice_get read) path.0 ∙ end) in
      ([], contains_from_get read p bytes at, ap (λ (b : List ℕ). Some (object_id_of kind b)) same)
  leads_along p q (y ∷ rest) bytes last path at end =
      let next = contents_of y path.0.1 in
      let more = leads_along y q rest next.0 last path.1 next.1 end in
      (next.0 ∷ more.0, (contains_from_get read p bytes at, names p y bytes next.0 path.0 at next.1, more.1), more.2)

  one_less : (n : ℕ) → suc n - 1 ≡ n
  one_less n = omega arith

  closes : (p : ℕ) (rest : List ℕ) (bytes : List ℕ) → 2 ≤ length (p ∷ rest) → Path history p p rest
      → slice_get read p ≡ Some bytes → IsOwnAncestor kind read (object_id_of kind bytes)
  closes p [] bytes two path at = absurd (omega (arith, two))
  closes p (y ∷ rest) bytes two path at =
      let next = contents_of y path.0.1 in
      let more = leads_along y p rest next.0 bytes path.1 next.1 at in
      record {
        bytes = bytes;
        among = contains_from_get read p bytes at;
        own = refl;
        parent = object_id_of kind next.0;
        names = names p y bytes next.0 path.0 at next.1;
        leads = record {
          walk = next.0 ∷ more.0;
          is_walk = more.1;
          first = refl;
          last =
              ap (λ (n : ℕ). option_map (object_id_of kind) (slice_get (next.0 ∷ more.0) n)) (one_less (length more.0)) ∙ more.2;
        };
      }

  pub own_ancestor : (p : ℕ) (bytes : List ℕ) → IsLevelsRefusal 0 lists (Cycle p) → slice_get read p ≡ Some bytes
      → IsOwnAncestor kind read (object_id_of kind bytes)
  own_ancestor p bytes refused at =
      let above = refused.2 history (history_on_top lists) in
      let path = path_from_between history p p above.0 above.1 in
      closes p path.0 bytes (subst (λ (walk : List ℕ). 2 ≤ length walk) path.1 above.2) path.2 at
