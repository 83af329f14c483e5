-- a layer that is put on top of those of a graph
use Rattle.std.proofs.Common.{◌≡◌, ℕ, ◌+◌, ◌-◌, ◌<◌, ◌≤◌, List, [], ◌∷◌, ◌++◌, length, Bool, true, false, not, Some, None}
use Rattle.std.proofs.Common.{slice_get, get_or, All, refl, sym, ap, ◌∙◌, arith, ◌==◌}
use Rattle.std.proofs.lemmas.Bool.{lt-ltb, le-ltb, ne_eqb}
use Rattle.std.proofs.lemmas.List.{get_or_push, length_push}
use Rattle.std.proofs.lemmas.Option.{slice_get-get_or, slice_get_read}
use denote.Enum.Bare.{sameb}
use Rattle.gix_chunk_core.specs.FirstFault.{first_below, ◌when◌}
use Rattle.gix_chunk_core.proofs.FirstFaultLemmas.{first_below-next, first_below-none_from}
use Rattle.gix_hash_core.specs.declared.kind.Kind.{Kind}
use Rattle.gix_hash_core.specs.declared.kind.Kind.TheVariants.{Sha1, Sha256}
use Rattle.gix_hash_core.specs.contracts.kind.Kind.{the_type}
use Rattle.graph_format.specs.declared.TheConstants.{MAX_COMMITS}
use Rattle.graph_format.specs.declared.error.GraphError.TheVariants.{TooManyCommits, HashMismatch}
use Rattle.graph_format.specs.Layer.{Layer}
use Rattle.gix_commitgraph.specs.Graph.{total}
use Rattle.gix_commitgraph.specs.GraphRefusal.{same_kind, kind_at, mismatch_after, mismatch_refusal, graph_refusal}
use Rattle.gix_commitgraph.proofs.layers.LayerListLemmas.{get-front, kind_at-is, mismatch-is}

not-empty : (layers : List Layer) (layer : Layer) → (length (layers ++ layer ∷ []) == 0) ≡ false
not-empty layers layer = ne_eqb _ 0 (λ none. absurd (omega (arith, none, length_push layers layer)))

-- with it there are too many commits
pub too-many-above : (layers : List Layer) (layer : Layer) → MAX_COMMITS < total (layers ++ layer ∷ [])
    → graph_refusal (layers ++ layer ∷ []) ≡ Some (TooManyCommits (total (layers ++ layer ∷ [])))
unfolding graph_refusal
too-many-above layers layer many = rw (not-empty layers layer, lt-ltb _ _ many) refl

few-above : (layers : List Layer) (layer : Layer) → total (layers ++ layer ∷ []) ≤ MAX_COMMITS
    → graph_refusal (layers ++ layer ∷ []) ≡ mismatch_refusal (layers ++ layer ∷ [])
unfolding graph_refusal
few-above layers layer few = rw (not-empty layers layer, le-ltb _ _ few) refl

same_kind-itself : (kind : Kind) → same_kind kind kind ≡ true
same_kind-itself Sha1 = refl
same_kind-itself Sha256 = refl

module _ (layers : List Layer) (layer : Layer) (kind : Kind) (some : 0 < length layers)
    (alike : All (λ (l : Layer). l.kind ≡ kind) layers) where
  here : (i : ℕ) → i < length layers → slice_get (layers ++ layer ∷ []) i ≡ Some (get_or layers i layer)
  here i h = get-front layers (layer ∷ []) i h ∙ slice_get-get_or layers i layer h

  kind-below : (i : ℕ) → i < length layers → kind_at (layers ++ layer ∷ []) i ≡ kind
  kind-below i h = kind_at-is (layers ++ layer ∷ []) i (get_or layers i layer) (here i h) ∙ alike i layer h

  -- no layer below is of another kind than the one before it
  agree-below : (i : ℕ) → i < length layers - 1 → mismatch_after (layers ++ layer ∷ []) i ≡ None
  agree-below i h =
      rw (kind-below i (omega (arith, h)), kind-below (i + 1) (omega (arith, h)), same_kind-itself kind) refl

  top : slice_get (layers ++ layer ∷ []) (length layers - 1 + 1) ≡ Some layer
  top =
      ap (slice_get (layers ++ layer ∷ [])) (omega (arith, some))
      ∙ slice_get_read _ _ (length layers) layer refl (omega (arith, length_push layers layer))
      (sym (get_or_push layers layer layer _ refl))

  -- and the one on top may be
  mismatch-above : (other : Kind) (differ : Bool) → other ≡ layer.kind → differ ≡ not (sameb the_type kind other)
      → mismatch_refusal (layers ++ layer ∷ []) ≡ (HashMismatch (length layers) when differ)
  unfolding mismatch_refusal
  mismatch-above other differ is tested =
      let all = layers ++ layer ∷ [] in
      let last = length layers - 1 in
      ap (first_below (mismatch_after all)) (omega (arith, some, length_push layers layer))
      ∙ first_below-next (mismatch_after all) last (first_below-none_from (mismatch_after all) last agree-below)
      ∙ mismatch-is all last (get_or layers last layer) layer kind other differ (here last (omega (arith, some))) top
      (sym (alike last layer (omega (arith, some)))) is tested
      ∙ ap (λ (n : ℕ). HashMismatch n when differ) (omega (arith, some))

  -- where there are not too many, it is refused for its kind alone
  pub refusal-above : (other : Kind) (differ : Bool) → total (layers ++ layer ∷ []) ≤ MAX_COMMITS → other ≡ layer.kind
      → differ ≡ not (sameb the_type kind other)
      → graph_refusal (layers ++ layer ∷ []) ≡ (HashMismatch (length layers) when differ)
  refusal-above other differ few is tested = few-above layers layer few ∙ mismatch-above other differ is tested
