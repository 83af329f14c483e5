-- The first condition that refuses commits.
use Rattle.std.proofs.Common.{◌≡◌, ◌==◌, ℕ, ◌+◌, ◌<◌, Bool, true, false, List, [], ◌∷◌, length, slice_get, Option, Some, None}
use Rattle.std.proofs.Common.{option_map, refl, sym, ap, ◌∙◌, ◌≤◌, arith}
use Rattle.std.specs.Prelude.{All, nat_lt, if◌then◌else◌}
use Rattle.std.specs.Option.{option_and_then, option_or}
use Rattle.std.proofs.lemmas.Bool.{eqb-true, le-ltb}
use Rattle.std.proofs.lemmas.List.Elements.{All-head}
use Rattle.std.proofs.lemmas.Option.{slice_get_within}
use Rattle.gix_chunk_core.specs.FirstFault.{◌when◌, ◌otherwise◌, first_below}
use Rattle.gix_chunk_core.proofs.FirstFaultLemmas.{first_below-none, first_below-none_from, otherwise-none, when-none}
use Rattle.gix_hash_core.specs.Kind.{id_len}
use Rattle.gix_hash_core.specs.declared.kind.Kind.{Kind}
use Rattle.gix_hash_core.specs.declared.kind.Kind.TheVariants.{Sha1, Sha256}
use Rattle.gix_commitgraph.specs.Graph.{graph_ids, total}
use Rattle.graph_format.specs.Layer.{Layer}
use Rattle.graph_format.specs.Lookup.{scan}
use Rattle.graph_format.specs.Parents.{position_of}
use Rattle.graph_format.specs.declared.TheConstants.{MAX_COMMITS}
use Rattle.graph_format.proofs.ScanLemmas.{scan-none}
use Rattle.graph_writer.specs.NewCommits.{new_ids}
use Rattle.graph_writer.specs.WriteRefusal.{own_refusal_at, twice_at, below_at, parent_at, kind_of_id, kind_to_write}
use Rattle.graph_writer.specs.WriteRefusal.{new_layer_refusal, plain_refusal}
use Rattle.graph_writer.specs.declared.commit.NewCommit.{NewCommit}
use Rattle.graph_writer.specs.declared.commit.WriteError.{WriteError}
use Rattle.graph_writer.specs.declared.commit.WriteError.TheVariants as error

pub kind_of_layers : (layers : List Layer) (commits : List NewCommit) (kind : Kind) → All (λ layer. layer.kind ≡ kind) layers
    → 0 < length layers → kind ≡ kind_to_write layers commits
kind_of_layers [] commits kind all some = absurd (omega arith)
kind_of_layers (layer ∷ layers) commits kind all some = sym (All-head (λ (l : Layer). l.kind ≡ kind) layer layers all)

pub kind_of_first : (kind : Kind) (id : List ℕ) → length id ≡ id_len kind → kind ≡ kind_of_id id
kind_of_first Sha1 id size = sym (ap (λ (n : ℕ). if n == 20 then Sha1 else Sha256) size)
kind_of_first Sha256 id size = sym (ap (λ (n : ℕ). if n == 20 then Sha1 else Sha256) size)

pub ruleset kind_laws = (kind_of_layers, kind_of_first)

-- nothing stands in a graph of no layers
pub none_below : (commits : List NewCommit) (n : ℕ) → first_below (below_at (graph_ids []) commits) n ≡ None
none_below commits n = first_below-none_from (below_at (graph_ids []) commits) n (λ i lt. by-cases i (slice_get
    (new_ids commits) i)) where
      by-cases : (i : ℕ) (o : Option (List ℕ))
          → option_and_then (λ id. option_map (λ p. error.Below i (position_of p)) (scan (graph_ids []) id)) o ≡ None
      by-cases i None = refl
      by-cases i (Some id) =
          ap (option_map (λ (p : ℕ). error.Below i (position_of p)))
          (scan-none [] id (λ k here. absurd (omega (arith, slice_get_within [] k id here))))

or-first : {E : Type 0} (a b : Option E) (e : E) → a ≡ Some e → (a otherwise b) ≡ Some e
or-first a b e is = ap (λ o. option_or o b) is

or-then : {E : Type 0} (a b r : Option E) → a ≡ None → b ≡ r → (a otherwise b) ≡ r
or-then a b r none is = ap (λ o. option_or o b) none ∙ is

module _ (layers : List Layer) (commits : List NewCommit) where
  abbrev pub own_fault : Option WriteError
  own_fault = first_below (own_refusal_at (kind_to_write layers commits) commits) (length commits)

  abbrev pub twice_fault : Option WriteError
  twice_fault = first_below (twice_at commits) (length commits)

  abbrev pub below_fault : Option WriteError
  below_fault = first_below (below_at (graph_ids layers) commits) (length commits)

  abbrev pub many_fault : Option WriteError
  many_fault = error.TooManyCommits when nat_lt MAX_COMMITS (total layers + length commits)

  abbrev pub parent_fault : Option WriteError
  parent_fault = first_below (parent_at (graph_ids layers) commits) (length commits)

  pub refused-own : (e : WriteError) → own_fault ≡ Some e → new_layer_refusal layers commits ≡ Some e
  unfolding new_layer_refusal
  refused-own e is = or-first _ _ e is

  pub refused-twice : (e : WriteError) → own_fault ≡ None → twice_fault ≡ Some e → new_layer_refusal layers commits ≡ Some e
  unfolding new_layer_refusal
  refused-twice e own is = or-then _ _ _ own (or-first _ _ e is)

  pub refused-below : (e : WriteError) → own_fault ≡ None → twice_fault ≡ None → below_fault ≡ Some e
      → new_layer_refusal layers commits ≡ Some e
  unfolding new_layer_refusal
  refused-below e own twice is = or-then _ _ _ own (or-then _ _ _ twice (or-first _ _ e is))

  pub refused-many : own_fault ≡ None → twice_fault ≡ None → below_fault ≡ None
      → nat_lt MAX_COMMITS (total layers + length commits) ≡ true
      → new_layer_refusal layers commits ≡ Some error.TooManyCommits
  unfolding new_layer_refusal
  refused-many own twice below is =
      or-then _ _ _ own
      (or-then _ _ _ twice
      (or-then _ _ _ below (or-first _ _ _ (ap (λ (b : Bool). error.TooManyCommits when b) is))))

  pub refused-later : (r : Option WriteError) → own_fault ≡ None → twice_fault ≡ None → below_fault ≡ None
      → nat_lt MAX_COMMITS (total layers + length commits) ≡ false
      → (parent_fault otherwise (error.Nothing when length commits == 0)) ≡ r → new_layer_refusal layers commits ≡ r
  unfolding new_layer_refusal
  refused-later r own twice below few is =
      or-then _ _ _ own
      (or-then _ _ _ twice
      (or-then _ _ _ below (or-then _ _ _ (ap (λ (b : Bool). error.TooManyCommits when b) few) is)))

  nothing-left : {X : Type 0} (f : ℕ → Option X) → length commits ≡ 0 → first_below f (length commits) ≡ None
  nothing-left f empty = ap (first_below f) empty ∙ first_below-none f

  pub refused-parent : (e : WriteError) → parent_fault ≡ Some e → (parent_fault otherwise
      (error.Nothing when length commits == 0)) ≡ Some e
  refused-parent e is = or-first _ _ e is

  pub refused-nothing : (b : Bool) (r : Option WriteError) → parent_fault ≡ None → (length commits == 0) ≡ b
      → (error.Nothing when b) ≡ r → (parent_fault otherwise (error.Nothing when length commits == 0)) ≡ r
  refused-nothing b r none is last = or-then _ _ _ none (ap (λ (x : Bool). error.Nothing when x) is ∙ last)

  -- what refuses commits without memory
  pub plain-own : plain_refusal layers commits ≡ None → own_fault ≡ None
  unfolding plain_refusal
  plain-own none = (otherwise-none _ _ none).0

  pub plain-some : plain_refusal layers commits ≡ None → (length commits == 0) ≡ false
  unfolding plain_refusal
  plain-some none = when-none _ _ (otherwise-none own_fault _ none).1

  pub plain-first : (e : WriteError) → own_fault ≡ Some e → plain_refusal layers commits ≡ Some e
  unfolding plain_refusal
  plain-first e is = or-first _ _ e is

  pub plain-last : (b : Bool) (r : Option WriteError) → own_fault ≡ None → (length commits == 0) ≡ b
      → (error.Nothing when b) ≡ r → plain_refusal layers commits ≡ r
  unfolding plain_refusal
  plain-last b r own is last = or-then _ _ _ own (ap (λ (x : Bool). error.Nothing when x) is ∙ last)

  -- it is the first condition that refuses them
  refused-empty : (e : WriteError) → total layers ≤ MAX_COMMITS → own_fault ≡ None → (b : Bool) → (length commits == 0) ≡ b
      → (error.Nothing when b) ≡ Some e → new_layer_refusal layers commits ≡ Some e
  refused-empty e few own false is last = cc
  refused-empty e few own true is last =
      let empty : length commits ≡ 0 = eqb-true (length commits) 0 is in
      refused-later (Some e) own (nothing-left (twice_at commits) empty)
      (nothing-left (below_at (graph_ids layers) commits) empty)
      (le-ltb MAX_COMMITS (total layers + length commits) (omega (arith, few, empty)))
      (refused-nothing true (Some e) (nothing-left (parent_at (graph_ids layers) commits) empty) is last)

  refused-plain-by : (e : WriteError) → total layers ≤ MAX_COMMITS → (own : Option WriteError) → own_fault ≡ own
      → (own otherwise (error.Nothing when length commits == 0)) ≡ Some e → new_layer_refusal layers commits ≡ Some e
  refused-plain-by e few None own is = refused-empty e few own (length commits == 0) refl is
  refused-plain-by e few (Some x) own is = refused-own e (own ∙ is)

  pub refused-plain : (e : WriteError) → total layers ≤ MAX_COMMITS → plain_refusal layers commits ≡ Some e
      → new_layer_refusal layers commits ≡ Some e
  unfolding plain_refusal
  refused-plain e few is = refused-plain-by e few own_fault refl is

  -- so it does not hold where nothing refuses them
  pub plain-none : new_layer_refusal layers commits ≡ None → plain_refusal layers commits ≡ None
  unfolding new_layer_refusal
  plain-none none =
      let rest = otherwise-none own_fault _ none in
      let below = otherwise-none twice_fault _ rest.1 in
      let many = otherwise-none below_fault _ below.1 in
      let parents = otherwise-none many_fault _ many.1 in
      let last = otherwise-none parent_fault _ parents.1 in
      plain-last (length commits == 0) None rest.0 refl last.1

pub ruleset memory_laws = (plain-none)
