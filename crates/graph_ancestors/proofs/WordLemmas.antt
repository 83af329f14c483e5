-- The words of an extra edge list that name parents of a commit of a right graph.
use Rattle.std.proofs.Common.{◌≡◌, ℕ, ◌+◌, ◌/◌, ◌<◌, ◌≤◌, List, [], length, drop, get_or}
use Rattle.std.proofs.Common.{Contains, All, IfSome, slice_get}
use Rattle.std.proofs.Common.{Option, Some, None, refl, sym, ap, ◌∙◌, subst, ⊎_elim, arith}
use Rattle.std.specs.Option.{option_map_or}
use Rattle.std.proofs.lemmas.Bool.{cases_lt}
use Rattle.std.proofs.lemmas.List.{drop_all}
use Rattle.graph_walks.specs.History.{Node, IsParent}
use Rattle.graph_format.specs.Parents.{DecodedParents, extra_edge_of, faulty, listed}
use Rattle.graph_format.specs.declared.Position.{Position}
use Rattle.graph_format.specs.declared.parents.ExtraEdge.{ExtraEdge}
use Rattle.graph_format.specs.declared.parents.ExtraEdge.TheVariants as extra
use Rattle.graph_format.specs.declared.parents.ParentError.TheVariants.{EdgeOverflow}
use Rattle.graph_format.specs.Format.{words}
use Rattle.graph_format.specs.Layer.{Layer, IsOpened}
use Rattle.graph_layer.proofs.ListedParentLemmas.{length-words}
use Rattle.gix_commitgraph.proofs.lookup.ElementLemmas.{all-at}
use Rattle.commit_search.specs.EdgeLists.{named_by, named_from, list_of, list_in}
use Rattle.graph_ancestors.specs.Commits.{IsReading}
use Rattle.commit_search.proofs.EdgeListLemmas.{head_contained, tail_contained, listed_at, named_internal, named_last}

-- the words from one on that name parents of p
module _ (h : List Node) (list : List ℕ) (p next : ℕ) (reading : IsReading h list p next) where
  pub reading_within : next < length list
  reading_within =
      ⊎_elim
      (λ (lt : next < length list). lt)
      (λ (past : length list ≤ next).
      let none : listed (drop next list) ≡ faulty EdgeOverflow = ap listed (drop_all next list past) in
      let is = ap (λ (d : DecodedParents). d.fault) none in
      let decoded = reading.decoded in
      absurd (cc))
      (cases_lt next (length list))

  module _ (pos : Position) where
    pub internal_is_parent : extra_edge_of (get_or list next 0) ≡ extra.Internal pos → IsParent h p pos.0
    internal_is_parent is =
        reading.parents pos.0 (subst (λ (xs : List ℕ). Contains xs pos.0) (sym (named_internal list next pos reading_within is))
        (head_contained pos.0 (named_from list (next + 1))))

    pub last_is_parent : extra_edge_of (get_or list next 0) ≡ extra.Last pos → IsParent h p pos.0
    last_is_parent is =
        reading.parents pos.0 (subst (λ (xs : List ℕ). Contains xs pos.0) (sym (named_last list next pos reading_within is))
        (head_contained pos.0 []))

    pub reading_goes_on : extra_edge_of (get_or list next 0) ≡ extra.Internal pos → IsReading h list p (next + 1)
    reading_goes_on is = record {
      decoded =
          sym (ap (λ (d : DecodedParents). d.fault) (listed_at list next (extra.Internal pos) reading_within is))
          ∙ reading.decoded;
      parents = λ q contained.
          reading.parents q (subst (λ (xs : List ℕ). Contains xs q) (sym (named_internal list next pos reading_within is))
          (tail_contained pos.0 q (named_from list (next + 1)) contained));
    }

-- the parent that the next word names
pub next_is_parent : (h : List Node) (list : List ℕ) (p next : ℕ) (reading : IsReading h list p next) (e : ExtraEdge)
    → extra_edge_of (get_or list next 0) ≡ e → IsParent h p (named_by e)
next_is_parent h list p next reading (extra.Internal pos) is = internal_is_parent h list p next reading pos is
next_is_parent h list p next reading (extra.Last pos) is = last_is_parent h list p next reading pos is

pub contained_in : (layers : List Layer) (l m index q : ℕ) → l ≡ m → Contains (named_from (list_in layers l) index) q
    → Contains (named_from (list_in layers m) index) q
contained_in layers l m index q same = subst (λ (k : ℕ). Contains (named_from (list_in layers k) index) q) same

-- the words of a layer's list have places of 32 bits
few_words_of : (edges : Option (List ℕ)) → IfSome edges (λ chunk. length chunk / 4 ≤ 4294967294)
    → length (option_map_or words edges []) ≤ 4294967294
few_words_of None few = omega arith
few_words_of (Some bytes) few = omega (arith, length-words bytes, few)

few_words_in : (layers : List Layer) (l : ℕ) (o : Option Layer) → All IsOpened layers → slice_get layers l ≡ o
    → length (list_in layers l) ≤ 4294967294
few_words_in layers l None opened here = omega (arith, ap (λ o. length (option_map_or list_of o [])) here)
few_words_in layers l (Some layer) opened here =
    omega (
      arith,
      ap (λ o. length (option_map_or list_of o [])) here,
      few_words_of layer.edges (all-at IsOpened layers l layer opened here).few_edges,
    )

pub few_words : (layers : List Layer) (l : ℕ) → All IsOpened layers → length (list_in layers l) ≤ 4294967294
few_words layers l opened = few_words_in layers l (slice_get layers l) opened refl
