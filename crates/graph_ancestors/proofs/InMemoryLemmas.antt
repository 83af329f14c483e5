-- A graph in memory that is right, as a source of commits.
use Rattle.std.proofs.Common.{◌≡◌, ℕ, ◌+◌, List, length, get_or, sym, subst}
use Rattle.std.proofs.Common.{inl, inr, ⊎_elim, arith}
use Rattle.graph_format.specs.Layer.{Layer}
use Rattle.graph_format.specs.StoredHistory.{history_of}
use Rattle.graph_format.specs.Parents.{extra_edge_of}
use Rattle.graph_format.specs.declared.parents.ParentEdge.{ParentEdge}
use Rattle.graph_format.specs.declared.parents.ParentEdge.TheVariants as edge
use Rattle.graph_format.specs.declared.parents.ExtraEdge.{ExtraEdge}
use Rattle.graph_format.specs.declared.parents.ExtraEdge.TheVariants as extra
use Rattle.gix_commitgraph.specs.Graph.{total}
use Rattle.gix_commitgraph.specs.GraphLaw.{LiesIn}
use Rattle.commit_search.specs.EdgeLists.{list_in}
use Rattle.graph_ancestors.specs.Commits.{IsReading, NamesParents, Names, AreParentFields}
use Rattle.commit_search.specs.Source.{Told, told_of, IsFieldWithin, IsFieldTrue, FieldNames, AreFieldsTold, AreFieldsRead}
use Rattle.commit_search.specs.Source.{IsNextListed, IsWordTold, IsWordRead}
use Rattle.graph_ancestors.proofs.WordLemmas.{reading_within, reading_goes_on, next_is_parent, contained_in}

-- the commit at p lies in layer l
abbrev pub Lies : List Layer → ℕ → ℕ → Type 0
Lies layers p l = (layer : Layer) × LiesIn layers p l layer

-- the word of this index may be read for it
abbrev pub IsListed : List Layer → ℕ → ℕ → Type 0
IsListed layers p index =
    (l : ℕ) (layer : Layer) → LiesIn layers p l layer → IsReading (history_of layers) (list_in layers l) p index

-- what such a source says
abbrev pub Says : List Layer → Told → Type 0
Says layers t = t ≡ told_of layers

module _ (layers : List Layer) (p : ℕ) (counted : length (history_of layers) ≡ total layers)
    (one : (l m : ℕ) (layer other : Layer) → LiesIn layers p l layer → LiesIn layers p m other → l ≡ m) where
  field_within : (field : ParentEdge) → NamesParents layers p field → IsFieldWithin (total layers) (IsListed layers p) field
  field_within edge.None names = tt
  field_within (edge.GraphPosition pos) names = omega (arith, names.1, counted)
  field_within (edge.ExtraEdgeIndex index) names = names

  field_true : (field : ParentEdge) → NamesParents layers p field → IsFieldTrue (told_of layers) (Lies layers p) p field
  field_true edge.None names = tt
  field_true (edge.GraphPosition pos) names = names
  field_true (edge.ExtraEdgeIndex index) names = λ l lies q contained within.
      (names l lies.0 lies.1).parents q contained

  field_names : (field : ParentEdge) (q : ℕ) → Names layers p field q → FieldNames (list_in layers) (Lies layers p) field q
  field_names edge.None q names = names
  field_names (edge.GraphPosition pos) q names = names
  field_names (edge.ExtraEdgeIndex index) q names = λ l lies.
      contained_in layers names.0 l index q (one names.0 l names.1 lies.0 names.2 lies.1) names.3

  fields_told : (fields : ParentEdge × ParentEdge) → AreParentFields layers p fields
      → AreFieldsTold (told_of layers) (Lies layers p) p fields
  fields_told fields are = record {
    first = field_true fields.0 are.first;
    second = field_true fields.1 are.second;
    all = λ q parent.
        ⊎_elim
        (λ (names : Names layers p fields.0 q). inl (field_names fields.0 q names))
        (λ (names : Names layers p fields.1 q). inr (field_names fields.1 q names))
        (are.all q parent);
  }

  pub fields_read : (fields : ParentEdge × ParentEdge) → AreParentFields layers p fields
      → AreFieldsRead (total layers) (IsListed layers) (Lies layers) (Says layers) p fields
  fields_read fields are = record {
    first = field_within fields.0 are.first;
    second = field_within fields.1 are.second;
    told = λ t is. subst (λ (x : Told). AreFieldsTold x (Lies layers p) p fields) (sym is) (fields_told fields are);
  }

  -- a word that is listed
  module _ (l index : ℕ) (layer : Layer) (lies : LiesIn layers p l layer) (listed : IsListed layers p index) where
    reading : IsReading (history_of layers) (list_in layers l) p index
    reading = listed l layer lies

    next_listed : (word : ExtraEdge) → extra_edge_of (get_or (list_in layers l) index 0) ≡ word
        → IsNextListed (length (list_in layers l)) (IsListed layers p) index word
    next_listed (extra.Last pos) is = tt
    next_listed (extra.Internal pos) is =
        let goes_on = reading_goes_on (history_of layers) (list_in layers l) p index reading pos is in (
          reading_within (history_of layers) (list_in layers l) p (index + 1) goes_on,
          (λ m other at. subst (λ (k : ℕ). IsReading (history_of layers) (list_in layers k) p (index + 1))
              (one l m layer other lies at) goes_on),
        )

    pub word_read : (word : ExtraEdge) → word ≡ extra_edge_of (get_or (list_in layers l) index 0)
        → IsWordRead (total layers) (length (list_in layers l)) (IsListed layers) (Says layers) p l index word
    word_read word is = record {
      commit = omega (arith, counted, (next_is_parent (history_of layers) (list_in layers l) p index reading word (sym is)).1);
      next = next_listed word (sym is);
      told = λ t same. subst (λ (x : Told). IsWordTold x l index word) (sym same)
          (record { there = reading_within (history_of layers) (list_in layers l) p index reading; says = is });
    }
