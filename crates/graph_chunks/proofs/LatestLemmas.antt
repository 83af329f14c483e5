-- How the latest date of parents is found, along an extra edge list from its last word to its first.
use Rattle.std.proofs.Common.{◌≡◌, ℕ, zero, suc, ◌+◌, ◌<◌, ◌≤◌, ◌^◌, List, [], ◌∷◌, Option, Some, None, unwrap_or, option_map}
use Rattle.std.proofs.Common.{length, map, max, get_or, drop, refl, sym, ap, ◌∙◌, subst, arith, add-one}
use Rattle.std.proofs.Math.ListN.{set}
use Rattle.std.proofs.Math.Seq.{drop-cons}
use Rattle.std.proofs.lemmas.List.{drop_all, drop-set}
use Rattle.graph_walks.specs.Counts.{greatest}
use Rattle.graph_walks.specs.Dates.{number_at}
use Rattle.graph_walks.proofs.GreatestLemmas.{greatest-cons}
use Rattle.graph_format.specs.Format.{words}
use Rattle.graph_format.specs.Layer.{Layer}
use Rattle.graph_format.specs.Parents.{DecodedParents, no_parents, followed_by, listed}
use Rattle.graph_format.specs.Parents.{both_parents, second_parents, extra_parent, extra_edge_of}
use Rattle.graph_format.specs.declared.parents.ParentEdge.{ParentEdge}
use Rattle.graph_format.specs.declared.Position.{Position}
use Rattle.graph_format.specs.declared.parents.ParentEdge.TheVariants.{GraphPosition, ExtraEdgeIndex}
use Rattle.graph_chunks.specs.Latest.{latest_of, AreLatest, words_in, HasRoomForLists}

pub latest-followed : (dates : List ℕ) (parents : DecodedParents) (pos : Position) (rest : ℕ) → rest ≡ latest_of dates parents
    → max (number_at dates pos.0) rest ≡ latest_of dates (followed_by pos parents)
latest-followed dates parents pos rest is =
    omega (arith, is, greatest-cons (number_at dates pos.0) (map (number_at dates) (map (λ q. q.0) parents.positions)))

pub latest-alone : (dates : List ℕ) (pos : Position) → number_at dates pos.0 ≡ latest_of dates (followed_by pos no_parents)
latest-alone dates pos = omega (arith, greatest-cons (number_at dates pos.0) [])

-- both fields of a commit, the first of which is a parent's position
pub latest-both : (dates : List ℕ) (first second : ParentEdge) (edges : Option (List ℕ)) (pos : Position) (rest : ℕ)
    → first ≡ GraphPosition pos → rest ≡ latest_of dates (second_parents second edges)
    → max (number_at dates pos.0) rest ≡ latest_of dates (both_parents first second edges)
latest-both dates first second edges pos rest is latest =
    latest-followed dates (second_parents second edges) pos rest latest
    ∙ ap (λ (edge : ParentEdge). latest_of dates (both_parents edge second edges)) (sym is)

module _ (dates : List ℕ) where
  -- the latest dates of words, of each of the parents that are listed from it on
  abbrev pub AreTold : List ℕ → List ℕ → Type 0
  AreTold [] [] = Unit {0}
  AreTold [] (first ∷ told) = ⊥
  AreTold (word ∷ words) [] = ⊥
  AreTold (word ∷ words) (first ∷ told) = (first ≡ latest_of dates (listed (word ∷ words))) × AreTold words told

  told_at : (words told : List ℕ) → AreTold words told → (index : ℕ)
      → get_or told index 0 ≡ latest_of dates (listed (drop index words))
  told_at [] [] all zero = refl
  told_at [] [] all (suc index) = refl
  told_at [] (first ∷ told) all index = absurd all
  told_at (word ∷ words) [] all index = absurd all
  told_at (word ∷ words) (first ∷ told) all zero = all.0
  told_at (word ∷ words) (first ∷ told) all (suc index) = told_at words told all.1 index

  -- for the words from one on, the latest dates are told, and that of the first of them
  pub record AreToldFrom (words latest : List ℕ) (from newest : ℕ) : Type 0 where
    pub told : AreTold (drop from words) (drop from latest)
    pub last : newest ≡ latest_of dates (listed (drop from words))

  pub told-none : (words latest : List ℕ) (from : ℕ) → length words ≤ from → length latest ≤ from
      → AreToldFrom words latest from 0
  told-none words latest from no_words no_dates = record {
    told = rw (drop_all from words no_words, drop_all from latest no_dates) tt;
    last = rw (drop_all from words no_words) refl;
  }

  pub told-more : (words latest : List ℕ) (place from newest next : ℕ) → AreToldFrom words latest from newest → place + 1 ≡ from
      → place < length words → place < length latest
      → ((parents : DecodedParents) → newest ≡ latest_of dates parents
      → next ≡ latest_of dates (extra_parent (extra_edge_of (get_or words place 0)) parents))
      → AreToldFrom words (set latest place next) place next
  told-more words latest place from newest next before last in_words in_latest is =
      let here : next ≡ latest_of dates (listed (get_or words place 0 ∷ drop from words)) =
      is (listed (drop from words)) before.last in
      let first : drop place words ≡ get_or words place 0 ∷ drop from words =
      drop-cons words place 0 in_words ∙ ap (λ (n : ℕ). get_or words place 0 ∷ drop n words) (sym (add-one place) ∙ last) in
      let rest : drop place (set latest place next) ≡ next ∷ drop from latest =
      drop-set latest place next in_latest ∙ ap (λ (n : ℕ). next ∷ drop n latest) last in
      record { told = rw (first, rest) (here, before.told); last = rw first here }

  of_words : (edges : Option (List ℕ)) (index : ℕ) → latest_of dates (listed (drop index (unwrap_or (option_map words edges) [])))
      ≡ latest_of dates (second_parents (ExtraEdgeIndex index) edges)
  of_words None zero = refl
  of_words None (suc index) = refl
  of_words (Some bytes) index = refl

  -- once all words are told of
  pub told-all : (edges : Option (List ℕ)) (listed_words latest : List ℕ) (newest : ℕ) → AreToldFrom listed_words latest 0 newest
      → listed_words ≡ unwrap_or (option_map words edges) [] → AreLatest dates edges latest
  told-all edges listed_words latest newest all is = record {
    each = λ index. told_at listed_words latest all.told index
        ∙ ap (λ (ws : List ℕ). latest_of dates (listed (drop index ws))) is
        ∙ of_words edges index;
  }

-- the words of a layer have room
pub room-for : (layers files : List Layer) (i : ℕ) (layer : Layer) (room : List ℕ) → files ≡ layers → i < length layers
    → layer ≡ get_or files i layer → HasRoomForLists layers room → length (words_in layer) ≤ length room
room-for layers files i layer room same within is fits =
    let here : layer ≡ get_or layers i layer = is ∙ ap (λ (ls : List Layer). get_or ls i layer) same in
    subst (λ (l : Layer). length (words_in l) ≤ length room) (sym here) (fits i layer within)

greatest-small : (dates : List ℕ) (parents : List Position) → ((p : ℕ) → number_at dates p < 2 ^ 63)
    → greatest (map (number_at dates) (map (λ pos. pos.0) parents)) < 2 ^ 63
greatest-small dates [] small = omega arith
greatest-small dates (pos ∷ parents) small =
    omega (
      arith,
      small pos.0,
      greatest-small dates parents small,
      greatest-cons (number_at dates pos.0) (map (number_at dates) (map (λ q. q.0) parents)),
    )

-- the latest of small dates is small
pub latest-small : (dates : List ℕ) (parents : DecodedParents) → ((p : ℕ) → number_at dates p < 2 ^ 63)
    → latest_of dates parents < 2 ^ 63
latest-small dates parents small = greatest-small dates parents.positions small

pub ruleset latest_laws = (latest-followed, latest-alone)

pub ruleset small_laws = (latest-small)
