-- Two graphs that match one stream have the same commits.
use Rattle.std.proofs.Common.{◌≡◌, ℕ, zero, suc, ◌+◌, ◌<◌, List, [], ◌∷◌, ◌++◌, length, get_or, refl, sym}
use Rattle.std.proofs.Common.{ap, ◌∙◌, arith, append-nil, subst}
use Rattle.std.specs.Prelude.{All, Contains, Some, option_map, IsSomeAnd}
use Rattle.std.proofs.lemmas.List.{length-append}
use Rattle.std.proofs.lemmas.Option.{slice_get-get_or, get_or_from_slice_get}
use Rattle.gix_hash_core.specs.declared.kind.Kind.{Kind}
use Rattle.graph_format.specs.Layer.{Layer, record_at}
use Rattle.gix_commitgraph.specs.Graph.{graph_ids, total}
use Rattle.gix_commitgraph.proofs.layers.GraphLemmas.{counted}
use Rattle.commit_objects.specs.CommitContents.{Said, Says}
use Rattle.commit_objects.specs.Object.{object_id_of}
use Rattle.commit_objects.specs.Time.{IsTime}
use Rattle.commit_objects.proofs.ParentLemmas.{says_one}
use Rattle.object_stream.specs.BatchEntry.{object_line, object_entry, BeginsWithEntry}
use Rattle.graph_objects.specs.Matching.{MatchesAt, recorded_parents, each_known}
use Rattle.graph_objects.specs.OneGraph.{SayTheSameAt, HaveTheSameCommits, HaveNoTwoContents}
use Rattle.graph_objects.specs.Stream.{graph_id_at, entries_of, AllMatch, IsStreamOf}
use Rattle.graph_objects.proofs.CommitLemmas.{of_layer}
use Rattle.graph_objects.proofs.DigestLemmas.{matched, matched-id}
use Rattle.object_stream.proofs.OnceLemmas.{entry_once}
use Rattle.object_stream.specs.declared.object_type.ObjectType.TheVariants as object

-- the contents at a place match the commit there
match_at : (layers : List Layer) (first : ℕ) (all : List (List ℕ)) → AllMatch layers first all → (k : ℕ) → k < length all
    → MatchesAt layers (first + k) (get_or all k [])
match_at layers first [] matches k within = absurd (omega (arith, within))
match_at layers first (c ∷ all) matches zero within =
    subst (λ p. MatchesAt layers p c) (omega arith) matches.0.0
match_at layers first (c ∷ all) matches (suc k) within =
    subst (λ p. MatchesAt layers p (get_or all k [])) (omega arith)
    (match_at layers (first + 1) all matches.1 k (omega (arith, within)))

contains_at : (all : List (List ℕ)) (k : ℕ) → k < length all → Contains all (get_or all k [])
contains_at all k within =
    (k, within, get_or_from_slice_get all k (get_or all k []) (get_or all k []) (slice_get-get_or all k [] within))

-- the ids of commits of one kind are as long
module _ (one other : List Layer) (kind : Kind) (one_alike : All (λ layer. layer.kind ≡ kind) one)
    (other_alike : All (λ layer. layer.kind ≡ kind) other) where
  id_of : (layers : List Layer) → All (λ layer. layer.kind ≡ kind) layers → (p : ℕ) (bytes : List ℕ) → MatchesAt layers p bytes
      → graph_id_at layers p ≡ object_id_of kind bytes
  id_of layers alike p bytes matches =
      let m = matched layers p bytes matches in
      let same : m.0.kind ≡ kind = of_layer (λ layer. layer.kind ≡ kind) layers p m.1 m.0 alike m.2 in
      matched-id layers p bytes matches ∙ ap (λ k. object_id_of k bytes) same

  same_contents : (p : ℕ) (cs ds : List (List ℕ)) → AllMatch one p cs → AllMatch other p ds
      → entries_of one p cs ≡ entries_of other p ds → cs ≡ ds
  same_contents p [] [] matched_one matched_other same = refl
  same_contents p [] (d ∷ ds) matched_one matched_other same =
      absurd (omega (
        arith,
        ap length same,
        length-append (object_entry object.Commit (graph_id_at other p) d) (entries_of other (p + 1) ds),
        length-append (object_line object.Commit (graph_id_at other p) (length d)) (10 ∷ (d ++ 10 ∷ [])),
      ))
  same_contents p (c ∷ cs) [] matched_one matched_other same =
      absurd (omega (
        arith,
        ap length same,
        length-append (object_entry object.Commit (graph_id_at one p) c) (entries_of one (p + 1) cs),
        length-append (object_line object.Commit (graph_id_at one p) (length c)) (10 ∷ (c ++ 10 ∷ [])),
      ))
  same_contents p (c ∷ cs) (d ∷ ds) matched_one matched_other same =
      let matches = matched_one.0.0 in
      let also = matched_other.0.0 in
      let bytes = entries_of one p (c ∷ cs) in
      let first : BeginsWithEntry object.Commit (object_id_of kind c) bytes c (entries_of one (p + 1) cs) =
      subst (λ id. BeginsWithEntry object.Commit id bytes c (entries_of one (p + 1) cs)) (id_of one one_alike p c matches)
      (record { whole = refl; fits = matched_one.0.1 }) in
      let second : BeginsWithEntry object.Commit (object_id_of kind d) bytes d (entries_of other (p + 1) ds) =
      subst (λ id. BeginsWithEntry object.Commit id bytes d (entries_of other (p + 1) ds)) (id_of other other_alike p d also)
      (record { whole = same; fits = matched_other.0.1 }) in
      let parts = entry_once kind object.Commit bytes c d (entries_of one (p + 1) cs)
      (entries_of other (p + 1) ds) first second in
      let rest = same_contents (p + 1) cs ds matched_one.1 matched_other.1 parts.1 in
      cc (parts.0, rest)

  -- what a commit says that both match
  pub said_by_both : (p : ℕ) (bytes : List ℕ) (first : MatchesAt one p bytes) (second : MatchesAt other p bytes)
      → (matched one p bytes first).3.said ≡ (matched other p bytes second).3.said
  said_by_both p bytes first second =
      let a = matched one p bytes first in
      let b = matched other p bytes second in
      let a_kind : a.0.kind ≡ kind = of_layer (λ layer. layer.kind ≡ kind) one p a.1 a.0 one_alike a.2 in
      let b_kind : b.0.kind ≡ kind = of_layer (λ layer. layer.kind ≡ kind) other p b.1 b.0 other_alike b.2 in
      says_one kind bytes a.3.said b.3.said (subst (λ k. Says k bytes a.3.said) a_kind a.3.says)
      (subst (λ k. Says k bytes b.3.said) b_kind b.3.says)

  -- what the contents of one commit say of it in both
  say_same : (p : ℕ) (bytes : List ℕ) → MatchesAt one p bytes → MatchesAt other p bytes → SayTheSameAt one other p
  say_same p bytes first second =
      let a = matched one p bytes first in
      let b = matched other p bytes second in
      let said : a.3.said ≡ b.3.said = said_by_both p bytes first second in
      let trees = λ (place : Layer × ℕ). (record_at place.0 place.1).tree in
      let times = λ (place : Layer × ℕ). (record_at place.0 place.1).time in
      record {
        id = id_of one one_alike p bytes first ∙ sym (id_of other other_alike p bytes second);
        tree = ap (option_map trees) a.2
            ∙ ap Some (a.3.agree.tree ∙ ap (λ (s : Said). s.tree) said ∙ sym b.3.agree.tree)
            ∙ sym (ap (option_map trees) b.2);
        parents = ap (option_map (λ place. recorded_parents one place.0 place.1)) a.2
            ∙ ap Some (a.3.agree.parents ∙ ap (λ (s : Said). each_known s.parents) said ∙ sym b.3.agree.parents)
            ∙ sym (ap (option_map (λ place. recorded_parents other place.0 place.1)) b.2);
        text = a.3.said.rest;
        times = (
          subst (λ o. IsSomeAnd o (IsTime a.3.said.rest)) (sym (ap (option_map times) a.2)) a.3.agree.time,
          subst (λ o. IsSomeAnd o (IsTime a.3.said.rest)) (sym (ap (option_map times) b.2))
              (subst (λ (s : Said). IsTime s.rest (record_at b.0 b.1).time) (sym said) b.3.agree.time),
        );
      }

  -- contents that both match at a position
  pub both_match : (bytes : List ℕ) → IsStreamOf one 0 (total one) bytes → IsStreamOf other 0 (total other) bytes
      → (total one ≡ total other)
      × ((p : ℕ) → p < total one → (contents : List ℕ) × MatchesAt one p contents × MatchesAt other p contents)
  both_match bytes first second =
      let cs = first.contents in
      let whole : entries_of one 0 cs ≡ entries_of other 0 second.contents =
      sym (append-nil (entries_of one 0 cs)) ∙ sym first.whole ∙ second.whole
      ∙ append-nil (entries_of other 0 second.contents) in
      let same : cs ≡ second.contents = same_contents 0 cs second.contents first.agree second.agree whole in
      let agree : AllMatch other 0 cs = subst (λ all. AllMatch other 0 all) (sym same) second.agree in (
        omega (arith, first.counted, second.counted, ap length same),
        λ p within.
            (let there : p < length cs = omega (arith, within, first.counted) in
            let from_start : 0 + p ≡ p = omega arith in (
              get_or cs p [],
              subst (λ n. MatchesAt one n (get_or cs p [])) from_start (match_at one 0 cs first.agree p there),
              subst (λ n. MatchesAt other n (get_or cs p [])) from_start (match_at other 0 cs agree p there),
            )),
      )

  pub one_stream : (bytes : List ℕ) → IsStreamOf one 0 (total one) bytes → IsStreamOf other 0 (total other) bytes
      → HaveTheSameCommits one other
  one_stream bytes first second =
      let both = both_match bytes first second in
      record {
        as_many = both.0;
        each = λ p within. (let at = both.1 p within in say_same p at.0 at.1 at.2);
      }

  -- the same of two streams, where no id has two contents
  pub one_by_ids : (bytes more : List ℕ) (first : IsStreamOf one 0 (total one) bytes)
      (second : IsStreamOf other 0 (total other) more)
      → graph_ids one ≡ graph_ids other → HaveNoTwoContents kind first.contents second.contents → HaveTheSameCommits one other
  one_by_ids bytes more first second ids apart =
      let cs = first.contents in
      let ds = second.contents in
      let as_many : total one ≡ total other = sym (counted one).ids ∙ ap length ids ∙ (counted other).ids in
      record {
        as_many = as_many;
        each = λ p within.
            (let there : p < length cs = omega (arith, within, first.counted) in
            let there_too : p < length ds = omega (arith, within, as_many, second.counted) in
            let from_start : 0 + p ≡ p = omega arith in
            let matches : MatchesAt one p (get_or cs p []) =
            subst (λ n. MatchesAt one n (get_or cs p [])) from_start (match_at one 0 cs first.agree p there) in
            let also : MatchesAt other p (get_or ds p []) =
            subst (λ n. MatchesAt other n (get_or ds p [])) from_start (match_at other 0 ds second.agree p there_too) in
            let one_id : object_id_of kind (get_or cs p []) ≡ object_id_of kind (get_or ds p []) =
            sym (id_of one one_alike p (get_or cs p []) matches) ∙ ap (λ all. get_or all p []) ids
            ∙ id_of other other_alike p (get_or ds p []) also in
            let same = apart (get_or cs p []) (get_or ds p []) (contains_at cs p there) (contains_at ds p there_too) one_id in
            say_same p (get_or cs p []) matches (subst (λ c. MatchesAt other p c) (sym same) also));
      }
