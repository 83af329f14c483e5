-- A history as a search sees it that leaves out the commits below a least rank.
use Rattle.std.proofs.Common.{◌≡◌, ◌≢◌, ◌⊎◌, ℕ, suc, zero, ◌+◌, ◌<◌, ◌≤◌, List, [], ◌∷◌, length, Bool, true, false}
use Rattle.std.proofs.Common.{Result, Option, Some, None, Ok, Err, IfOk, IfSome, IfNone, if◌then◌else◌}
use Rattle.std.proofs.Common.{get_or, nat_lt, refl, sym, ap, ◌∙◌, subst, inl, inr, ⊎_elim, arith}
use Rattle.std.proofs.lemmas.Bool.{cases_lt, lt-ltb, le-ltb}
use Rattle.graph_walks.specs.declared.TheConstants.{GENERATION_NUMBER_MAX}
use Rattle.graph_walks.specs.History.{Node, IsParent, generation_at, parents_at}
use Rattle.graph_walks.specs.Walks.{CountWalks, IsProperAncestor, IsWalkBetween, Reaches}
use Rattle.graph_format.specs.declared.parents.ParentEdge.{ParentEdge}
use Rattle.graph_format.specs.declared.parents.ParentEdge.TheVariants as edge
use Rattle.graph_walks.proofs.WalkPathLemmas.{Path, path_from_between, between_from_path}
use Rattle.commit_search.specs.Cardinality.{AtLeast, AtMost}
use Rattle.commit_search.specs.Positions.{numbers_of}
use Rattle.commit_search.specs.RankedHistory.{AreSearchable, NeverRise, seen_from, seen_history, seen_number, seen_told}
use Rattle.commit_search.specs.Ranks.{Ranking, FallsAlongParents}
use Rattle.commit_search.specs.Source.{Told, AreFieldsRead, AreFieldsTold, IsFieldTrue}
use Rattle.commit_search.specs.WalkAnswer.{IsAbove, IsAboveBoth, IsAnswer, IsAnswerBy, IsAnyAnswer}
use Rattle.commit_search.specs.WalkAnswer.{IsAtOrAbove, IsAtOrAboveBoth, IsShortestWalk, LeadsWithin, MayLead, RanksMayLead}
use Rattle.commit_search.specs.declared.Reached.{Reached}
use Rattle.commit_search.proofs.RankLemmas.{never_rises, falls_along}
use Rattle.commit_search.proofs.ReachLemmas.{reaches_apart, reaches_within, starts_within}

-- where a walk leads from one commit to another, the generation numbers fall, or both are at the cap
pub searchable_falls : (h : List Node) (from to : ℕ) → from ≢ to → AreSearchable h from to → Reaches h from to
    → (generation_at h to < generation_at h from)
    ⊎ ((generation_at h to ≡ GENERATION_NUMBER_MAX) × (generation_at h from ≡ GENERATION_NUMBER_MAX))
searchable_falls h from to apart searchable reaches = searchable.fall (reaches_apart h from to apart reaches)

-- so where generation numbers count walks
pub counted_is_searchable : (h : List Node) (from to : ℕ) → NeverRise h
    → ((p q : ℕ) → IsProperAncestor h p q → generation_at h q < GENERATION_NUMBER_MAX → generation_at h q < generation_at h p)
    → CountWalks h → AreSearchable h from to
counted_is_searchable h from to never falls counts = record {
  never_rise = never;
  fall = λ proper.
      let reaches : Reaches h from to = (proper.0, proper.1) in
      let here = starts_within h from to reaches in
      let there = reaches_within h from to reaches in
      let first = (counts from here).capped in
      let second = (counts to there).capped in
      let rise = never from to reaches in
      ⊎_elim
      (λ (low : generation_at h to < GENERATION_NUMBER_MAX). inl (falls from to proper low))
      (λ (high : GENERATION_NUMBER_MAX ≤ generation_at h to). inr (omega arith, omega arith))
      (cases_lt (generation_at h to) GENERATION_NUMBER_MAX);
}

-- properties of numbers, one of which has the other

pub at_least_map : (n : ℕ) (P Q : ℕ → Type 0) → ((p : ℕ) → P p → Q p) → AtLeast n P → AtLeast n Q
at_least_map n P Q map (ps, len, apart, all) = (ps, len, apart, (λ k d lt. map _ (all k d lt)))

pub at_most_map : (n : ℕ) (P Q : ℕ → Type 0) → ((p : ℕ) → P p → Q p) → AtMost n Q → AtMost n P
at_most_map n P Q map most ps apart all = most ps apart (λ k d lt. map _ (all k d lt))

if_some_map : {X : Type 0} (P Q : X → Type 0) → ((x : X) → P x → Q x) → (o : Option X) → IfSome o P → IfSome o Q
if_some_map P Q map None has = tt
if_some_map P Q map (Some x) has = map x has

if_none_map : {X A B : Type 0} → (A → B) → (o : Option X) → IfNone o A → IfNone o B
if_none_map map None has = map has
if_none_map map (Some x) has = tt

-- the numbers that are seen

low_number : (least rank n : ℕ) → rank < least → seen_number least rank n ≡ 0
low_number least rank n lt = ap (λ (b : Bool). if b then 0 else n) (lt-ltb rank least lt)

high_number : (least rank n : ℕ) → least ≤ rank → seen_number least rank n ≡ n
high_number least rank n le = ap (λ (b : Bool). if b then 0 else n) (le-ltb rank least le)

no_number : (least rank : ℕ) → 0 ≡ seen_number least rank 0
no_number least rank = by_cases (nat_lt rank least) 0 refl where
  by_cases : (b : Bool) (n : ℕ) → n ≡ 0 → n ≡ (if b then 0 else n)
  by_cases true n none = none
  by_cases false n none = refl

-- the commits that are seen
module _ (k : Ranking) (least : ℕ) where
  length_from : (s : ℕ) (h : List Node) → length (seen_from k least s h) ≡ length h
  length_from s [] = refl
  length_from s (node ∷ nodes) = ap suc (length_from (suc s) nodes)

  parents_from : (s : ℕ) (h : List Node) (p : ℕ) → parents_at (seen_from k least s h) p ≡ parents_at h p
  parents_from s [] p = refl
  parents_from s (node ∷ nodes) zero = refl
  parents_from s (node ∷ nodes) (suc p) = parents_from (suc s) nodes p

  number_from : (s : ℕ) (h : List Node) (p : ℕ)
      → generation_at (seen_from k least s h) p ≡ seen_number least (k.rank (s + p)) (generation_at h p)
  number_from s [] p = no_number least (k.rank (s + p))
  number_from s (node ∷ nodes) zero =
      let same : s ≡ s + 0 = omega arith in ap (λ (n : ℕ). seen_number least (k.rank n) node.generation) same
  number_from s (node ∷ nodes) (suc p) =
      let same : suc s + p ≡ s + suc p = omega arith in
      number_from (suc s) nodes p
      ∙ ap (λ (n : ℕ). seen_number least (k.rank n) (generation_at nodes p)) same

  module _ (h : List Node) where
    pub seen_length : length (seen_history k least h) ≡ length h
    seen_length = length_from 0 h

    seen_generation : (p : ℕ) → generation_at (seen_history k least h) p ≡ seen_number least (k.rank p) (generation_at h p)
    seen_generation p =
        let same : 0 + p ≡ p = omega arith in
        number_from 0 h p ∙ ap (λ (n : ℕ). seen_number least (k.rank n) (generation_at h p)) same

    pub parent_seen : (p q : ℕ) → IsParent h p q → IsParent (seen_history k least h) p q
    parent_seen p q parent = (
      omega (arith, parent.0, seen_length),
      omega (arith, parent.1, seen_length),
      rw (parents_from 0 h p) parent.2,
    )

    pub parent_is : (p q : ℕ) → IsParent (seen_history k least h) p q → IsParent h p q
    parent_is p q parent = (
      omega (arith, parent.0, seen_length),
      omega (arith, parent.1, seen_length),
      rw (parents_from 0 h p) at parent.2,
    )

    path_seen : (p q : ℕ) (rest : List ℕ) → Path h p q rest → Path (seen_history k least h) p q rest
    path_seen p q [] w = (w.0, omega (arith, w.1, seen_length))
    path_seen p q (y ∷ rest) w = (parent_seen p y w.0, path_seen y q rest w.1)

    path_is : (p q : ℕ) (rest : List ℕ) → Path (seen_history k least h) p q rest → Path h p q rest
    path_is p q [] w = (w.0, omega (arith, w.1, seen_length))
    path_is p q (y ∷ rest) w = (parent_is p y w.0, path_is y q rest w.1)

    pub walk_seen : (p q : ℕ) (walk : List ℕ) → IsWalkBetween h p q walk → IsWalkBetween (seen_history k least h) p q walk
    walk_seen p q walk between =
        let path = path_from_between h p q walk between in
        subst (λ (w : List ℕ). IsWalkBetween (seen_history k least h) p q w) (sym path.1)
        (between_from_path (seen_history k least h) p q path.0 (path_seen p q path.0 path.2))

    pub walk_is : (p q : ℕ) (walk : List ℕ) → IsWalkBetween (seen_history k least h) p q walk → IsWalkBetween h p q walk
    walk_is p q walk between =
        let path = path_from_between (seen_history k least h) p q walk between in
        subst (λ (w : List ℕ). IsWalkBetween h p q w) (sym path.1)
        (between_from_path h p q path.0 (path_is p q path.0 path.2))

    pub reaches_seen : (p q : ℕ) → Reaches h p q → Reaches (seen_history k least h) p q
    reaches_seen p q reaches = (reaches.0, walk_seen p q reaches.0 reaches.1)

    pub reaches_is : (p q : ℕ) → Reaches (seen_history k least h) p q → Reaches h p q
    reaches_is p q reaches = (reaches.0, walk_is p q reaches.0 reaches.1)

    pub leads_is : (p q n : ℕ) → LeadsWithin (seen_history k least h) p q n → LeadsWithin h p q n
    leads_is p q n led = (led.0, walk_is p q led.0 led.1, led.2)

    shortest_is : (p q : ℕ) (walk : List ℕ) → IsShortestWalk (seen_history k least h) p q walk → IsShortestWalk h p q walk
    shortest_is p q walk shortest = record {
      between = walk_is p q walk shortest.between;
      least = λ other walks. shortest.least other (walk_seen p q other walks);
    }

    pub low_seen : (p : ℕ) → k.rank p < least → generation_at (seen_history k least h) p ≡ 0
    low_seen p low = seen_generation p ∙ low_number least (k.rank p) (generation_at h p) low

    pub high_seen : (p : ℕ) → least ≤ k.rank p → generation_at (seen_history k least h) p ≡ generation_at h p
    high_seen p high = seen_generation p ∙ high_number least (k.rank p) (generation_at h p) high

    -- a number that is seen is the commit's own, or 0
    seen_cases : (p : ℕ) → ((least ≤ k.rank p) × (generation_at (seen_history k least h) p ≡ generation_at h p))
        ⊎ (generation_at (seen_history k least h) p ≡ 0)
    seen_cases p =
        ⊎_elim
        (λ (low : k.rank p < least). inr (low_seen p low))
        (λ (high : least ≤ k.rank p). inl (high, high_seen p high))
        (cases_lt (k.rank p) least)

    module _ (to : ℕ) (is : least ≡ k.rank to) where
      pub to_seen : generation_at (seen_history k least h) to ≡ generation_at h to
      to_seen = high_seen to (omega arith)

      -- what is at or above the number that is seen is so in the history
      pub at_or_above : (from p : ℕ) → IsAtOrAbove (seen_history k least h) from to p → IsAtOrAbove h from to p
      at_or_above from p above =
          let high = above.1 in (
            reaches_is from p above.0,
            ⊎_elim
                (λ (own : (least ≤ k.rank p) × (generation_at (seen_history k least h) p ≡ generation_at h p)).
                omega (arith, own.1, high, to_seen))
                (λ (none : generation_at (seen_history k least h) p ≡ 0). omega (arith, none, high, to_seen))
                (seen_cases p),
          )

      pub at_or_above_both : (from p : ℕ) → 0 < generation_at h to → IsAtOrAbove (seen_history k least h) from to p
          → IsAtOrAboveBoth h k from to p
      at_or_above_both from p some above =
          let high = above.1 in (
            at_or_above from p above,
            ⊎_elim
                (λ (own : (least ≤ k.rank p) × (generation_at (seen_history k least h) p ≡ generation_at h p)).
                omega (arith, own.0, is))
                (λ (none : generation_at (seen_history k least h) p ≡ 0). absurd (omega (arith, none, high, to_seen, some)))
                (seen_cases p),
          )

      -- the numbers that are seen allow no walk that those of the history do not
      pub seen_leads : (from : ℕ) → MayLead (seen_history k least h) from to → MayLead h from to
      seen_leads from leads =
          ⊎_elim
          (λ (own : (least ≤ k.rank from) × (generation_at (seen_history k least h) from ≡ generation_at h from)).
          ⊎_elim
          (λ (falls : generation_at (seen_history k least h) to < generation_at (seen_history k least h) from).
          inl (omega (arith, falls, own.1, to_seen)))
          (λ (at : GENERATION_NUMBER_MAX ≤ generation_at (seen_history k least h) from). inr (omega (arith, at, own.1)))
          leads)
          (λ (none : generation_at (seen_history k least h) from ≡ 0).
          ⊎_elim
          (λ (falls : generation_at (seen_history k least h) to < generation_at (seen_history k least h) from).
          absurd (omega (arith, falls, none)))
          (λ (at : GENERATION_NUMBER_MAX ≤ generation_at (seen_history k least h) from). absurd (omega (arith, at, none)))
          leads)
          (seen_cases from)

      -- where the numbers of the history allow no walk, what is seen neither falls nor is at the cap
      seen_stays : (from : ℕ) → (MayLead h from to → ⊥)
          → generation_at (seen_history k least h) from ≤ generation_at (seen_history k least h) to
      seen_stays from none =
          ⊎_elim
          (λ (falls : generation_at (seen_history k least h) to < generation_at (seen_history k least h) from).
          absurd (none (seen_leads from (inl falls))))
          (λ (stays : generation_at (seen_history k least h) from ≤ generation_at (seen_history k least h) to). stays)
          (cases_lt (generation_at (seen_history k least h) to) (generation_at (seen_history k least h) from))

      seen_below : (from : ℕ) → (MayLead h from to → ⊥) → generation_at (seen_history k least h) from < GENERATION_NUMBER_MAX
      seen_below from none =
          ⊎_elim
          (λ (below : generation_at (seen_history k least h) from < GENERATION_NUMBER_MAX). below)
          (λ (at : GENERATION_NUMBER_MAX ≤ generation_at (seen_history k least h) from). absurd (none (seen_leads from (inr at))))
          (cases_lt (generation_at (seen_history k least h) from) GENERATION_NUMBER_MAX)

      -- an answer by what is seen is one
      pub any_answer : (from : ℕ) (reached : Reached) → IsAnyAnswer (seen_history k least h) from to reached
          → IsAnyAnswer h from to reached
      any_answer from reached answer = record {
        walk = if_some_map _ _ (λ walk between. walk_is from to (numbers_of walk.items) between) reached.walk answer.walk;
        visits = at_least_map _ _ _ (λ p above. at_or_above from p above) answer.visits;
      }

      -- Where both numbers fall along parents, what is seen can be searched.
      module _ (there : to < length h) (along : FallsAlongParents h k) where
        rank_allows : (p : ℕ) → RanksMayLead k p to → least ≤ k.rank p
        rank_allows p leads =
            let capped = along.capped to there in
            ⊎_elim
            (λ (falls : k.rank to < k.rank p). omega arith)
            (λ (at : k.cap ≤ k.rank p). omega arith)
            leads

        pub seen_is_searchable : (from : ℕ) → AreSearchable h from to → AreSearchable (seen_history k least h) from to
        seen_is_searchable from searchable = record {
          never_rise = λ p q walks.
              let reaches = reaches_is p q walks in
              let rise = searchable.never_rise p q reaches in
              let rank = never_rises along p q reaches in
              ⊎_elim
              (λ (own : (least ≤ k.rank q) × (generation_at (seen_history k least h) q ≡ generation_at h q)).
              let same = high_seen p (omega (arith, own.0, rank)) in
              omega (arith, own.1, same, rise))
              (λ (none : generation_at (seen_history k least h) q ≡ 0). omega (arith, none))
              (seen_cases q);
          fall = λ proper.
              let walks : IsProperAncestor h from to = (proper.0, walk_is from to proper.0 proper.1, proper.2) in
              let reaches : Reaches h from to = (proper.0, walk_is from to proper.0 proper.1) in
              let rank = never_rises along from to reaches in
              let same = high_seen from (omega (arith, is, rank)) in
              ⊎_elim
              (λ (falls : generation_at h to < generation_at h from). inl (omega (arith, falls, same, to_seen)))
              (λ (capped : (generation_at h to ≡ GENERATION_NUMBER_MAX) × (generation_at h from ≡ GENERATION_NUMBER_MAX)).
              inr (to_seen ∙ capped.0, same ∙ capped.1))
              (searchable.fall walks);
        }

        pub above_seen : (from p : ℕ) → IsAboveBoth h k from to p → IsAbove (seen_history k least h) from to p
        above_seen from p above =
            let same = high_seen p (rank_allows p above.1) in
            let higher = above.0.1 in
            (reaches_seen from p above.0.0, omega (arith, higher, same, to_seen))

        -- an answer by what is seen is one by both numbers
        pub answer_by : (from : ℕ) (reached : Reached) → 0 < generation_at h to → RanksMayLead k from to
            → IsAnswer (seen_history k least h) from to reached → IsAnswerBy h k from to reached
        answer_by from reached some allowed answer = record {
          walk = if_some_map _ _ (λ walk shortest. shortest_is from to (numbers_of walk.items) shortest) reached.walk answer.walk;
          none = if_none_map (λ none reaches. none (reaches_seen from to reaches)) reached.walk answer.none;
          visits = at_least_map _ _ _ (λ p above. at_or_above_both from p some above) answer.visits;
          walk_visits = answer.walk_visits;
          none_visits = if_none_map (λ most. at_most_map _ _ _ (λ p above. above_seen from p above) most) reached.walk
              answer.none_visits;
          no_visits = λ apart neither. answer.no_visits apart
              (seen_stays from (λ leads. neither (leads, allowed))) (seen_below from (λ leads. neither (leads, allowed)));
        }

-- right generation numbers are at least 1
pub counted_is_some : (h : List Node) (p : ℕ) → p < length h → CountWalks h → 0 < generation_at h p
counted_is_some h p within counts =
    let one : 1 ≤ generation_at h p =
    ((counts p within).counts 1 (omega arith) (omega arith)).0 (p ∷ [], within, refl, refl) in omega arith

-- where the ranks allow no walk
module _ (h : List Node) (k : Ranking) (from to : ℕ) (along : FallsAlongParents h k) (no : RanksMayLead k from to → ⊥) where
  pub ranks_say_no : from ≢ to → Reaches h from to → ⊥
  ranks_say_no apart reaches =
      let rise = never_rises along from to reaches in
      ⊎_elim
      (λ (low : k.rank to < k.cap). no (inl (falls_along along from to (reaches_apart h from to apart reaches) low)))
      (λ (high : k.cap ≤ k.rank to). no (inr (omega arith)))
      (cases_lt (k.rank to) k.cap)

  leads_from : (p : ℕ) → Reaches h from p → RanksMayLead k p to → RanksMayLead k from to
  leads_from p reaches leads =
      let rise = never_rises along from p reaches in
      ⊎_elim
      (λ (falls : k.rank to < k.rank p). inl (omega arith))
      (λ (at : k.cap ≤ k.rank p). inr (omega arith))
      leads

  pub none_above_both : AtMost 0 (IsAboveBoth h k from to)
  none_above_both [] apart all = omega arith
  none_above_both (p ∷ ps) apart all =
      let above = all 0 p (omega arith) in absurd (no (leads_from p above.0.0 above.1))

-- one visit, of a commit itself
pub one_both : (h : List Node) (k : Ranking) (p q : ℕ) → p ≡ q → p < length h → AtLeast 1 (IsAtOrAboveBoth h k p q)
one_both h k p q same within = (p ∷ [], refl, (λ i j d lt lt' same. absurd (omega arith)), at) where
  at : (i d : ℕ) → i < 1 → IsAtOrAboveBoth h k p q (get_or (p ∷ []) i d)
  at zero d lt = (
    ((p ∷ [], record { is_walk = within; first = refl; last = refl }), omega (arith, ap (generation_at h) same)),
    omega (arith, ap (λ (x : ℕ). k.rank x) same),
  )
  at (suc i) d lt = absurd (omega arith)

-- what a source says whose commits are seen so

abbrev pub Seen : (Told → Type 0) → (Told → Ranking) → ℕ → Told → Type 0
Seen says ranking least seen = (x : Told) × says x × (seen ≡ seen_told (ranking x) least x)

field_seen : (k : Ranking) (least : ℕ) (t : Told) (lies : ℕ → Type 0) (p : ℕ) (field : ParentEdge) → IsFieldTrue t lies p field
    → IsFieldTrue (seen_told k least t) lies p field
field_seen k least t lies p edge.None is = tt
field_seen k least t lies p (edge.GraphPosition pos) is = parent_seen k least t.history p pos.0 is
field_seen k least t lies p (edge.ExtraEdgeIndex index) is = λ l there q contained within.
    parent_seen k least t.history p q (is l there q contained (omega (arith, within, seen_length k least t.history)))

fields_told : (k : Ranking) (least : ℕ) (t : Told) (lies : ℕ → Type 0) (p : ℕ) (fields : ParentEdge × ParentEdge)
    → AreFieldsTold t lies p fields → AreFieldsTold (seen_told k least t) lies p fields
fields_told k least t lies p fields are = record {
  first = field_seen k least t lies p fields.0 are.first;
  second = field_seen k least t lies p fields.1 are.second;
  all = λ q parent. are.all q (parent_is k least t.history p q parent);
}

pub fields_seen : {E : Type 0} (count : ℕ) (listed lies : ℕ → ℕ → Type 0) (says : Told → Type 0) (ranking : Told → Ranking)
    (least p : ℕ) (r : Result (ParentEdge × ParentEdge) E) → IfOk r (AreFieldsRead count listed lies says p)
    → IfOk r (AreFieldsRead count listed lies (Seen says ranking least) p)
fields_seen count listed lies says ranking least p (Err e) read = tt
fields_seen count listed lies says ranking least p (Ok fields) read = record {
  first = read.first;
  second = read.second;
  told = λ t (x, said, is). subst (λ (y : Told). AreFieldsTold y (lies p) p fields) (sym is)
      (fields_told (ranking x) least x (lies p) p fields (read.told x said));
}

pub number_seen : {E : Type 0} (says : Told → Type 0) (ranking : Told → Ranking) (least p : ℕ) (r : Result ℕ E)
    → ((x : Told) → says x → least ≤ (ranking x).rank p)
    → IfOk r (λ n. (t : Told) → says t → n ≡ generation_at t.history p)
    → IfOk r (λ n. (t : Told) → Seen says ranking least t → n ≡ generation_at t.history p)
number_seen says ranking least p (Err e) high read = tt
number_seen says ranking least p (Ok n) high read = λ t (x, said, is).
    read x said ∙ sym (high_seen (ranking x) least x.history p (high x said))
    ∙ sym (ap (λ (y : Told). generation_at y.history p) is)

-- A source that says the same however much of it is read, after a search over the commits that are seen.

pub said_before : {A K : Type 0} (known : A → K) (Says : A → Told → Type 0)
    → ((one other : A) (t : Told) → known one ≡ known other → Says one t → Says other t) → (old new later : A) (t : Told)
    → Says later t → later ≡ new → known new ≡ known old → Says old t
said_before known Says steady old new later t said ends same = steady later old t (ap known ends ∙ same) said

pub seen_after : {A : Type 0} (Says : A → Told → Type 0) (ranking other : Told → Ranking) (least low : ℕ) (new later : A)
    (t : Told) → Says later t → later ≡ new → other ≡ ranking → low ≡ least
    → Seen (Says new) other low (seen_told (ranking t) least t)
seen_after {A = A} Says ranking other least low new later t said ends same equal = (
  t,
  subst (λ (a : A). Says a t) ends said,
  ap (λ (r : Told → Ranking). seen_told (r t) least t) (sym same) ∙ ap (λ (n : ℕ). seen_told (other t) n t) (sym equal),
)
