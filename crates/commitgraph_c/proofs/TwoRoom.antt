-- comparisons that are told so far
use Rattle.std.proofs.Common.{◌≡◌, refl, sym, ap, subst, ◌∙◌, ℕ, suc, ◌+◌, ◌-◌, ◌^◌, ◌<◌, ◌≤◌, inl, inr, List, [], ◌∷◌, ◌++◌}
use Rattle.std.proofs.Common.{length, take, drop, map, min, set, get_or, arith, length-append}
use Rattle.std.specs.List.{flat_map}
use Rattle.std.proofs.lemmas.Grind.{flat_map-append}
use Rattle.std.proofs.Math.Seq.{drop-length}
use Rattle.std.proofs.lemmas.Bool.{cases_lt}
use Rattle.std.proofs.lemmas.List.{take_more, take_all, length-map, map-append, append-nil}
use Rattle.graph_format.specs.Layer.{Layer}
use Rattle.c_opening.specs.ComparisonOrder.{IsOrderedComparison}
use Rattle.graph_bases.specs.declared.bases.Comparison.{Comparison}
use Rattle.commitgraph_c.specs.QueryAnswers.{TellsComparison}
use Rattle.c_opening.specs.Answers.{written}
use Rattle.commitgraph_c.specs.Compared.{AreComparisonsOf, TellsCompared, base_positions, told_comparison}
use Rattle.commitgraph_c.specs.declared.bases.CgBases.{CgBases}
use Rattle.commitgraph_c.specs.declared.compare.CgTwo.{CgTwo}
use Rattle.c_opening.proofs.Written.{first_places, none_written, one_more, written_after, written_length}
use Rattle.commitgraph_c.proofs.BlockRoom.{rest_put}
use Rattle.c_opening.proofs.Written.{numbers_length}

-- before the first
pub none_compared : (layers : List Layer) (answers : List CgBases) (room : List ℕ)
    → TellsCompared layers [] 0 answers answers room room
none_compared layers answers room =
    record {
      comparisons = [];
      exact = tt;
      answers_of = sym (none_written answers);
      length_of = refl;
      room = sym (none_written room);
    }

as_many : (layers : List Layer) (twos : List CgTwo) (cs : List Comparison) → AreComparisonsOf layers twos cs
    → length cs ≡ length twos
as_many layers [] [] all = refl
as_many layers [] (c ∷ cs) all = absurd all
as_many layers (t ∷ ts) [] all = absurd all
as_many layers (t ∷ ts) (c ∷ cs) all = ap suc (as_many layers ts cs all.1)

one_exact : (layers : List Layer) (twos : List CgTwo) (cs : List Comparison) (two : CgTwo) (c : Comparison)
    → AreComparisonsOf layers twos cs → IsOrderedComparison layers two.first (two.other ∷ []) c
    → AreComparisonsOf layers (twos ++ two ∷ []) (cs ++ c ∷ [])
one_exact layers [] [] two c all is = (is, tt)
one_exact layers [] (d ∷ ds) two c all is = absurd all
one_exact layers (t ∷ ts) [] two c all is = absurd all
one_exact layers (t ∷ ts) (d ∷ ds) two c all is = (all.0, one_exact layers ts ds two c all.1 is)

-- what is told of a comparison is all that it says
told_all : (c : Comparison) (told : CgBases) (old new : List ℕ) → told.code ≡ 0 → TellsComparison c told old new
    → told ≡ told_comparison c
told_all c told old new none tells =
    λ i. record {
      code = none i;
      ahead = tells.ahead i;
      behind = tells.behind i;
      visits = tells.visits i;
      length = tells.length_of i;
    }

-- what comes after the end of the room is not written
past_the_end : {T : Type 0} (items more room : List T) → length room ≤ length items
    → written (items ++ more) room ≡ written items room
past_the_end [] [] [] le = refl
past_the_end [] (m ∷ more) [] le = refl
past_the_end [] more (x ∷ room) le = absurd (omega (arith, le))
past_the_end (i ∷ items) more [] le = refl
past_the_end (i ∷ items) more (x ∷ room) le = ap (λ r. i ∷ r) (past_the_end items more room (omega (arith, le)))

no_room : {T : Type 0} (items : List T) → written items [] ≡ []
no_room [] = refl
no_room (i ∷ items) = refl

-- the positions of one more, after those before it
more_bases : (bases more room now part : List ℕ) (before used : ℕ) → before ≡ min (length bases) (2 ^ 64 - 1)
    → used ≡ min before (length now) → length room < 2 ^ 64 → now ≡ written bases room → part ≡ written more (drop used now)
    → take used now ++ part ≡ written (bases ++ more) room
more_bases bases more room now part before used counted here few told is =
    let same : length now ≡ length room = ap length told ∙ written_length bases room in
    elim (cases_lt (length room) (length bases)) [
      | inl past ↦
          let all : used ≡ length room = omega (arith, counted, here, few, past, same) in
          let rest : part ≡ [] =
          is ∙ ap (λ n. written more (drop n now)) (all ∙ sym same) ∙ ap (written more) (drop-length now) ∙ no_room more in
          ap (λ n. take n now ++ part) (all ∙ sym same) ∙ ap (λ xs. xs ++ part) (take_all (length now) now (omega arith))
          ∙ ap (λ xs. now ++ xs) rest ∙ append-nil now ∙ told ∙ sym (past_the_end bases more room (omega (arith, past)))
      | inr fits ↦
          let all : used ≡ length bases = omega (arith, counted, here, few, fits, same) in
          ap (λ xs. take used now ++ xs) is ∙ ap (λ n. take n now ++ written more (drop n now)) all
          ∙ ap (λ xs. take (length bases) xs ++ written more (drop (length bases) xs)) told ∙ written_after bases more room fits
    ]

-- one pair more
pub next_compared : (layers : List Layer) (twos : List CgTwo) (i : ℕ) (d : CgTwo) (before after used : ℕ)
    (answers answered : List CgBases) (room now part : List ℕ) (c : Comparison) (told : CgBases)
    → i < length twos → i < length answers
    → IsOrderedComparison layers (get_or twos i d).first ((get_or twos i d).other ∷ []) c → told.code ≡ 0
    → TellsComparison c told (drop used now) part → used ≡ min before (length now)
    → after ≡ min (before + told.length) (2 ^ 64 - 1) → length room < 2 ^ 64
    → TellsCompared layers (take i twos) before answers answered room now
    → TellsCompared layers (take (i + 1) twos) after answers (set answered i told) room
    (take used now ++ (part ++ drop (length now - used) (drop used now)))
next_compared layers twos i d before after used answers answered room now part c told below fits is none tells here sum few so =
    let cs = so.comparisons in
    let count : length (map told_comparison cs) ≡ i =
    length-map cs told_comparison ∙ as_many layers (take i twos) cs so.exact ∙ first_places twos i (omega (arith, below)) in
    let flat = flat_map base_positions cs in
    let joined : flat_map base_positions (cs ++ c ∷ []) ≡ flat ++ base_positions c =
    flat_map-append base_positions cs (c ∷ []) ∙ ap (λ xs. flat ++ xs) (append-nil (base_positions c)) in
    let long : length (flat_map base_positions (cs ++ c ∷ [])) ≡ length flat + told.length =
    ap length joined ∙ length-append flat (base_positions c)
    ∙ ap (λ n. length flat + n) (numbers_length c.bases.positions.items ∙ sym tells.length_of) in
    record {
      comparisons = cs ++ c ∷ [];
      exact =
          subst (λ ts. AreComparisonsOf layers ts (cs ++ c ∷ [])) (sym (take_more twos i d below))
          (one_exact layers (take i twos) cs (get_or twos i d) c so.exact is);
      answers_of =
          ap (λ xs. set xs i told) so.answers_of
          ∙ ap (λ k. set (written (map told_comparison cs) answers) k told) (sym count)
          ∙ ap (λ x. set (written (map told_comparison cs) answers) (length (map told_comparison cs)) x)
          (told_all c told (drop used now) part none tells)
          ∙ one_more (map told_comparison cs) (told_comparison c) answers (omega (arith, count, fits))
          ∙ ap (λ xs. written xs answers) (sym (map-append told_comparison cs (c ∷ [])));
      length_of = let was = so.length_of in omega (arith, long, was, sum);
      room =
          rest_put used now part
          ∙ more_bases flat (base_positions c) room now part before used so.length_of here few so.room tells.room
          ∙ ap (λ xs. written xs room) (sym joined);
    }
