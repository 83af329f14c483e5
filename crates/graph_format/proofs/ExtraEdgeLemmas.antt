-- What the words of an extra edge list say, by the first of them that has its top bit set.
use Rattle.std.proofs.Common.{◌≡◌, ℕ, zero, suc, ◌+◌, ◌-◌, ◌<◌, ◌≤◌, ◌⊎◌, List, [], ◌∷◌, ◌++◌, map, length, take, drop, get_or}
use Rattle.std.proofs.Common.{Some, None, if◌then◌else◌, inl, inr, ⊎_elim, ap, ◌∙◌, refl, arith, length-drop}
use Rattle.std.proofs.lemmas.Bool.{lt-ltb, le-ltb, cases_lt}
use Rattle.std.proofs.lemmas.List.{drop_all, get_or-drop}
use Rattle.graph_format.specs.Format.{words}
use Rattle.graph_format.specs.Parents.{DecodedParents, position_of, no_parents, faulty, followed_by, extra_parent, listed}
use Rattle.graph_format.specs.Parents.{extra_parents}
use Rattle.graph_format.specs.EdgeLaw.{EndsAt, RunsOut, up_to_last, all_from}
use Rattle.graph_format.specs.declared.parents.ExtraEdge.TheVariants.{Internal, Last}
use Rattle.graph_format.specs.declared.parents.ParentError.TheVariants.{EdgeOverflow}

-- a word without its top bit set, and one with it
listed-internal : (word : ℕ) (rest : List ℕ) → word < 0x80000000
    → listed (word ∷ rest) ≡ followed_by (position_of word) (listed rest)
listed-internal word rest h =
    ap (λ b. extra_parent (if b then Internal (position_of word) else Last (position_of (word - 0x80000000))) (listed rest))
    (lt-ltb word 0x80000000 h)

listed-last : (word : ℕ) (rest : List ℕ) → 0x80000000 ≤ word
    → listed (word ∷ rest) ≡ followed_by (position_of (word - 0x80000000)) no_parents
listed-last word rest h =
    ap (λ b. extra_parent (if b then Internal (position_of word) else Last (position_of (word - 0x80000000))) (listed rest))
    (le-ltb word 0x80000000 h)

-- The word of this index is the first that has its top bit set.
record IsFirstLast (words : List ℕ) (n : ℕ) : Type 0 where
  within : n < length words
  last : 0x80000000 ≤ get_or words n 0
  first : (i : ℕ) → i < n → get_or words i 0 < 0x80000000

-- no word has its top bit set
abbrev HasNoLast : List ℕ → Type 0
HasNoLast words = (i : ℕ) → i < length words → get_or words i 0 < 0x80000000

after_first : (word : ℕ) (rest : List ℕ) (n : ℕ) → IsFirstLast (word ∷ rest) (suc n) → IsFirstLast rest n
after_first word rest n h = record {
  within = omega (arith, h.within);
  last = h.last;
  first = λ i below. h.first (suc i) (omega (arith, below));
}

before_first : (word : ℕ) (rest : List ℕ) (n : ℕ) → word < 0x80000000 → IsFirstLast rest n → IsFirstLast (word ∷ rest) (suc n)
before_first word rest n small h = record {
  within = omega (arith, h.within);
  last = h.last;
  first = each_before;
} where
  each_before : (i : ℕ) → i < suc n → get_or (word ∷ rest) i 0 < 0x80000000
  each_before zero below = small
  each_before (suc i) below = h.first i (omega (arith, below))

no_last : (word : ℕ) (rest : List ℕ) → word < 0x80000000 → HasNoLast rest → HasNoLast (word ∷ rest)
no_last word rest small h zero within = small
no_last word rest small h (suc i) within = h i (omega (arith, within))

listed-ends : (words : List ℕ) (n : ℕ) → IsFirstLast words n
    → listed words ≡ record {
      positions = map position_of (take n words) ++ position_of (get_or words n 0 - 0x80000000) ∷ [];
      fault = None;
    }
listed-ends [] n h = absurd (omega (arith, h.within))
listed-ends (word ∷ rest) zero h = listed-last word rest h.last
listed-ends (word ∷ rest) (suc n) h =
    listed-internal word rest (h.first zero (omega arith))
    ∙ ap (followed_by (position_of word)) (listed-ends rest n (after_first word rest n h))

listed-runs_out : (words : List ℕ) → HasNoLast words
    → listed words ≡ record { positions = map position_of words; fault = Some EdgeOverflow }
listed-runs_out [] h = refl
listed-runs_out (word ∷ rest) h =
    listed-internal word rest (h zero (omega arith))
    ∙ ap (followed_by (position_of word)) (listed-runs_out rest (λ i within. h (suc i) (omega (arith, within))))

listed-either : (words : List ℕ) → ((n : ℕ) × IsFirstLast words n) ⊎ HasNoLast words
listed-either [] = inr (λ i within. absurd (omega (arith, within)))
listed-either (word ∷ rest) =
    ⊎_elim
    (λ (small : word < 0x80000000). ⊎_elim
    (λ (found : (n : ℕ) × IsFirstLast rest n). inl (suc found.0, before_first word rest found.0 small found.1))
    (λ (none : HasNoLast rest). inr (no_last word rest small none))
    (listed-either rest))
    (λ (large : 0x80000000 ≤ word).
    inl (zero, record { within = omega arith; last = large; first = λ i below. absurd (omega (arith, below)) }))
    (cases_lt word 0x80000000)

-- the same of the words from one on
from_word : (words : List ℕ) (k j : ℕ) → EndsAt words k j → IsFirstLast (drop k words) (j - k)
from_word words k j h = record {
  within = omega (arith, h.from, h.within, length-drop k words);
  last = rw get_or-drop (let e : k + (j - k) ≡ j = omega (arith, h.from) in rw e h.last);
  first = λ i below. rw get_or-drop (h.first (k + i) (omega arith) (omega (arith, below, h.from)));
}

pub extra_parents-ends : (bytes : List ℕ) (k j : ℕ) → EndsAt (words bytes) k j
    → extra_parents bytes k ≡ up_to_last (words bytes) k j
extra_parents-ends bytes k j h =
    let at : get_or (drop k (words bytes)) (j - k) 0 ≡ get_or (words bytes) j 0 = get_or-drop k (words bytes) (j - k) 0
    ∙ ap (λ (i : ℕ). get_or (words bytes) i 0) (omega (arith, h.from)) in
    listed-ends (drop k (words bytes)) (j - k) (from_word (words bytes) k j h)
    ∙ ap (λ (word : ℕ). let p : DecodedParents =
    record {
      positions = map position_of (take (j - k) (drop k (words bytes))) ++ position_of (word - 0x80000000) ∷ [];
      fault = None;
    } in p) at

pub extra_parents-runs_out : (bytes : List ℕ) (k : ℕ) → RunsOut (words bytes) k → extra_parents bytes k ≡ all_from (words bytes) k
extra_parents-runs_out bytes k h =
    listed-runs_out (drop k (words bytes)) (λ i within.
    rw get_or-drop (h (k + i) (omega arith) (omega (arith, within, length-drop k (words bytes)))))

pub extra_parents-past : (bytes : List ℕ) (k : ℕ) → length (words bytes) ≤ k → extra_parents bytes k ≡ faulty EdgeOverflow
extra_parents-past bytes k h = ap listed (drop_all k (words bytes) h)

ends_at : (words : List ℕ) (k n : ℕ) → IsFirstLast (drop k words) n → EndsAt words k (k + n)
ends_at words k n h = record {
  from = omega arith;
  within = omega (arith, h.within, length-drop k words);
  last = rw get_or-drop at h.last;
  first = λ i from below.
      let small = h.first (i - k) (omega (arith, from, below)) in
      let e : k + (i - k) ≡ i = omega (arith, from) in
      rw e at (rw get_or-drop at small);
}

pub extra_parents-either : (bytes : List ℕ) (k : ℕ) → ((j : ℕ) × EndsAt (words bytes) k j) ⊎ RunsOut (words bytes) k
extra_parents-either bytes k =
    ⊎_elim
    (λ (found : (n : ℕ) × IsFirstLast (drop k (words bytes)) n). inl (k + found.0, ends_at (words bytes) k found.0 found.1))
    (λ (none : HasNoLast (drop k (words bytes))). inr (λ i from within.
    let small = none (i - k) (omega (arith, from, within, length-drop k (words bytes))) in
    let e : k + (i - k) ≡ i = omega (arith, from) in
    rw e at (rw get_or-drop at small)))
    (listed-either (drop k (words bytes)))

pub ruleset edge_laws = (extra_parents-ends, extra_parents-runs_out, extra_parents-past)
