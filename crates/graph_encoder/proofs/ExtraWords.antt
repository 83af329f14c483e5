-- laws of extra words
use Rattle.std.proofs.Common.{◌≡◌, ℕ, suc, ◌+◌, ◌-◌, ◌<◌, ◌≤◌, List, [], ◌∷◌, ◌++◌, length, drop, get_or, take, refl, sym, ap}
use Rattle.std.proofs.Common.{◌∙◌, arith, length-append, add-one}
use Rattle.std.proofs.lemmas.List.{drop_more, drop_all, take_more, take_all, length-take-le}
use Rattle.graph_encoder.specs.declared.plan.PlanCommit.{PlanCommit}
use Rattle.graph_encoder.specs.ExtraEdges.{top_bit, listed_words, extra_words, all_extra_words}

length-listed_words : (parent : ℕ) (more : List ℕ) → length (listed_words parent more) ≡ suc (length more)
length-listed_words parent [] = refl
length-listed_words parent (next ∷ more) = ap suc (length-listed_words next more)

pub length-extra_words_many : (parents : List ℕ) → 2 < length parents → length (extra_words parents) ≡ length parents - 1
length-extra_words_many [] h = absurd (omega (arith, h))
length-extra_words_many (first ∷ []) h = absurd (omega (arith, h))
length-extra_words_many (first ∷ second ∷ []) h = absurd (omega (arith, h))
length-extra_words_many (first ∷ second ∷ third ∷ more) h = omega (arith, length-listed_words second (third ∷ more))

pub length-extra_words_few : (parents : List ℕ) → length parents ≤ 2 → length (extra_words parents) ≡ 0
length-extra_words_few [] h = refl
length-extra_words_few (first ∷ []) h = refl
length-extra_words_few (first ∷ second ∷ []) h = refl
length-extra_words_few (first ∷ second ∷ third ∷ more) h = absurd (omega (arith, h))

pub length-extra_words-le : (parents : List ℕ) → length (extra_words parents) ≤ length parents
length-extra_words-le [] = omega arith
length-extra_words-le (first ∷ []) = omega arith
length-extra_words-le (first ∷ second ∷ []) = omega arith
length-extra_words-le (first ∷ second ∷ third ∷ more) = omega (arith, length-listed_words second (third ∷ more))

pub ruleset counted = (length-extra_words_many, length-extra_words_few)

-- the words of the commits from one on
pub all_extra_words-drop : (commits : List PlanCommit) (i : ℕ) (d : PlanCommit) → i < length commits
    → all_extra_words (drop i commits) ≡ extra_words (get_or commits i d).parents.items ++ all_extra_words (drop (i + 1) commits)
unfolding all_extra_words
all_extra_words-drop commits i d h = ap all_extra_words (drop_more commits i d h)

-- a list of more than two parents: those between the first and the last, and the last
listed_words-last : (parent : ℕ) (between : List ℕ) (last : ℕ)
    → listed_words parent (between ++ last ∷ []) ≡ (parent ∷ between) ++ (top_bit + last) ∷ []
listed_words-last parent [] last = refl
listed_words-last parent (next ∷ between) last = ap (λ (ws : List ℕ). parent ∷ ws) (listed_words-last next between last)

pub extra_words-last : (first : ℕ) (between : List ℕ) (last : ℕ) → 0 < length between
    → extra_words (first ∷ (between ++ last ∷ [])) ≡ between ++ (top_bit + last) ∷ []
extra_words-last first [] last h = absurd (omega (arith, h))
extra_words-last first (second ∷ []) last h = refl
extra_words-last first (second ∷ third ∷ between) last h = listed_words-last second (third ∷ between) last

-- the same, by places in the list
pub extra_words-places : (parents : List ℕ) (d : ℕ) → 2 < length parents
    → extra_words parents ≡ take (length parents - 1 - 1) (drop 1 parents) ++ (top_bit + get_or parents (length parents - 1) d)
    ∷ []
extra_words-places [] d h = absurd (omega (arith, h))
extra_words-places (first ∷ more) d h =
    let n : ℕ = length more - 1 in
    let long : length more - 1 < length more = omega (arith, h) in
    let count : length more - 1 + 1 ≡ length more = omega (arith, h) in
    let whole : take (length more - 1) more ++ get_or more (length more - 1) d ∷ [] ≡ more =
    sym (take_more more (length more - 1) d long) ∙ take_all (length more - 1 + 1) more (omega (arith, count)) in
    let between : length (take (length more - 1) more) ≡ length more - 1 = length-take-le (length more - 1) more (omega arith) in
    let place : get_or (first ∷ more) (length more - 1 + 1) d ≡ get_or more (length more - 1) d =
    ap (λ (i : ℕ). get_or (first ∷ more) i d) (add-one (length more - 1)) in
    let last : ℕ = get_or more (length more - 1) d in
    ap (λ (xs : List ℕ). extra_words (first ∷ xs)) (sym whole)
    ∙ extra_words-last first (take (length more - 1) more) (get_or more (length more - 1) d) (omega (arith, h, between))
    ∙ ap (λ (i : ℕ). take i more ++ (top_bit + get_or more (length more - 1) d) ∷ [])
    (let same : length more - 1 ≡ suc (length more) - 1 - 1 = omega arith in same)
    ∙ ap (λ (k : ℕ). take (suc (length more) - 1 - 1) more ++ (top_bit + k) ∷ []) (sym place
    ∙ ap (λ (i : ℕ). get_or (first ∷ more) i d) (let same : length more - 1 + 1 ≡ suc (length more) - 1 = omega (arith, h) in
    same))

-- one more commit's words
pub words-step : (commits : List PlanCommit) (i words count all : ℕ) (commit : PlanCommit) → i < length commits
    → commit ≡ get_or commits i commit → count ≡ length (extra_words commit.parents.items)
    → words + length (all_extra_words (drop i commits)) ≡ all
    → words + count + length (all_extra_words (drop (i + 1) commits)) ≡ all
words-step commits i words count all commit h e k w =
    let here : length (extra_words (get_or commits i commit).parents.items) ≡ count =
    ap (λ (c : PlanCommit). length (extra_words c.parents.items)) (sym e) ∙ sym k in
    omega (
      arith,
      w,
      here,
      ap length (all_extra_words-drop commits i commit h),
      length-append (extra_words (get_or commits i commit).parents.items) (all_extra_words (drop (i + 1) commits)),
    )

pub words-end : (commits : List PlanCommit) (i words all : ℕ) → length commits ≤ i
    → words + length (all_extra_words (drop i commits)) ≡ all → words ≡ all
unfolding all_extra_words
words-end commits i words all h e =
    omega (arith, sym e, ap (λ (cs : List PlanCommit). length (all_extra_words cs)) (drop_all i commits h))

pub extra_words-few : (parents : List ℕ) → length parents ≤ 2 → extra_words parents ≡ []
extra_words-few [] h = refl
extra_words-few (first ∷ []) h = refl
extra_words-few (first ∷ second ∷ []) h = refl
extra_words-few (first ∷ second ∷ third ∷ more) h = absurd (omega (arith, h))
