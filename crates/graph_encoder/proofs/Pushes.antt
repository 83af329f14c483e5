-- laws of a file that grows at its end
use Rattle.std.proofs.Common.{◌≡◌, ℕ, ◌+◌, ◌<◌, ◌≤◌, List, [], ◌∷◌, ◌++◌, length, take, drop, get_or, refl, sym, ap, ◌∙◌}
use Rattle.std.proofs.Common.{append_assoc, append-nil}
use Rattle.std.specs.List.{flat_map}
use Rattle.std.proofs.Common.{Bool, true, false, cond}
use Rattle.std.proofs.lemmas.List.Elements.{filter_more}
use Rattle.std.proofs.lemmas.List.{take_more, take_all, drop_more, flat_map_more}
use Rattle.std.proofs.lemmas.Grind.{flat_map-append}
use Rattle.graph_encoder.specs.declared.plan.PlanCommit.{PlanCommit}
use Rattle.graph_encoder.specs.ExtraEdges.{extra_words, all_extra_words}
use Rattle.graph_encoder.specs.Chunks.{word_bytes, long_bytes}
use Rattle.graph_encoder.specs.DateOffsets.{is_large, large_offsets}
use Rattle.graph_encoder.specs.Written.{words_bytes, longs_bytes, record_bytes, records_from}

-- no words yet, one more word, and all words
pub words_bytes-nil : (old : List ℕ) → old ≡ old ++ words_bytes []
unfolding words_bytes
words_bytes-nil old = sym (append-nil old)

pub words_bytes-more : (old before now ns : List ℕ) (i d : ℕ) → before ≡ old ++ words_bytes (take i ns)
    → now ≡ before ++ word_bytes (get_or ns i d) → i < length ns → now ≡ old ++ words_bytes (take (i + 1) ns)
unfolding words_bytes
words_bytes-more old before now ns i d h e k =
    e
    ∙ ap (λ (xs : List ℕ). xs ++ word_bytes (get_or ns i d)) h
    ∙ flat_map_more word_bytes old (take i ns) (get_or ns i d)
    ∙ ap (λ (xs : List ℕ). old ++ flat_map word_bytes xs) (sym (take_more ns i d k))

-- all words, and one more
pub words_bytes-last : (old before now ns : List ℕ) (i n : ℕ) → before ≡ old ++ words_bytes (take i ns)
    → now ≡ before ++ word_bytes n → length ns ≤ i → now ≡ old ++ words_bytes (ns ++ n ∷ [])
unfolding words_bytes
words_bytes-last old before now ns i n h e k =
    e
    ∙ ap (λ (xs : List ℕ). xs ++ word_bytes n) (h ∙ ap (λ (xs : List ℕ). old ++ flat_map word_bytes xs) (take_all i ns k))
    ∙ flat_map_more word_bytes old ns n

-- no long numbers yet, and one more offset, which is written if it is large
pub longs_bytes-nil : (old : List ℕ) → old ≡ old ++ longs_bytes []
unfolding longs_bytes
longs_bytes-nil old = sym (append-nil old)

pub large-more : (old before now offsets : List ℕ) (i : ℕ) (b : Bool) → i < length offsets
    → before ≡ old ++ longs_bytes (large_offsets (take i offsets)) → b ≡ is_large (get_or offsets i 0)
    → now ≡ before ++ cond b (long_bytes (get_or offsets i 0)) []
    → now ≡ old ++ longs_bytes (large_offsets (take (i + 1) offsets))
unfolding longs_bytes
large-more old before now offsets i true h e k w =
    let more : large_offsets (take (i + 1) offsets) ≡ large_offsets (take i offsets) ++ get_or offsets i 0 ∷ [] =
    filter_more is_large offsets i 0 h
    ∙ ap (λ (b : Bool). large_offsets (take i offsets) ++ cond b (get_or offsets i 0 ∷ []) []) (sym k) in
    w
    ∙ ap (λ (bytes : List ℕ). bytes ++ long_bytes (get_or offsets i 0)) e
    ∙ flat_map_more long_bytes old (large_offsets (take i offsets)) (get_or offsets i 0)
    ∙ ap (λ (ns : List ℕ). old ++ flat_map long_bytes ns) (sym more)
large-more old before now offsets i false h e k w =
    let more : large_offsets (take (i + 1) offsets) ≡ large_offsets (take i offsets) =
    filter_more is_large offsets i 0 h
    ∙ ap (λ (b : Bool). large_offsets (take i offsets) ++ cond b (get_or offsets i 0 ∷ []) []) (sym k)
    ∙ append-nil (large_offsets (take i offsets)) in
    w ∙ append-nil before ∙ e ∙ ap (λ (ns : List ℕ). old ++ flat_map long_bytes ns) (sym more)

-- the extra words of all commits, as those of each
pub words_bytes-all : (commits : List PlanCommit)
    → words_bytes (all_extra_words commits) ≡ flat_map (λ c. words_bytes (extra_words c.parents.items)) commits
unfolding words_bytes all_extra_words
words_bytes-all [] = refl
words_bytes-all (commit ∷ commits) =
    flat_map-append word_bytes (extra_words commit.parents.items) (all_extra_words commits)
    ∙ ap (λ (bytes : List ℕ). words_bytes (extra_words commit.parents.items) ++ bytes) (words_bytes-all commits)

-- one more record
pub records-step : (commits : List PlanCommit) (i index count : ℕ) (commit : PlanCommit) (before now all : List ℕ)
    → i < length commits → commit ≡ get_or commits i commit → count ≡ length (extra_words commit.parents.items)
    → now ≡ before ++ record_bytes index commit → before ++ records_from index (drop i commits) ≡ all
    → now ++ records_from (index + count) (drop (i + 1) commits) ≡ all
records-step commits i index count commit before now all h e k w a =
    let left : drop i commits ≡ commit ∷ drop (i + 1) commits = drop_more commits i commit h
    ∙ ap (λ (c : PlanCommit). c ∷ drop (i + 1) commits) (sym e) in
    ap (λ (bytes : List ℕ). bytes ++ records_from (index + count) (drop (i + 1) commits)) w
    ∙ append_assoc before (record_bytes index commit) (records_from (index + count) (drop (i + 1) commits))
    ∙ ap (λ (n : ℕ). before ++ (record_bytes index commit ++ records_from (index + n) (drop (i + 1) commits))) k
    ∙ ap (λ (cs : List PlanCommit). before ++ records_from index cs) (sym left)
    ∙ a
