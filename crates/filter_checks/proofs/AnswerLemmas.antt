-- What filters answer along paths.
use Rattle.std.proofs.Common.{◌≡◌, ◌≢◌, ℕ, ◌+◌, ◌*◌, ◌/◌, ◌%◌, ◌<◌, List, [], ◌∷◌, Option, Some, None, length, get_or, take}
use Rattle.std.proofs.Common.{refl, sym, ap, ◌∙◌, subst, inl, inr, arith, length-take}
use Rattle.std.specs.Prelude.{All, IsSomeAnd, slice_get}
use Rattle.std.specs.Int.{bit_at}
use Rattle.std.proofs.lemmas.Bool.{cases_lt}
use Rattle.std.proofs.lemmas.List.{take-take, take_all}
use Rattle.std.proofs.lemmas.List.Elements.{All-nil, All-get_or}
use Rattle.std.proofs.lemmas.Nat.Bits.{bit_at_ones}
use Rattle.std.proofs.lemmas.Option.{slice_get-get_or}
use Rattle.changed_paths.specs.Filter.{probe, bit_hit, AllHit, SomeMisses, MayRead}
use Rattle.changed_paths.specs.declared.filters.HashVersion.{HashVersion}
use Rattle.changed_paths.specs.declared.filters.HashVersion.TheVariants.{One, Two}
use Rattle.changed_paths.specs.declared.murmur3.ByteReading.{ByteReading}
use Rattle.changed_paths.specs.declared.murmur3.ByteReading.TheVariants.{Signed, Unsigned}
use Rattle.graph_chunks.specs.GraphFilters.{FiltersOfGraph, IsPossibleBy, IsAbsentBy}
use Rattle.graph_chunks.specs.declared.filters.FilterSettings.{FilterSettings}
use Rattle.path_filters.specs.Touched.{LeadsTo}
use Rattle.path_filters.proofs.ListLemmas.{leads_at, leads_from, leads_alike}
use Rattle.path_filters.proofs.BitLemmas.{bit_in, hit_is}
use Rattle.filter_checks.specs.RightFilters.{IsComputedAt, IsPossibleAt, IsAbsentAt}
use Rattle.filter_checks.specs.Refused.{ArePossibleAlong, IsFirstAbsent, HasClearBitAt}

-- what holds of the filter at a position that is there
pub there : (P : List ℕ → Type 0) (all : FiltersOfGraph) (p : ℕ) → p < length all.filters
    → ((filter : List ℕ) → slice_get all.filters p ≡ Some filter → P filter) → IsSomeAnd (slice_get all.filters p) P
there P all p within f =
    let e = slice_get-get_or all.filters p [] within in
    subst (λ o. IsSomeAnd o P) (sym e) (f (get_or all.filters p []) e)

pub of_there : (P : List ℕ → Type 0) (all : FiltersOfGraph) (p : ℕ) (filter : List ℕ) → slice_get all.filters p ≡ Some filter
    → IsSomeAnd (slice_get all.filters p) P → P filter
of_there P all p filter e h = subst (λ o. IsSomeAnd o P) e h

-- ---- along a path

-- the directories that lead to a path and are shorter than n bytes are possible
abbrev pub ArePossibleBelow : FiltersOfGraph → ℕ → List ℕ → ℕ → Type 0
ArePossibleBelow all p path n = (d : List ℕ) → LeadsTo d path → length d < n → IsPossibleAt all p d

pub no_slash : (all : FiltersOfGraph) (p : ℕ) (path : List ℕ) (i : ℕ) → get_or path i 0 ≢ 47 → ArePossibleBelow all p path i
    → ArePossibleBelow all p path (i + 1)
no_slash all p path i other h d leads short =
    elim (cases_lt (length d) i) [
      | inl k ↦ h d leads k
      | inr k ↦
          let e : i ≡ length d = omega arith in
          absurd (other (ap (λ n. get_or path n 0) e ∙ (leads_at d path leads).2))
    ]

pub one_possible : (all : FiltersOfGraph) (p : ℕ) (path : List ℕ) (i : ℕ) → IsPossibleAt all p (take i path)
    → ArePossibleBelow all p path i → ArePossibleBelow all p path (i + 1)
one_possible all p path i possible h d leads short =
    elim (cases_lt (length d) i) [
      | inl k ↦ h d leads k
      | inr k ↦
          let e : i ≡ length d = omega arith in
          subst (IsPossibleAt all p) (ap (λ n. take n path) e ∙ sym (leads_at d path leads).1) possible
    ]

pub absent_directory : (all : FiltersOfGraph) (p : ℕ) (path : List ℕ) (i : ℕ) → i < length path → get_or path i 0 ≡ 47
    → IsAbsentAt all p (take i path) → ArePossibleBelow all p path i → IsFirstAbsent all p path (take i path)
absent_directory all p path i within slash absent h = record {
  along = inr (leads_from i path within slash);
  absent = absent;
  above = λ d leads.
      let short : length d < i = omega (arith, (leads_at d (take i path) leads).0, length-take i path) in
      h d (leads_alike i path (take i path) d (sym (take-take i i path (omega arith))) (omega arith) leads short) short;
}

pub absent_path : (all : FiltersOfGraph) (p : ℕ) (path : List ℕ) → IsAbsentAt all p path
    → ArePossibleBelow all p path (length path) → IsFirstAbsent all p path (take (length path) path)
absent_path all p path absent h =
    subst (IsFirstAbsent all p path) (sym (take_all (length path) path (omega arith)))
    (record {
      along = inl refl;
      absent = absent;
      above = λ d leads. h d leads (leads_at d path leads).0;
    })

pub all_possible : (all : FiltersOfGraph) (p : ℕ) (path : List ℕ) → IsPossibleAt all p path
    → ArePossibleBelow all p path (length path) → ArePossibleAlong all p path
all_possible all p path possible h text (inl e) = subst (IsPossibleAt all p) (sym e) possible
all_possible all p path possible h text (inr leads) = h text leads (leads_at text path leads).0

-- ---- filters whose bits are all set
full_bit : (filter : List ℕ) (n : ℕ) → All (λ byte. byte ≡ 255) filter → n / 8 < length filter → bit_in filter n ≡ 1
full_bit filter n full within =
    ap (λ b. bit_at b (n % 8)) (All-get_or (λ byte. byte ≡ 255) filter (n / 8) 0 within full)
    ∙ bit_at_ones 8 (n % 8) (omega arith)

full_hits : (reading : ByteReading) (hashes : ℕ) (filter path : List ℕ) → All (λ byte. byte ≡ 255) filter → 0 < length filter
    → AllHit reading hashes filter path
unfolding AllHit
full_hits reading hashes filter path full some i within =
    hit_is filter (probe reading path i)
    ∙ full_bit filter (probe reading path i % (8 * length filter)) full (omega arith)

-- where it answers one path as possible, it answers any so
full_possible : (settings : Option FilterSettings) (filter other path : List ℕ) → All (λ byte. byte ≡ 255) filter
    → 0 < length filter → IsPossibleBy settings filter other → IsPossibleBy settings filter path
full_possible None filter other path full some h = absurd h
full_possible (Some settings) filter other path full some h =
    (h.0, h.1, full_hits h.0 settings.hashes filter path full some)

pub full_answers : (all : FiltersOfGraph) (p : ℕ) (filter other path : List ℕ) → slice_get all.filters p ≡ Some filter
    → All (λ byte. byte ≡ 255) filter → IsPossibleBy all.settings filter other → IsComputedAt all p → IsPossibleAt all p path
full_answers all p filter other path e full possible computed =
    subst (λ o. IsSomeAnd o (λ f. IsPossibleBy all.settings f path)) (sym e)
    (full_possible all.settings filter other path full (of_there (λ f. 0 < length f) all p filter e computed) possible)

-- how the bytes of a path may be read
one_reading : (version : HashVersion) → (reading : ByteReading) × MayRead version reading
one_reading One = (Signed, tt)
one_reading Two = (Unsigned, tt)

never_both : (reading : ByteReading) (hashes : ℕ) (filter path : List ℕ) → AllHit reading hashes filter path
    → ¬ SomeMisses reading hashes filter path
unfolding AllHit SomeMisses
never_both reading hashes filter path hit missed =
    let one : bit_hit filter (probe reading path missed.0) ≡ 1 = hit missed.0 missed.1 in
    let none : bit_hit filter (probe reading path missed.0) ≡ 0 = missed.2 in
    omega arith

-- what answers a path as absent has a bit that is not set
not_full : (settings : Option FilterSettings) (filter path : List ℕ) → 0 < length filter → IsAbsentBy settings filter path
    → ¬ All (λ byte. byte ≡ 255) filter
not_full None filter path some absent full = absurd absent
not_full (Some settings) filter path some absent full =
    let reading = one_reading settings.version in
    never_both reading.0 settings.hashes filter path (full_hits reading.0 settings.hashes filter path full some)
    (absent reading.0 reading.1)

pub absent_is_clear : (all : FiltersOfGraph) (p : ℕ) (filter path : List ℕ) → slice_get all.filters p ≡ Some filter
    → ¬ (length filter ≡ 0) → IsAbsentBy all.settings filter path → HasClearBitAt all p
absent_is_clear all p filter path e some absent =
    subst (λ o. IsSomeAnd o (λ f. ¬ All (λ byte. byte ≡ 255) f)) (sym e)
    (not_full all.settings filter path (omega (arith, some)) absent)

-- no path is both possible and absent
one_answer : (settings : Option FilterSettings) (filter path : List ℕ) → IsPossibleBy settings filter path
    → ¬ IsAbsentBy settings filter path
one_answer None filter path possible absent = absurd possible
one_answer (Some settings) filter path possible absent =
    never_both possible.0 settings.hashes filter path possible.2 (absent possible.0 possible.1)

one_answer_in : (settings : Option FilterSettings) (o : Option (List ℕ)) (path : List ℕ)
    → IsSomeAnd o (λ filter. IsPossibleBy settings filter path) → ¬ IsSomeAnd o (λ filter. IsAbsentBy settings filter path)
one_answer_in settings None path possible absent = absurd possible
one_answer_in settings (Some filter) path possible absent = one_answer settings filter path possible absent

pub not_both : (all : FiltersOfGraph) (p : ℕ) (path : List ℕ) → IsPossibleAt all p path → ¬ IsAbsentAt all p path
not_both all p path = one_answer_in all.settings (slice_get all.filters p) path

some_bytes : (filter : List ℕ) → ¬ All (λ byte. byte ≡ 255) filter → 0 < length filter
some_bytes [] h = absurd (h (All-nil (λ byte. byte ≡ 255)))
some_bytes (x ∷ xs) h = omega arith

clear_is_some : (o : Option (List ℕ)) → IsSomeAnd o (λ filter. ¬ All (λ byte. byte ≡ 255) filter)
    → IsSomeAnd o (λ filter. 0 < length filter)
clear_is_some None h = absurd h
clear_is_some (Some filter) h = some_bytes filter h

pub clear_is_computed : (all : FiltersOfGraph) (p : ℕ) → HasClearBitAt all p → IsComputedAt all p
clear_is_computed all p = clear_is_some (slice_get all.filters p)
