-- One bit set in a filter, and all bits of a path.
use Rattle.std.proofs.Common.{◌≡◌, ◌≢◌, ℕ, ◌+◌, ◌*◌, ◌/◌, ◌%◌, ◌^◌, ◌<◌, ◌≤◌, ◌⊎◌, List, length, get_or, set, refl, sym, ap, ◌∙◌}
use Rattle.std.proofs.Common.{subst, inl, inr, arith, [], ◌∷◌, take, replicate, max, zero, suc}
use Rattle.std.specs.Prelude.{Contains, bit_or}
use Rattle.std.specs.Int.{bit_at, w8}
use Rattle.std.proofs.lemmas.Bool.{cases_eq, cases_lt}
use Rattle.std.proofs.lemmas.List.{get_or-set_same, get_or-set_other, length-set}
use Rattle.std.proofs.lemmas.Nat.Bits.{bit_at_set_same, bit_at_set_other, bit_at-zero}
use Rattle.std.proofs.lemmas.List.{take_more, take_all}
use Rattle.std.proofs.lemmas.List.Elements.{All-more, All-nil, All-weaker, Contains-append_left, Contains-push}
use Rattle.changed_paths.specs.Filter.{bit_hit, probe, first_hash, step_hash, AllHit, HasPaths}
use Rattle.changed_paths.specs.declared.murmur3.ByteReading.{ByteReading}
use Rattle.path_filters.specs.Made.{IsFilterOf, IsProbed}
use Rattle.path_filters.specs.Steps.{AreSet}
use Rattle.path_filters.proofs.ListLemmas.{mod_small}

-- a filter with a bit set
abbrev pub with_bit : List ℕ → ℕ → List ℕ
with_bit f n = set f (n / 8) (bit_or (get_or f (n / 8) 0) (1 * 2 ^ (n % 8) % 2 ^ 8))

-- a bit of a filter
abbrev pub bit_in : List ℕ → ℕ → ℕ
bit_in f n = bit_at (get_or f (n / 8) 0) (n % 8)

pub hit_is : (f : List ℕ) (x : ℕ) → bit_hit f x ≡ bit_in f (x % (8 * length f))
unfolding bit_hit
hit_is f x = refl

bit_same : (f : List ℕ) (n : ℕ) → n / 8 < length f → bit_in (with_bit f n) n ≡ 1
bit_same f n within =
    ap (λ b. bit_at b (n % 8)) (get_or-set_same f (n / 8) _ 0 within)
    ∙ bit_at_set_same w8 (get_or f (n / 8) 0) (n % 8) (omega arith)

bit_other : (f : List ℕ) (n m : ℕ) → n / 8 < length f → m ≢ n → bit_in (with_bit f n) m ≡ bit_in f m
bit_other f n m within ne =
    elim (cases_eq (m / 8) (n / 8)) [
      | inl e ↦
          let apart : m % 8 ≢ n % 8 = λ k. ne (omega (arith, e, k)) in
          ap (λ i. bit_at (get_or (with_bit f n) i 0) (m % 8)) e
          ∙ ap (λ b. bit_at b (m % 8)) (get_or-set_same f (n / 8) _ 0 within)
          ∙ bit_at_set_other w8 (get_or f (n / 8) 0) (n % 8) (omega arith) (m % 8) apart
          ∙ ap (λ i. bit_at (get_or f i 0) (m % 8)) (sym e)
      | inr k ↦ ap (λ b. bit_at b (m % 8)) (get_or-set_other f (n / 8) (m / 8) _ 0 k)
    ]

hit_in : (f : List ℕ) (n x : ℕ) → bit_hit (with_bit f n) x ≡ bit_in (with_bit f n) (x % (8 * length f))
hit_in f n x = hit_is (with_bit f n) x ∙ ap (λ k. bit_in (with_bit f n) (x % (8 * k))) (length-set f (n / 8) _)

place_in : (f : List ℕ) (x n : ℕ) → 0 < length f → n ≡ x % (8 * length f) → n / 8 < length f
place_in f x n some e = omega arith

pub set_hit : (f : List ℕ) (x n : ℕ) → 0 < length f → n ≡ x % (8 * length f) → bit_hit (with_bit f n) x ≡ 1
set_hit f x n some e =
    hit_in f n x ∙ ap (bit_in (with_bit f n)) (sym e) ∙ bit_same f n (place_in f x n some e)

pub set_kept : (f : List ℕ) (x n : ℕ) → 0 < length f → n ≡ x % (8 * length f) → (y : ℕ) → bit_hit f y ≡ 1
    → bit_hit (with_bit f n) y ≡ 1
set_kept f x n some e y h =
    let within = place_in f x n some e in
    elim (cases_eq (y % (8 * length f)) n) [
      | inl same ↦ hit_in f n y ∙ ap (bit_in (with_bit f n)) same ∙ bit_same f n within
      | inr ne ↦ hit_in f n y ∙ bit_other f n (y % (8 * length f)) within ne ∙ sym (hit_is f y) ∙ h
    ]

pub set_others : (f : List ℕ) (x n : ℕ) → 0 < length f → n ≡ x % (8 * length f) → (y : ℕ) → bit_hit (with_bit f n) y ≡ 1
    → (bit_hit f y ≡ 1) ⊎ (n ≡ y % (8 * length f))
set_others f x n some e y h =
    let within = place_in f x n some e in
    elim (cases_eq (y % (8 * length f)) n) [
      | inl same ↦ inr (sym same)
      | inr ne ↦ inl (hit_is f y ∙ sym (bit_other f n (y % (8 * length f)) within ne) ∙ sym (hit_in f n y) ∙ h)
    ]

pub none_set : (reading : ByteReading) (path filter : List ℕ) → AreSet reading path 0 filter filter
none_set reading path filter = record { kept = λ x h. h; no_others = λ x h. inl h }

pub one_more_set : (reading : ByteReading) (path : List ℕ) (i p : ℕ) (before mid after : List ℕ)
    → AreSet reading path i before mid → length after ≡ length mid → p ≡ probe reading path i
    → ((x : ℕ) → bit_hit mid x ≡ 1 → bit_hit after x ≡ 1)
    → ((x : ℕ) → bit_hit after x ≡ 1 → (bit_hit mid x ≡ 1) ⊎ (p % (8 * length mid) ≡ x % (8 * length mid)))
    → AreSet reading path (i + 1) before after
one_more_set reading path i p before mid after h same is kept others = record {
  kept = λ x k. kept x (h.kept x k);
  no_others = λ x k.
      elim (others x k) [
        | inl old ↦
            elim (h.no_others x old) [
              | inl e ↦ inl e
              | inr e ↦
                  inr (
                    e.0,
                    omega (arith, e.1),
                    ap (λ n. probe reading path e.0 % (8 * n)) same ∙ e.2 ∙ ap (λ n. x % (8 * n)) (sym same),
                  )
            ]
        | inr new ↦
            inr (
              i,
              omega arith,
              ap (λ n. probe reading path i % (8 * n)) same ∙ ap (λ q. q % (8 * length mid)) (sym is) ∙ new
                  ∙ ap (λ n. x % (8 * n)) (sym same),
            )
      ];
}

wrapped : (a b : ℕ) → (a + b % 2 ^ 32) % 2 ^ 32 ≡ (a + b) % 2 ^ 32
wrapped a b = omega arith

pub probe_is : (reading : ByteReading) (path : List ℕ) (first step i : ℕ) → first ≡ first_hash reading path
    → step ≡ step_hash reading path → (first + i * step % 2 ^ 32) % 2 ^ 32 ≡ probe reading path i
unfolding probe
probe_is reading path first step i e f =
    wrapped first (i * step) ∙ ap (λ a. (a + i * step) % 2 ^ 32) e ∙ ap (λ b. (first_hash reading path + i * b) % 2 ^ 32) f

pub hits_more : (reading : ByteReading) (path : List ℕ) (i p : ℕ) (mid after : List ℕ) → p ≡ probe reading path i
    → bit_hit after p ≡ 1 → ((x : ℕ) → bit_hit mid x ≡ 1 → bit_hit after x ≡ 1)
    → ((j : ℕ) → j < i → bit_hit mid (probe reading path j) ≡ 1) → (j : ℕ) → j < i + 1
    → bit_hit after (probe reading path j) ≡ 1
hits_more reading path i p mid after is hit kept old j h =
    elim (cases_lt j i) [
      | inl k ↦ kept (probe reading path j) (old j k)
      | inr k ↦
          let e : i ≡ j = omega arith in
          subst (λ n. bit_hit after n ≡ 1) (is ∙ ap (probe reading path) e) hit
    ]

-- what was made of the first paths
pub record IsMadeOf (reading : ByteReading) (hashes : ℕ) (paths : List (List ℕ)) (filter : List ℕ) : Type 0 where
  pub set : HasPaths reading hashes filter paths
  pub no_others : (x : ℕ) → bit_hit filter x ≡ 1 → IsProbed reading hashes paths (8 * length filter) (x % (8 * length filter))

all_kept : (reading : ByteReading) (hashes : ℕ) (before after path : List ℕ)
    → ((x : ℕ) → bit_hit before x ≡ 1 → bit_hit after x ≡ 1) → AllHit reading hashes before path
    → AllHit reading hashes after path
unfolding AllHit
all_kept reading hashes before after path kept h i within = kept (probe reading path i) (h i within)

in_more : (paths : List (List ℕ)) (index : ℕ) (p : List ℕ) → index < length paths → Contains (take index paths) p
    → Contains (take (index + 1) paths) p
in_more paths index p within h =
    subst (λ t. Contains t p) (sym (take_more paths index [] within))
    (Contains-append_left (take index paths) (get_or paths index [] ∷ []) p h)

last_in : (paths : List (List ℕ)) (index : ℕ) (path : List ℕ) → index < length paths → path ≡ get_or paths index []
    → Contains (take (index + 1) paths) path
last_in paths index path within is =
    subst (λ p. Contains (take (index + 1) paths) p) (sym is)
    (subst (λ t. Contains t (get_or paths index [])) (sym (take_more paths index [] within))
    (Contains-push (take index paths) (get_or paths index [])))

pub one_path_more : (reading : ByteReading) (hashes : ℕ) (paths : List (List ℕ)) (index : ℕ) (path before after : List ℕ)
    → index < length paths → path ≡ get_or paths index [] → IsMadeOf reading hashes (take index paths) before
    → length after ≡ length before → AllHit reading hashes after path → AreSet reading path hashes before after
    → IsMadeOf reading hashes (take (index + 1) paths) after
one_path_more reading hashes paths index path before after within is h same hit set = record {
  set =
      All-more (AllHit reading hashes after) paths index [] within
      (All-weaker (AllHit reading hashes before) (AllHit reading hashes after)
      (λ p. all_kept reading hashes before after p set.kept) (take index paths) h.set)
      (subst (λ p. AllHit reading hashes after p) is hit);
  no_others = λ x k.
      elim (set.no_others x k) [
        | inl old ↦
            let probed = h.no_others x old in
            subst (λ n. IsProbed reading hashes (take (index + 1) paths) (8 * n) (x % (8 * n))) (sym same)
            (probed.0, probed.1, in_more paths index probed.0 within probed.2, probed.3, probed.4)
        | inr new ↦ (path, new.0, last_in paths index path within is, new.1, new.2)
      ];
}

pub none_made : (reading : ByteReading) (hashes : ℕ) (filter : List ℕ) → ((x : ℕ) → bit_hit filter x ≡ 1 → ⊥)
    → IsMadeOf reading hashes [] filter
none_made reading hashes filter none = record {
  set = All-nil (AllHit reading hashes filter);
  no_others = λ x k. absurd (none x k);
}

pub all_made : (reading : ByteReading) (bits hashes : ℕ) (paths : List (List ℕ)) (index : ℕ) (filter : List ℕ)
    → length paths ≤ index → length filter ≡ max 1 ((bits * length paths + 7) / 8)
    → IsMadeOf reading hashes (take index paths) filter → IsFilterOf reading bits hashes paths filter
all_made reading bits hashes paths index filter end size h =
    let all : take index paths ≡ paths = take_all index paths end in
    record {
      size = size;
      set = subst (λ t. HasPaths reading hashes filter t) all h.set;
      no_others = λ bit within k.
          subst (λ b. IsProbed reading hashes paths (8 * length filter) b) (mod_small bit (8 * length filter) within)
          (subst (λ t. IsProbed reading hashes t (8 * length filter) (bit % (8 * length filter))) all (h.no_others bit k));
    }

abbrev pub zeros : ℕ → List ℕ
zeros n = replicate n 0

get_zero : (n i : ℕ) → get_or (zeros n) i 0 ≡ 0
get_zero zero i = refl
get_zero (suc n) zero = refl
get_zero (suc n) (suc i) = get_zero n i

-- no bit is set of bytes that are zero
pub clear_hit : (n x : ℕ) → bit_hit (zeros n) x ≡ 1 → ⊥
clear_hit n x set =
    let e = sym (hit_is (zeros n) x) ∙ set in
    let place = x % (8 * length (zeros n)) in
    let zero_here : get_or (zeros n) (place / 8) 0 ≡ 0 = get_zero n (place / 8) in
    let f : bit_in (zeros n) place ≡ 0 = ap (λ b. bit_at b (place % 8)) zero_here ∙ bit_at-zero (place % 8) in
    omega (arith, e, f)
