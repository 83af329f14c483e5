-- What the filters that Git writes say.
use Rattle.std.proofs.Common.{◌≡◌, ℕ, ◌+◌, ◌*◌, ◌/◌, ◌%◌, ◌<◌, List, [], ◌∷◌, length, get_or, sym, ap, ◌∙◌}
use Rattle.std.proofs.Common.{subst, inl, inr, arith, lit<, max, Option}
use Rattle.std.specs.Prelude.{All, Contains}
use Rattle.std.specs.Int.{bit_at}
use Rattle.std.proofs.lemmas.List.{ext_get_or}
use Rattle.std.proofs.lemmas.List.Elements.{All-nil, All-cons, All-contains, All-weaker, All-get_or}
use Rattle.std.proofs.lemmas.Bool.{cases_eq}
use Rattle.std.proofs.lemmas.Nat.Bits.{bit_at_ones, bit_at-lt, bit_at-zero, same_from_bits_below}
use Rattle.changed_paths.specs.Filter.{probe, AllHit, HasPaths, IsAbsent, MayRead}
use Rattle.changed_paths.specs.declared.filters.HashVersion.{HashVersion}
use Rattle.changed_paths.specs.declared.filters.HashVersion.TheVariants.{One, Two}
use Rattle.changed_paths.specs.declared.murmur3.ByteReading.{ByteReading}
use Rattle.changed_paths.proofs.FilterLemmas.{absent_is_not_contained}
use Rattle.tree_changes.specs.Stands.{World}
use Rattle.tree_changes.specs.Changes.{AreChanged, AreMore, IsChangedText}
use Rattle.path_filters.specs.Touched.{IsTouched}
use Rattle.path_filters.specs.Made.{reading_of, IsFilterOf, IsRight, IsWritten}
use Rattle.path_filters.specs.declared.settings.Settings.{Settings}
use Rattle.path_filters.proofs.ListLemmas.{first, nothing_in, mod_small}
use Rattle.path_filters.proofs.BitLemmas.{bit_in, hit_is}

may_read : (version : HashVersion) → MayRead version (reading_of version)
may_read One = tt
may_read Two = tt

-- a byte whose bits are set has them all
full_bit : (n : ℕ) → n < 8 → bit_in (255 ∷ []) n ≡ 1
full_bit n small =
    let front : n / 8 ≡ 0 = omega arith in
    ap (λ i. bit_at (get_or (255 ∷ []) i 0) (n % 8)) front ∙ bit_at_ones 8 (n % 8) (omega arith)

full_hits : (reading : ByteReading) (hashes : ℕ) (path : List ℕ) → AllHit reading hashes (255 ∷ []) path
unfolding AllHit
full_hits reading hashes path i within =
    hit_is (255 ∷ []) (probe reading path i) ∙ full_bit (probe reading path i % 8) (omega arith)

made_is_right : (settings : Settings) (P : List ℕ → Type 0) (filter : List ℕ) → IsWritten settings P filter
    → IsRight settings.version settings.hashes P filter
made_is_right settings P filter (inl h) path touched = (
  reading_of settings.version,
  may_read settings.version,
  subst (λ f. AllHit (reading_of settings.version) settings.hashes f path) (sym h.1)
      (full_hits (reading_of settings.version) settings.hashes path),
)
made_is_right settings P filter (inr h) path touched = (
  reading_of settings.version,
  may_read settings.version,
  All-contains (AllHit (reading_of settings.version) settings.hashes filter) h.0 path h.3.set (h.1.all path touched),
)

pub written_is_right : (settings : Settings) (world : World) (old new : Option (List ℕ)) (filter : List ℕ)
    → IsWritten settings (IsChangedText world old new) filter
    → IsRight settings.version settings.hashes (IsChangedText world old new) filter
written_is_right settings world old new filter = made_is_right settings (IsChangedText world old new) filter

-- what a right filter answers as absent is not touched
pub absent_is_untouched : (version : HashVersion) (hashes : ℕ) (P : List ℕ → Type 0) (filter path : List ℕ)
    → IsRight version hashes P filter → IsAbsent version hashes filter path → ¬ IsTouched P path
absent_is_untouched version hashes P filter path right absent touched =
    let possible = right path touched in
    absent_is_not_contained version possible.0 hashes filter path (path ∷ []) possible.1
    (All-cons (AllHit possible.0 hashes filter) path [] possible.2 (All-nil (AllHit possible.0 hashes filter)))
    absent (first path [])

-- ---- other ways to say which paths are changed
module _ (P Q : List ℕ → Type 0) (there : (p : List ℕ) → P p → Q p) (back : (p : List ℕ) → Q p → P p) where
  touched_by : (p : List ℕ) → IsTouched P p → IsTouched Q p
  touched_by p (inl h) = inl (there p h)
  touched_by p (inr h) = inr (h.0, there h.0 h.1, h.2)

  touched_back : (p : List ℕ) → IsTouched Q p → IsTouched P p
  touched_back p (inl h) = inl (back p h)
  touched_back p (inr h) = inr (h.0, back h.0 h.1, h.2)

  pub written_by : (settings : Settings) (filter : List ℕ) → IsWritten settings P filter → IsWritten settings Q filter
  written_by settings filter (inl h) =
      inl (
        record {
          paths = h.0.paths;
          rising = h.0.rising;
          each = All-weaker (IsTouched P) (IsTouched Q) touched_by h.0.paths h.0.each;
          more = h.0.more;
        },
        h.1,
      )
  written_by settings filter (inr h) =
      inr (
        h.0,
        record {
          rising = h.1.rising;
          each = All-weaker (IsTouched P) (IsTouched Q) touched_by h.0 h.1.each;
          all = λ p t. h.1.all p (touched_back p t);
        },
        h.2,
        h.3,
      )

pub written_for_trees : (settings : Settings) (world : World) (old new : Option (List ℕ)) (texts : List (List ℕ))
    (filter : List ℕ) → AreChanged world old new texts → IsWritten settings (Contains texts) filter
    → IsWritten settings (IsChangedText world old new) filter
written_for_trees settings world old new texts filter changed =
    written_by (Contains texts) (IsChangedText world old new)
    (λ p h. All-contains (IsChangedText world old new) texts p changed.each h)
    (λ p h. subst (λ t. Contains texts t) (sym h.text_is) (changed.all h.path h.changed)) settings filter

pub more_for_trees : (settings : Settings) (world : World) (old new : Option (List ℕ)) (filter : List ℕ)
    → AreMore world old new settings.most → filter ≡ 255 ∷ [] → IsWritten settings (IsChangedText world old new) filter
more_for_trees settings world old new filter more full =
    inl (
      record {
        paths = more.texts;
        rising = more.rising;
        each =
            All-weaker (IsChangedText world old new) (IsTouched (IsChangedText world old new)) (λ p h. inl h) more.texts
            more.each;
        more = more.more;
      },
      full,
    )

-- ---- there is one filter
no_bits : (bits : ℕ) → max 1 ((bits * 0 + 7) / 8) ≡ 1
no_bits bits = omega arith

clear_bit : (n : ℕ) → n < 8 * 1 → ¬ (bit_in (0 ∷ []) n ≡ 1)
clear_bit n small set =
    let front : n / 8 ≡ 0 = omega arith in
    let e : bit_in (0 ∷ []) n ≡ 0 = ap (λ i. bit_at (get_or (0 ∷ []) i 0) (n % 8)) front ∙ bit_at-zero (n % 8) in
    omega arith

same_bit : (a b : ℕ) → a < 2 → b < 2 → (a ≡ 1 → b ≡ 1) → (b ≡ 1 → a ≡ 1) → a ≡ b
same_bit a b h k there back =
    elim (cases_eq a 1) [
      | inl e ↦ e ∙ sym (there e)
      | inr ne ↦
          elim (cases_eq b 1) [
            | inl f ↦ back f ∙ sym f
            | inr nf ↦ omega arith
          ]
    ]

-- bytes are the same where their bits are
same_bytes : (one other : List ℕ) → length one ≡ length other → All (λ byte. byte < 256) one → All (λ byte. byte < 256) other
    → ((n : ℕ) → n < 8 * length one → bit_in one n ≡ 1 → bit_in other n ≡ 1)
    → ((n : ℕ) → n < 8 * length one → bit_in other n ≡ 1 → bit_in one n ≡ 1) → one ≡ other
same_bytes one other same small small_too there back =
    ext_get_or 0 one other same
    (λ i within.
    same_from_bits_below 8 (get_or one i 0) (get_or other i 0) (All-get_or (λ byte. byte < 256) one i 0 within small)
    (All-get_or (λ byte. byte < 256) other i 0 (subst (λ n. i < n) same within) small_too)
    (λ k short.
    let n = 8 * i + k in
    let byte : (8 * i + k) / 8 ≡ i = omega arith in
    let bit : (8 * i + k) % 8 ≡ k = omega arith in
    let in_one : bit_in one (8 * i + k) ≡ bit_at (get_or one i 0) k =
    ap (λ j. bit_at (get_or one j 0) ((8 * i + k) % 8)) byte ∙ ap (bit_at (get_or one i 0)) bit in
    let in_other : bit_in other (8 * i + k) ≡ bit_at (get_or other i 0) k =
    ap (λ j. bit_at (get_or other j 0) ((8 * i + k) % 8)) byte ∙ ap (bit_at (get_or other i 0)) bit in
    let room : 8 * i + k < 8 * length one = omega arith in
    same_bit (bit_at (get_or one i 0) k) (bit_at (get_or other i 0) k) (bit_at-lt (get_or one i 0) k)
    (bit_at-lt (get_or other i 0) k) (λ e. sym in_other ∙ there (8 * i + k) room (in_one ∙ e))
    (λ e. sym in_one ∙ back (8 * i + k) room (in_other ∙ e))))

module _ (reading : ByteReading) (bits hashes : ℕ) where
  set_in : (paths : List (List ℕ)) (one other : List ℕ) → IsFilterOf reading bits hashes paths one
      → HasPaths reading hashes other paths → length one ≡ length other → (n : ℕ) → n < 8 * length one → bit_in one n ≡ 1
      → bit_in other n ≡ 1
  unfolding AllHit
  set_in paths one other h has same n within set =
      let here : n % (8 * length one) ≡ n = mod_small n (8 * length one) within in
      let probed = h.no_others n within (hit_is one n ∙ ap (bit_in one) here ∙ set) in
      let hits = All-contains (AllHit reading hashes other) paths probed.0 has probed.2 in
      let place : probe reading probed.0 probed.1 % (8 * length other) ≡ n =
      ap (λ k. probe reading probed.0 probed.1 % (8 * k)) (sym same) ∙ probed.4 in
      ap (bit_in other) (sym place) ∙ sym (hit_is other (probe reading probed.0 probed.1)) ∙ hits probed.1 probed.3

  pub one_filter : (paths : List (List ℕ)) (one other : List ℕ) → All (λ byte. byte < 256) one
      → All (λ byte. byte < 256) other → IsFilterOf reading bits hashes paths one → IsFilterOf reading bits hashes paths other
      → one ≡ other
  one_filter paths one other small small_too h k =
      let same : length one ≡ length other = h.size ∙ sym k.size in
      same_bytes one other same small small_too (set_in paths one other h k.set same)
      (λ n within. set_in paths other one k h.set (sym same) n (subst (λ m. n < 8 * m) same within))

  pub clear_filter : (filter : List ℕ) → All (λ byte. byte < 256) filter → IsFilterOf reading bits hashes [] filter
      → filter ≡ 0 ∷ []
  clear_filter filter small h =
      let one : length filter ≡ 1 = h.size ∙ no_bits bits in
      same_bytes filter (0 ∷ []) one small (All-cons (λ byte. byte < 256) 0 [] (lit< tt) (All-nil (λ byte. byte < 256)))
      (λ n within set.
      absurd (nothing_in _ (h.no_others n within
      (hit_is filter n ∙ ap (bit_in filter) (mod_small n (8 * length filter) within) ∙ set)).2))
      (λ n within set. absurd (clear_bit n (subst (λ m. n < 8 * m) one within) set))
