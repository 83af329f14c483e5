-- the first entry at which a fan falls
use Rattle.std.proofs.Common.{◌≡◌, ◌<◌, ◌≤◌, ℕ, ◌+◌, ◌-◌, Bool, true, false, List, slice_index, Some, None, nat_lt, ap, subst}
use Rattle.std.proofs.Common.{sym, ◌∙◌, ⊎_elim, arith}
use Rattle.std.specs.Bool.{then_some}
use Rattle.std.proofs.lemmas.Bool.{ltb-false, ltb-true, lt-ltb, le-ltb, cases_eq}
use Rattle.gix_chunk_core.specs.FirstFault.{IsLeastGiving}
use Rattle.gix_chunk_core.proofs.FirstFaultLemmas.{then_some-none, then_some-false, first_below-none_at, first_below-none_from}
use Rattle.gix_chunk_core.proofs.FirstFaultLemmas.{first_below-some_iff}
use Rattle.graph_format.specs.FormatLaws.{FallsFirstAt, NamesFirstFall}
use Rattle.graph_format.specs.Refusal.{fall_after, falling_refusal}
use Rattle.graph_format.specs.declared.error.FileError.{FileError}
use Rattle.graph_format.specs.declared.error.FileError.TheVariants.{FanFalls}

then_some-some : {X : Type 0} (b : Bool) (x y : X) → then_some b x ≡ Some y → (b ≡ true) × (y ≡ x)
then_some-some true x y h = (cc, cc)
then_some-some false x y h = cc

-- no entry is less than the one before it, up to one
rises-up : (fan : List ℕ) (i : ℕ) → ((j : ℕ) → j < i → fall_after fan j ≡ None) → (k : ℕ) → k < i + 1
    → slice_index fan (k - 1) ≤ slice_index fan k
rises-up fan i h k below = ⊎_elim
    (λ (zero : k ≡ 0). rw zero (omega arith))
    (λ (later : k ≡ 0 → ⊥).
    let before : (k - 1) + 1 ≡ k = omega (arith, later) in
    let P : ℕ → Type 0 = λ n. slice_index fan (k - 1) ≤ slice_index fan n in
    subst P before (ltb-false _ _ (then_some-none _ _ (h (k - 1) (omega (arith, below, later))))))
    (cases_eq k 0)

falls-at : (fan : List ℕ) (i : ℕ) (error : FileError) → IsLeastGiving (fall_after fan) 255 i error → (error ≡ FanFalls (i + 1))
    × FallsFirstAt fan (i + 1)
falls-at fan i error least =
    let gives : (nat_lt (slice_index fan (i + 1)) (slice_index fan i) ≡ true) × (error ≡ FanFalls (i + 1)) =
    then_some-some _ _ _ least.gives in
    let before : (i + 1) - 1 ≡ i = omega arith in
    let P : ℕ → Type 0 = λ n. slice_index fan (i + 1) < slice_index fan n in (
      gives.1,
      record {
        within = omega (arith, least.below);
        falls = subst P (sym before) (ltb-true _ _ gives.0);
        first = rises-up fan i least.least;
      },
    )

least-from : (fan : List ℕ) (at : ℕ) (error : FileError) → error ≡ FanFalls at → FallsFirstAt fan at → (i : ℕ)
    × IsLeastGiving (fall_after fan) 255 i error
least-from fan at error names first =
    let positive : at ≡ 0 → ⊥ = λ zero. let here : slice_index fan 0 < slice_index fan (0 - 1) = rw zero at first.falls in
    omega (arith, here) in
    let after : (at - 1) + 1 ≡ at = omega (arith, positive) in (
      at - 1,
      record {
        below = omega (arith, first.within, positive);
        gives =
            ap (λ (n : ℕ). then_some (nat_lt (slice_index fan n) (slice_index fan (at - 1))) (FanFalls n)) after
            ∙ ap (λ (b : Bool). then_some b (FanFalls at)) (lt-ltb _ _ first.falls)
            ∙ ap (λ (e : FileError). Some e) (sym names);
        least = λ j below.
            let before : (j + 1) - 1 ≡ j = omega arith in
            let P : ℕ → Type 0 = λ n. slice_index fan n ≤ slice_index fan (j + 1) in
            then_some-false _ _ (le-ltb _ _ (subst P before (first.first (j + 1) (omega (arith, below)))));
      },
    )

pub first_fall : (fan : List ℕ) → NamesFirstFall fan
unfolding falling_refusal
first_fall fan = record {
  falls = λ error. (
    λ h. let least = (first_below-some_iff (fall_after fan) 255 error).0 h in (least.0 + 1, falls-at fan least.0 error least.1),
    λ fall. (first_below-some_iff (fall_after fan) 255 error).1 (least-from fan fall.0 error fall.1.0 fall.1.1),
  );
  rises = (
    λ h i below. ltb-false _ _ (then_some-none _ _ (first_below-none_at (fall_after fan) i 255 h below)),
    λ h. first_below-none_from (fall_after fan) 255 (λ i below. then_some-false _ _ (le-ltb _ _ (h i below))),
  );
}
