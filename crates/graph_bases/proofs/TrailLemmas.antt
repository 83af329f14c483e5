-- The paint of the words of a list, as paint is added to it and as it is cleared.
use Rattle.std.proofs.Common.{◌≡◌, ◌≢◌, ◌⊎◌, ℕ, suc, zero, ◌+◌, ◌<◌, ◌≤◌, List, [], ◌∷◌, ◌++◌, length, set, get_or, Contains}
use Rattle.std.proofs.Common.{refl, sym, ap, ◌∙◌, subst, inl, inr, ⊎_elim, arith}
use Rattle.std.proofs.lemmas.Bool.{cases_lt, cases_eq}
use Rattle.std.proofs.Common.{◌-◌, take, replicate}
use Rattle.std.proofs.lemmas.List.{get_or-set_same, get_or-set_other, get_or_past, get_or_append_left, get_or-append_right}
use Rattle.std.proofs.lemmas.List.{take_all}
use Rattle.std.proofs.lemmas.List.Elements.{Contains-push_cases}
use Rattle.graph_bases.specs.Paint.{joined}
use Rattle.graph_bases.specs.Trails.{trail_at, trail_in, AreTrailStarts}
use Rattle.graph_bases.specs.declared.paint.Paint.{Paint}
use Rattle.graph_bases.specs.declared.paint.Paint.TheVariants.{Bare, First, Others, Both, Stale}

pub bare_or_not : (x : Paint) → (x ≡ Bare) ⊎ (x ≢ Bare)
bare_or_not Bare = inl refl
bare_or_not First = inr (λ e. absurd (cc))
bare_or_not Others = inr (λ e. absurd (cc))
bare_or_not Both = inr (λ e. absurd (cc))
bare_or_not Stale = inr (λ e. absurd (cc))

-- Where the words are those of another list.
pub starts_same : (trail after : List Paint) (starts : List ℕ) → ((w : ℕ) → trail_at after w ≡ trail_at trail w)
    → AreTrailStarts trail starts → AreTrailStarts after starts
starts_same trail after starts same are w is =
    ⊎_elim
    (λ (s : Contains starts w). inl s)
    (λ behind. inr (behind.0, behind.1, λ none. behind.2 (sym (same behind.0) ∙ none)))
    (are w (λ none. is (same w ∙ none)))

-- Where there is room for more words.
replicate_bare : (n i : ℕ) → get_or (replicate n Bare) i Bare ≡ Bare
replicate_bare zero i = refl
replicate_bare (suc n) zero = refl
replicate_bare (suc n) (suc i) = replicate_bare n i

pub trail_grown : (trail : List Paint) (n more : ℕ) → length trail ≤ n → (w : ℕ)
    → trail_at (take n trail ++ replicate more Bare) w ≡ trail_at trail w
trail_grown trail n more le w =
    ap (λ (xs : List Paint). trail_at (xs ++ replicate more Bare) w) (take_all n trail le)
    ∙ ⊎_elim
    (λ (lt : w < length trail). get_or_append_left trail (replicate more Bare) Bare w lt)
    (λ (past : length trail ≤ w).
    get_or-append_right trail (replicate more Bare) (length trail) w Bare refl past
    ∙ replicate_bare more (w - length trail) ∙ sym (get_or_past trail w Bare past))
    (cases_lt w (length trail))

-- Paint is added to a word.
module _ (trail : List Paint) (starts more : List ℕ) (at : ℕ) (paint : Paint) (within : at < length trail) where
  pub trail_here : trail_at (set trail at paint) at ≡ paint
  trail_here = get_or-set_same trail at paint Bare within

  pub trail_there : (w : ℕ) → w ≢ at → trail_at (set trail at paint) w ≡ trail_at trail w
  trail_there w apart = get_or-set_other trail at w paint Bare apart

  -- paint that stays paint
  module _ (stays : trail_at trail at ≢ Bare → paint ≢ Bare) where
    kept : (w : ℕ) → trail_at trail w ≢ Bare → trail_at (set trail at paint) w ≢ Bare
    kept w is =
        ⊎_elim
        (λ (e : w ≡ at). λ none.
        stays (λ old. is (ap (trail_at trail) e ∙ old)) (sym trail_here ∙ ap (trail_at (set trail at paint)) (sym e) ∙ none))
        (λ (apart : w ≢ at). λ none. is (sym (trail_there w apart) ∙ none))
        (cases_eq w at)

    pub starts_added : AreTrailStarts trail starts → ((w : ℕ) → Contains starts w → Contains more w)
        → Contains more at ⊎ ((v : ℕ) × (at ≡ v + 1) × (trail_at trail v ≢ Bare)) → AreTrailStarts (set trail at paint) more
    starts_added are keeps here w is =
        ⊎_elim
        (λ (e : w ≡ at).
        ⊎_elim
        (λ (s : Contains more at). inl (subst (Contains more) (sym e) s))
        (λ behind. inr (behind.0, e ∙ behind.1, kept behind.0 behind.2))
        here)
        (λ (apart : w ≢ at).
        ⊎_elim
        (λ (s : Contains starts w). inl (keeps w s))
        (λ behind. inr (behind.0, behind.1, kept behind.0 behind.2))
        (are w (λ none. is (trail_there w apart ∙ none))))
        (cases_eq w at)

-- While words are made bare: each that has paint is a start that is left, or stands behind one that has paint, or is next.
abbrev pub AreTrailStartsBut : List Paint → List ℕ → ℕ → Type 0
AreTrailStartsBut trail starts next = (w : ℕ) → trail_at trail w ≢ Bare
    → (w ≡ next) ⊎ (Contains starts w ⊎ ((v : ℕ) × (w ≡ v + 1) × (trail_at trail v ≢ Bare)))

pub starts_popped : (trail : List Paint) (starts rest : List ℕ) (start : ℕ) → starts ≡ rest ++ start ∷ []
    → AreTrailStarts trail starts → AreTrailStartsBut trail rest start
starts_popped trail starts rest start is are w painted =
    ⊎_elim
    (λ (s : Contains starts w).
    ⊎_elim
    (λ (old : Contains rest w). inr (inl old))
    (λ (e : start ≡ w). inl (sym e))
    (Contains-push_cases rest start w (subst (λ (xs : List ℕ). Contains xs w) is s)))
    (λ behind. inr (inr behind))
    (are w painted)

pub starts_next : (trail : List Paint) (starts : List ℕ) (at : ℕ) → at < length trail → AreTrailStartsBut trail starts at
    → AreTrailStartsBut (set trail at Bare) starts (at + 1)
starts_next trail starts at within but w painted =
    let apart : w ≢ at = λ e.
    painted (ap (trail_at (set trail at Bare)) e ∙ trail_here trail starts starts at Bare within) in
    ⊎_elim
    (λ (e : w ≡ at). absurd (apart e))
    (λ found.
    ⊎_elim
    (λ (s : Contains starts w). inr (inl s))
    (λ behind.
    ⊎_elim
    (λ (e : behind.0 ≡ at). inl (omega (arith, behind.1, e)))
    (λ (other : behind.0 ≢ at).
    inr (inr (
      behind.0,
      behind.1,
      λ none. behind.2 (sym (trail_there trail starts starts at Bare within behind.0 other) ∙ none),
    )))
    (cases_eq behind.0 at))
    found)
    (but w (λ none. painted (trail_there trail starts starts at Bare within w apart ∙ none)))

pub starts_end : (trail : List Paint) (starts : List ℕ) (at : ℕ) → trail_at trail at ≡ Bare → AreTrailStartsBut trail starts at
    → AreTrailStarts trail starts
starts_end trail starts at none but w painted =
    ⊎_elim
    (λ (e : w ≡ at). absurd (painted (ap (trail_at trail) e ∙ none)))
    (λ found. found)
    (but w painted)

pub starts_none : (trail : List Paint) (starts : List ℕ) → length starts ≡ 0 → AreTrailStarts trail starts → (w : ℕ)
    → trail_at trail w ≡ Bare
starts_none trail starts empty are w =
    ⊎_elim (λ (none : trail_at trail w ≡ Bare). none) (λ (painted : trail_at trail w ≢ Bare). absurd (never w painted))
    (bare_or_not (trail_at trail w))
  where
    never : (w : ℕ) → trail_at trail w ≢ Bare → ⊥
    never zero painted =
        ⊎_elim
        (λ (s : Contains starts 0). let lt = s.1 in absurd (omega arith))
        (λ behind. absurd (omega (arith, behind.1)))
        (are 0 painted)
    never (suc v) painted =
        ⊎_elim
        (λ (s : Contains starts (suc v)). let lt = s.1 in absurd (omega arith))
        (λ behind.
        let e : behind.0 ≡ v = omega (arith, behind.1) in
        never v (λ none. behind.2 (ap (trail_at trail) e ∙ none)))
        (are (suc v) painted)

-- joined paint is paint where the first was
pub joined_some : (x y : Paint) → x ≢ Bare → joined x y ≢ Bare
joined_some Bare y is none = is refl
joined_some First Bare is none = absurd (cc)
joined_some First First is none = absurd (cc)
joined_some First Others is none = absurd (cc)
joined_some First Both is none = absurd (cc)
joined_some First Stale is none = absurd (cc)
joined_some Others Bare is none = absurd (cc)
joined_some Others First is none = absurd (cc)
joined_some Others Others is none = absurd (cc)
joined_some Others Both is none = absurd (cc)
joined_some Others Stale is none = absurd (cc)
joined_some Both Bare is none = absurd (cc)
joined_some Both First is none = absurd (cc)
joined_some Both Others is none = absurd (cc)
joined_some Both Both is none = absurd (cc)
joined_some Both Stale is none = absurd (cc)
joined_some Stale Bare is none = absurd (cc)
joined_some Stale First is none = absurd (cc)
joined_some Stale Others is none = absurd (cc)
joined_some Stale Both is none = absurd (cc)
joined_some Stale Stale is none = absurd (cc)

-- Trails of each layer.

module _ (trails : List (List Paint)) (at : ℕ) (trail : List Paint) where
  pub trail_in-here : at < length trails → trail_in (set trails at trail) at ≡ trail
  trail_in-here within = get_or-set_same trails at trail [] within

-- a layer with room has a trail
pub trail_there_is : (trails : List (List Paint)) (l w : ℕ) → w < length (trail_in trails l) → l < length trails
trail_there_is trails l w within =
    ⊎_elim
    (λ (lt : l < length trails). lt)
    (λ (past : length trails ≤ l). absurd (omega (arith, within, ap length (get_or_past trails l [] past))))
    (cases_lt l (length trails))
