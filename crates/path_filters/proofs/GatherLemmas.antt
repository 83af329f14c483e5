-- Touched paths, gathered into a set.
use Rattle.std.proofs.Common.{◌≡◌, ℕ, ◌+◌, ◌<◌, ◌≤◌, ◌⊎◌, List, [], ◌∷◌, length, get_or, take, map, refl, sym, ap, ◌∙◌}
use Rattle.std.proofs.Common.{subst, inl, inr, arith}
use Rattle.std.specs.Prelude.{Contains}
use Rattle.std.specs.Ordering.{nat_cmp, match_ordering}
use Rattle.std.specs.declared.cmp.Ordering.{Ordering}
use Rattle.std.specs.declared.cmp.Ordering.TheVariants.{Less, Equal, Greater}
use Rattle.std.specs.Cmp.Lexicographic.{slice_cmp}
use Rattle.std.specs.BTreeSet.{insert_key}
use Rattle.std.specs.List.Sorted.{IsStrictlySortedBy}
use Rattle.std.proofs.lemmas.Map.Lookups.{exact_bytes}
use Rattle.std.proofs.lemmas.List.Elements.{All-map, All-from_recursion, All-contains_itself, All-weaker}
use Rattle.std.proofs.lemmas.List.Elements.{Contains-get_or, Contains-push_cases}
use Rattle.std.proofs.lemmas.Bool.{cases_lt}
use Rattle.std.proofs.lemmas.List.{take_all, take_more}
use Rattle.tree_changes.specs.Changes.{AreRisingTexts}
use Rattle.path_filters.specs.Touched.{LeadsTo, IsTouched, AreTouched, AreMoreTouched}
use Rattle.path_filters.specs.Steps.{IsPathGathered, IsGatheredWhole}
use Rattle.path_filters.proofs.ListLemmas.{first, later, cases, leads_at, leads_from, leads_alike}

module _ {K : Type 0} (now : K → List ℕ) where
  abbrev pub by_text : K → K → Ordering
  by_text x y = slice_cmp nat_cmp (now x) (now y)

  kept_by : (o : Ordering) (x : K) (xs rest : List K) (k : K) (p : List ℕ) → (Contains (map now xs) p → Contains (map now rest) p)
      → Contains (map now (x ∷ xs)) p → Contains (map now (match_ordering o (k ∷ x ∷ xs) (x ∷ xs) (x ∷ rest))) p
  kept_by Less x xs rest k p f h = later (now k) (map now (x ∷ xs)) p h
  kept_by Equal x xs rest k p f h = h
  kept_by Greater x xs rest k p f h =
      elim (cases (now x) (map now xs) p h) [
        | inl e ↦ subst (λ q. Contains (map now (x ∷ rest)) q) e (first (now x) (map now rest))
        | inr i ↦ later (now x) (map now rest) p (f i)
      ]

  pub insert_kept : (ks : List K) (k : K) (p : List ℕ) → Contains (map now ks) p → Contains (map now (insert_key by_text ks k)) p
  insert_kept [] k p h = later (now k) [] p h
  insert_kept (x ∷ xs) k p h = kept_by (by_text k x) x xs (insert_key by_text xs k) k p (insert_kept xs k p) h

  there_by : (o : Ordering) (x : K) (xs rest : List K) (k : K) → (o ≡ Equal → now k ≡ now x) → Contains (map now rest) (now k)
      → Contains (map now (match_ordering o (k ∷ x ∷ xs) (x ∷ xs) (x ∷ rest))) (now k)
  there_by Less x xs rest k f h = first (now k) (map now (x ∷ xs))
  there_by Equal x xs rest k f h = subst (λ q. Contains (map now (x ∷ xs)) q) (sym (f refl)) (first (now x) (map now xs))
  there_by Greater x xs rest k f h = later (now x) (map now rest) (now k) h

  pub insert_there : (ks : List K) (k : K) → Contains (map now (insert_key by_text ks k)) (now k)
  insert_there [] k = first (now k) []
  insert_there (x ∷ xs) k =
      there_by (by_text k x) x xs (insert_key by_text xs k) k (exact_bytes (now k) (now x)) (insert_there xs k)

  none_by : (o : Ordering) (x : K) (xs rest : List K) (k : K) (p : List ℕ)
      → (Contains (map now rest) p → Contains (map now xs) p ⊎ (p ≡ now k))
      → Contains (map now (match_ordering o (k ∷ x ∷ xs) (x ∷ xs) (x ∷ rest))) p
      → Contains (map now (x ∷ xs)) p ⊎ (p ≡ now k)
  none_by Less x xs rest k p f h =
      elim (cases (now k) (map now (x ∷ xs)) p h) [ inl e ↦ inr (sym e) | inr i ↦ inl i ]
  none_by Equal x xs rest k p f h = inl h
  none_by Greater x xs rest k p f h =
      elim (cases (now x) (map now rest) p h) [
        | inl e ↦ inl (subst (λ q. Contains (map now (x ∷ xs)) q) e (first (now x) (map now xs)))
        | inr i ↦
            elim (f i) [
              | inl j ↦ inl (later (now x) (map now xs) p j)
              | inr e ↦ inr e
            ]
      ]

  pub insert_none : (ks : List K) (k : K) (p : List ℕ) → Contains (map now (insert_key by_text ks k)) p
      → Contains (map now ks) p ⊎ (p ≡ now k)
  insert_none [] k p h = elim (cases (now k) [] p h) [ inl e ↦ inr (sym e) | inr i ↦ inl i ]
  insert_none (x ∷ xs) k p h = none_by (by_text k x) x xs (insert_key by_text xs k) k p (insert_none xs k p) h

  -- a set after an insertion: what it had, and the key
  pub inserted : (before after : List K) (k : K) → after ≡ insert_key by_text before k
      → ((p : List ℕ) → Contains (map now before) p → Contains (map now after) p)
      × ((p : List ℕ) → Contains (map now after) p → Contains (map now before) p ⊎ (p ≡ now k))
      × Contains (map now after) (now k)
  inserted before after k e = (
    λ p h. subst (λ t. Contains (map now t) p) (sym e) (insert_kept before k p h),
    λ p h. insert_none before k p (subst (λ t. Contains (map now t) p) e h),
    subst (λ t. Contains (map now t) (now k)) (sym e) (insert_there before k),
  )

  pub keys_rise : (ks : List K) → IsStrictlySortedBy by_text ks → AreRisingTexts (map now ks)
  unfolding IsStrictlySortedBy
  keys_rise [] h = tt
  keys_rise (k ∷ ks) h = (
    All-map (λ t. slice_cmp nat_cmp (now k) t ≡ Less) now ks (All-from_recursion (λ q. by_text k q ≡ Less) ks h.0),
    keys_rise ks h.1,
  )

-- the directories that lead to a path, up to a length
abbrev pub HasDirectories : List ℕ → ℕ → ℕ → List (List ℕ) → Type 0
HasDirectories path low high gathered = (d : List ℕ) → LeadsTo d path → low ≤ length d → length d < high → Contains gathered d

-- one directory more
pub gathered_more : (path : List ℕ) (before mid after : List (List ℕ)) (i : ℕ) (directory : List ℕ) → i < length path
    → get_or path i 0 ≡ 47 → directory ≡ take i path → IsPathGathered path before mid
    → ((p : List ℕ) → Contains mid p → Contains after p)
    → ((p : List ℕ) → Contains after p → Contains mid p ⊎ (p ≡ directory)) → IsPathGathered path before after
gathered_more path before mid after i directory within slash is h kept none = record {
  kept = λ p k. kept p (h.kept p k);
  no_others = λ p k.
      elim (none p k) [
        | inl m ↦ h.no_others p m
        | inr e ↦ inr (inr (subst (λ q. LeadsTo q path) (sym (e ∙ is)) (leads_from i path within slash)))
      ];
}

pub directories_more : (path : List ℕ) (low i : ℕ) (mid after : List (List ℕ)) (directory : List ℕ) → directory ≡ take i path
    → HasDirectories path low i mid → ((p : List ℕ) → Contains mid p → Contains after p) → Contains after directory
    → HasDirectories path low (i + 1) after
directories_more path low i mid after directory is h kept there d leads from below =
    elim (cases_lt (length d) i) [
      | inl short ↦ kept d (h d leads from short)
      | inr k ↦
          let e : length d ≡ i = omega arith in
          subst (λ q. Contains after q) (is ∙ sym ((leads_at d path leads).1 ∙ ap (λ n. take n path) e)) there
    ]

-- the path itself, behind its directories
pub gathered_whole : (last path : List ℕ) (before mid after : List (List ℕ)) (common : ℕ) → take common last ≡ take common path
    → common ≤ length last → IsPathGathered path before mid → HasDirectories path common (length path) mid
    → ((p : List ℕ) → Contains mid p → Contains after p) → ((p : List ℕ) → Contains after p → Contains mid p ⊎ (p ≡ path))
    → Contains after path → IsPathGathered path before after × IsGatheredWhole last path before after
gathered_whole last path before mid after common same within h directories kept none there = (
  record {
    kept = λ p k. kept p (h.kept p k);
    no_others = λ p k.
        elim (none p k) [
          | inl m ↦ h.no_others p m
          | inr e ↦ inr (inl e)
        ];
  },
  record {
    itself = there;
    directories = λ of_last d leads.
        elim (cases_lt (length d) common) [
          | inl short ↦ kept d (h.kept d (of_last d (leads_alike common last path d same within leads short)))
          | inr long ↦ kept d (directories d leads long (leads_at d path leads).0)
        ];
  },
)

-- what was gathered of the first paths
pub record AreGathered (changed : List (List ℕ)) (index : ℕ) (last : List ℕ) (gathered : List (List ℕ)) : Type 0 where
  pub each : (p : List ℕ) → Contains gathered p → IsTouched (Contains changed) p
  pub paths : (p : List ℕ) → Contains (take index changed) p → Contains gathered p
  pub directories : (p d : List ℕ) → Contains (take index changed) p → LeadsTo d p → Contains gathered d
  pub of_last : (d : List ℕ) → LeadsTo d last → Contains gathered d

-- the last of the first paths, or one before it
last_of : (changed : List (List ℕ)) (index : ℕ) (path p : List ℕ) → index < length changed → path ≡ get_or changed index []
    → Contains (take (index + 1) changed) p → Contains (take index changed) p ⊎ (path ≡ p)
last_of changed index path p within is h =
    elim (Contains-push_cases (take index changed) (get_or changed index []) p
    (subst (λ t. Contains t p) (take_more changed index [] within) h)) [
      | inl old ↦ inl old
      | inr e ↦ inr (is ∙ e)
    ]

pub one_more : (changed : List (List ℕ)) (index : ℕ) (last path : List ℕ) (before after : List (List ℕ)) → index < length changed
    → path ≡ get_or changed index [] → AreGathered changed index last before → IsPathGathered path before after
    → IsGatheredWhole last path before after → AreGathered changed (index + 1) path after
one_more changed index last path before after within is h step whole =
    let here : Contains changed path = subst (λ p. Contains changed p) (sym is) (Contains-get_or changed index [] within) in
    record {
      each = λ p k.
          elim (step.no_others p k) [
            | inl old ↦ h.each p old
            | inr new ↦
                elim new [
                  | inl e ↦ inl (subst (λ q. Contains changed q) (sym e) here)
                  | inr leads ↦ inr (path, here, leads)
                ]
          ];
      paths = λ p k.
          elim (last_of changed index path p within is k) [
            | inl old ↦ step.kept p (h.paths p old)
            | inr e ↦ subst (λ q. Contains after q) e whole.itself
          ];
      directories = λ p d k leads.
          elim (last_of changed index path p within is k) [
            | inl old ↦ step.kept d (h.directories p d old leads)
            | inr e ↦ whole.directories h.of_last d (subst (λ q. LeadsTo d q) (sym e) leads)
          ];
      of_last = whole.directories h.of_last;
    }

pub all_gathered : (changed : List (List ℕ)) (index : ℕ) (last : List ℕ) (gathered : List (List ℕ)) → length changed ≤ index
    → AreGathered changed index last gathered → AreRisingTexts gathered → AreTouched (Contains changed) gathered
all_gathered changed index last gathered end h rising =
    let whole : take index changed ≡ changed = take_all index changed end in
    record {
      rising = rising;
      each = All-weaker (Contains gathered) (IsTouched (Contains changed)) h.each gathered (All-contains_itself gathered);
      all = λ p touched.
          elim touched [
            | inl k ↦ h.paths p (subst (λ t. Contains t p) (sym whole) k)
            | inr k ↦ h.directories k.0 p (subst (λ t. Contains t k.0) (sym whole) k.1) k.2
          ];
    }

pub more_gathered : (changed : List (List ℕ)) (index : ℕ) (last : List ℕ) (gathered : List (List ℕ)) (most : ℕ)
    → AreGathered changed index last gathered → AreRisingTexts gathered → most < length gathered
    → AreMoreTouched (Contains changed) most
more_gathered changed index last gathered most h rising more = record {
  paths = gathered;
  rising = rising;
  each = All-weaker (Contains gathered) (IsTouched (Contains changed)) h.each gathered (All-contains_itself gathered);
  more = more;
}
