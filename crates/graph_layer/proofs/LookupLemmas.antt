-- laws of a lookup that halves a bucket
use Rattle.std.proofs.Common.{◌≡◌, ℕ, ◌+◌, ◌-◌, ◌*◌, ◌/◌, ◌<◌, ◌≤◌, List, length, Some, None, slice_get, slice_index, slice_range}
use Rattle.std.proofs.Common.{refl, sym, ap, ◌∙◌, arith, ⊎_elim}
use Rattle.std.proofs.Math.Nat.{mul-add, mul-div_cancel_left}
use Rattle.std.specs.Ordering.{ordering_reverse}
use Rattle.std.specs.declared.cmp.Ordering.TheVariants.{Less, Equal, Greater}
use Rattle.std.proofs.lemmas.Bool.{cases_lt, eq-eqb, ne_eqb}
use Rattle.std.proofs.lemmas.Cmp.{nat_list_cmp_total}
use Rattle.std.proofs.lemmas.Map.Lookups.{exact_bytes}
use Rattle.std.proofs.lemmas.Option.{same_Some}
use Rattle.gix_hash_core.specs.Kind.{id_len}
use Rattle.graph_format.specs.Layer.{Layer, decoded_layer}
use Rattle.graph_format.specs.Layout.{IsLayout}
use Rattle.graph_format.specs.declared.layout.Layout.{Layout}
use Rattle.graph_format.proofs.PieceLemmas.{id_len-positive}
use Rattle.graph_layer.proofs.BucketLemmas.{view-sized_id, view-sized_id-fits}
use Rattle.graph_format.specs.Order.{AreAscending, IsExactFan}
use Rattle.graph_format.specs.Lookup.{Found, bucket_start}
use Rattle.graph_layer.proofs.AscendingIdLemmas.{id_cmp, ascending-less, not-less_itself, counted-before, counted-after}
use Rattle.graph_format.proofs.ScanLemmas.{scan-found, scan-none}

-- Where the ids ascend under an exact fan, the id stands nowhere but from low up to, without, high.
pub record StandsWithin (layer : Layer) (id : List ℕ) (low high : ℕ) : Type 0 where
  pub each : AreAscending layer.ids → IsExactFan layer.fan layer.ids → (i : ℕ) → slice_get layer.ids i ≡ Some id → (low ≤ i)
      × (i < high)

-- in its bucket
pub stands_within-bucket : (layer : Layer) (id : List ℕ) → slice_index id 0 < 256
    → StandsWithin layer id (bucket_start layer.fan (slice_index id 0)) (slice_index layer.fan (slice_index id 0))
stands_within-bucket layer id byte = record {
  each = λ ascend exact i here. (
    ⊎_elim
        (λ (some : 0 < slice_index id 0).
        rw (ne_eqb (slice_index id 0) 0 (λ e. omega arith))
        (omega (
          arith,
          exact (slice_index id 0 - 1) (omega arith),
          counted-after (slice_index id 0 - 1) layer.ids i id ascend here (omega arith),
        )))
        (λ (none : slice_index id 0 ≤ 0). rw (eq-eqb (slice_index id 0) 0 (omega arith)) (omega arith))
        (cases_lt 0 (slice_index id 0)),
    omega (arith, exact (slice_index id 0) byte, counted-before (slice_index id 0) layer.ids i id ascend here (omega arith)),
  );
}

-- below a greater id
pub stands_within-lower : (layer : Layer) (id other : List ℕ) (low middle high : ℕ) → StandsWithin layer id low high
    → slice_get layer.ids middle ≡ Some other → id_cmp id other ≡ Less → StandsWithin layer id low middle
stands_within-lower layer id other low middle high within there less = record {
  each = λ ascend exact i here. (
    (within.each ascend exact i here).0,
    ⊎_elim
        (λ (below : i < middle). below)
        (λ (past : middle ≤ i). absurd (⊎_elim
        (λ (after : middle < i).
        let more : id_cmp other id ≡ Less = ascending-less layer.ids middle i other id ascend there here after in
        not-less_itself id (nat_list_cmp_total.trans id other id less more))
        (λ (same : i ≤ middle).
        let e : id ≡ other = same_Some id other (sym here ∙ ap (slice_get layer.ids) (omega arith) ∙ there) in
        not-less_itself id (ap (id_cmp id) e ∙ less))
        (cases_lt middle i)))
        (cases_lt i middle),
  );
}

turned : (a b : List ℕ) → id_cmp a b ≡ Greater → id_cmp b a ≡ Less
turned a b h = nat_list_cmp_total.antisymm b a ∙ ap ordering_reverse h

-- above a lesser id
pub stands_within-upper : (layer : Layer) (id other : List ℕ) (low middle high : ℕ) → StandsWithin layer id low high
    → slice_get layer.ids middle ≡ Some other → id_cmp id other ≡ Greater → StandsWithin layer id (middle + 1) high
stands_within-upper layer id other low middle high within there greater = record {
  each = λ ascend exact i here. (
    ⊎_elim
        (λ (above : middle < i). omega arith)
        (λ (upto : i ≤ middle). absurd (⊎_elim
        (λ (before : i < middle).
        let less : id_cmp id other ≡ Less = ascending-less layer.ids i middle id other ascend here there before in
        let clash : Less ≡ Greater = sym less ∙ greater in cc)
        (λ (same : middle ≤ i).
        let e : id ≡ other = same_Some id other (sym here ∙ ap (slice_get layer.ids) (omega arith) ∙ there) in
        not-less_itself id (ap (id_cmp id) e ∙ turned_itself id other e greater))
        (cases_lt i middle)))
        (cases_lt middle i),
    (within.each ascend exact i here).1,
  );
}
  where
    turned_itself : (a b : List ℕ) → a ≡ b → id_cmp a b ≡ Greater → id_cmp a b ≡ Less
    turned_itself a b e h = ap (λ (x : List ℕ). id_cmp x b) e ∙ ap (id_cmp b) (sym e) ∙ turned a b h

-- the position of an equal id is an answer
pub found-equal : (layer : Layer) (id other : List ℕ) (middle : ℕ) → slice_get layer.ids middle ≡ Some other
    → id_cmp id other ≡ Equal → Found layer id (Some middle)
found-equal layer id other middle there equal =
    let here : slice_get layer.ids middle ≡ Some id = there ∙ ap (λ (x : List ℕ). Some x) (sym (exact_bytes id other equal)) in
    record {
      holds = here;
      scanned = λ ascend exact.
          sym (scan-found layer.ids id middle here (λ i before earlier.
          not-less_itself id (ascending-less layer.ids i middle id id ascend earlier here before)));
    }

-- none is an answer where no position is left
pub found-none : (layer : Layer) (id : List ℕ) (low high : ℕ) → StandsWithin layer id low high → high ≤ low → Found layer id None
found-none layer id low high within empty = record {
  holds = tt;
  scanned = λ ascend exact.
      sym (scan-none layer.ids id (λ i here.
      let place = within.each ascend exact i here in absurd (omega (arith, place.0, place.1))));
}

-- an id of another length stands nowhere
pub found-other_len : (layer : Layer) (id : List ℕ)
    → ((i : ℕ) (other : List ℕ) → slice_get layer.ids i ≡ Some other → length id ≡ length other → ⊥) → Found layer id None
found-other_len layer id differ = record {
  holds = tt;
  scanned = λ ascend exact. sym (scan-none layer.ids id (λ i here. differ i id here refl));
}

-- In a search for an id: so many ids are left, the first of which begins at an offset of the file's bytes, and the id stands
-- nowhere else. They stand before a position, and the ids of the file begin at another offset.
pub record AreLeft (bytes : List ℕ) (layer : Layer) (id : List ℕ) (ids size high first left : ℕ) : Type 0 where
  -- the position of the first one
  pub low : ℕ
  pub begins : first ≡ ids + size * low
  pub some : 0 < size
  pub below : low + left ≤ high
  pub each : (i : ℕ) → i < left
      → slice_get layer.ids (low + i) ≡ Some (slice_range bytes (first + size * i) (first + size * i + size))
  pub fits : (i : ℕ) → i < left → first + size * i + size ≤ length bytes
  pub stands : StandsWithin layer id low (low + left)

-- at first all of a bucket
pub left-bucket : (bytes path : List ℕ) (layout : Layout) (layer : Layer) (id : List ℕ) (size low high : ℕ)
    → IsLayout bytes layout → decoded_layer bytes path ≡ layer → size ≡ id_len layer.kind → low ≤ high → high ≤ length layer.ids
    → StandsWithin layer id low high
    → AreLeft bytes layer id layout.chunks.ids.start size high (layout.chunks.ids.start + size * low) (high - low)
left-bucket bytes path layout layer id size low high kept view sized order within stands =
    let start = layout.chunks.ids.start in
    let at : (i : ℕ) → start + size * (low + i) ≡ start + size * low + size * i = λ i. omega (arith, mul-add size low i) in
    let whole : high ≡ low + (high - low) = omega (arith, order) in
    record {
      low = low;
      begins = refl;
      some = omega (arith, id_len-positive layer.kind, sized);
      below = omega (arith, order);
      each = λ i k.
          rw (← at i)
          (view-sized_id bytes path layout layer (low + i) size kept view (omega (arith, within, k)) sized);
      fits = λ i k.
          rw (← at i)
          (view-sized_id-fits bytes path layout layer (low + i) size kept view (omega (arith, within, k)) sized);
      stands = rw (← whole) stands;
    }

-- then those before a greater one
pub left-before : {bytes : List ℕ} {layer : Layer} {id other : List ℕ} {ids size high first left : ℕ} (half : ℕ)
    → (here : AreLeft bytes layer id ids size high first left) → half < left → slice_get layer.ids (here.low + half) ≡ Some other
    → id_cmp id other ≡ Less → AreLeft bytes layer id ids size high first half
left-before {bytes} {layer} {id} {other} {ids} {size} {high} {first} {left} half here k there less = record {
  low = here.low;
  begins = here.begins;
  some = here.some;
  below = omega (arith, here.below, k);
  each = λ i l. here.each i (omega arith);
  fits = λ i l. here.fits i (omega arith);
  stands = stands_within-lower layer id other here.low (here.low + half) (here.low + left) here.stands there less;
}

-- or after a lesser one
pub left-after : {bytes : List ℕ} {layer : Layer} {id other : List ℕ} {ids size high first left : ℕ} (half : ℕ)
    → (here : AreLeft bytes layer id ids size high first left) → half < left → slice_get layer.ids (here.low + half) ≡ Some other
    → id_cmp id other ≡ Greater → AreLeft bytes layer id ids size high (first + size * half + size) (left - (half + 1))
left-after {bytes} {layer} {id} {other} {ids} {size} {high} {first} {left} half here k there greater =
    let low = here.low + half + 1 in
    let whole : here.low + left ≡ low + (left - (half + 1)) = omega (arith, k) in
    let at : (i : ℕ) → first + size * (half + 1 + i) ≡ first + size * half + size + size * i =
    λ i. omega (arith, mul-add size (half + 1) i, mul-add size half 1) in
    let next : (i : ℕ) → here.low + (half + 1 + i) ≡ low + i = λ i. omega arith in
    record {
      low = low;
      begins = omega (arith, here.begins, mul-add size here.low (half + 1), mul-add size half 1);
      some = here.some;
      below = omega (arith, here.below, k);
      each = λ i l. rw (← at i, ← next i) (here.each (half + 1 + i) (omega arith));
      fits = λ i l. rw (← at i) (here.fits (half + 1 + i) (omega arith));
      stands =
          rw (← whole)
          (stands_within-upper layer id other here.low (here.low + half) (here.low + left) here.stands there greater);
    }

-- the position of one
pub left-position : {bytes : List ℕ} {layer : Layer} {id : List ℕ} {ids size high first left : ℕ} (half : ℕ)
    → (here : AreLeft bytes layer id ids size high first left) → (first + size * half - ids) / size ≡ here.low + half
left-position {bytes} {layer} {id} {ids} {size} {high} {first} {left} half here =
    let apart : first + size * half - ids ≡ size * (here.low + half) = omega (arith, here.begins, mul-add size here.low half) in
    ap (λ (n : ℕ). n / size) apart ∙ mul-div_cancel_left (here.low + half) {n = size} here.some

pub ruleset search_laws = (stands_within-bucket, stands_within-lower, stands_within-upper, found-equal, found-none)
