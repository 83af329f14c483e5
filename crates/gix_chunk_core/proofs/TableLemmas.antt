-- laws of the table of chunks
use Rattle.std.proofs.Common.{◌≡◌, ℕ, zero, suc, ◌+◌, ◌-◌, ◌*◌, ◌<◌, ◌≤◌, false, List, map, Some, None, ap, sym, refl, ◌∙◌, subst}
use Rattle.std.proofs.Common.{⊎_elim, arith}
use Rattle.std.specs.Prelude.{length, nat_lt, ◌==◌, slice_get, ◌↔◌}
use Rattle.std.specs.Bool.{then_some}
use Rattle.std.specs.List.{Contains, range_with_len}
use Rattle.std.proofs.lemmas.Bool.{ltb-false, le-ltb, eqb-false, ne_eqb, cases_lt}
use Rattle.std.proofs.lemmas.List.{same_lists}
use Rattle.std.proofs.lemmas.List.FromFn.{length-map-range_with_len, get_or-map-range_with_len}
use Rattle.std.proofs.lemmas.Option.{slice_get_read, get_or_from_slice_get}
use Rattle.gix_chunk_core.specs.Entry.{entry_at, end_id}
use Rattle.gix_chunk_core.specs.Fault.{falls, entry_fault, table_fault}
use Rattle.gix_chunk_core.specs.FirstFault.{first_below}
use Rattle.gix_chunk_core.specs.Table.{Chunk, Table, Chunks, chunk_at, table_at, range_of}
use Rattle.gix_chunk_core.specs.declared.error.ChunkError.{ChunkError}
use Rattle.gix_chunk_core.specs.declared.error.ChunkError.TheVariants.{NoChunks, TableTooSmall}
use Rattle.gix_chunk_core.proofs.FaultLemmas.{other-bytes, apart-bytes, has_earlier-none, distinct-from, rises-from, falls-false}
use Rattle.gix_chunk_core.proofs.FaultLemmas.{IsPlaced, IsRight, entry_fault-none, end_fault-none, entry_fault-free}
use Rattle.gix_chunk_core.proofs.FaultLemmas.{end_fault-free}
use Rattle.gix_chunk_core.proofs.FirstFaultLemmas.{option_or-none, option_or-none_left, option_or-none_right, then_some-none}
use Rattle.gix_chunk_core.proofs.FirstFaultLemmas.{then_some-false, first_below-none_at, first_below-none_from}
use Rattle.gix_chunk_core.proofs.RangeLemmas.{IsFoundAt, range_of-at, range_of-none, range_of-found}

pub table_at-counted : (bytes : List ℕ) (at count : ℕ) → length (table_at bytes at count).chunks ≡ count
unfolding table_at
table_at-counted bytes at count = length-map-range_with_len (chunk_at bytes at) 0 count

pub table_at-each : (bytes : List ℕ) (at count i : ℕ) → i < count
    → slice_get (table_at bytes at count).chunks i ≡ Some (chunk_at bytes at i)
unfolding table_at
table_at-each bytes at count i k =
    slice_get_read _ count i _ (sym (length-map-range_with_len (chunk_at bytes at) 0 count)) k
    (sym (get_or-map-range_with_len (chunk_at bytes at) 0 count i i (chunk_at bytes at i) k (omega arith)))

pub table_at-end : (bytes : List ℕ) (at count : ℕ) → (table_at bytes at count).end ≡ (entry_at bytes at count).offset
unfolding table_at
table_at-end bytes at count = refl

-- the table of the bytes is the one that the entries spell
pub Chunks-is : (bytes : List ℕ) (at count : ℕ) (table : Table) → Chunks bytes at count table → table ≡ table_at bytes at count
unfolding table_at
Chunks-is bytes at count table right =
    let chunks : table.chunks ≡ map (chunk_at bytes at) (range_with_len 0 count) =
    same_lists _ _ (right.counted ∙ sym (length-map-range_with_len (chunk_at bytes at) 0 count))
    (λ k d within. let below : k < count = omega (arith, within, right.counted) in
    get_or_from_slice_get _ k _ d (right.each k below)
    ∙ sym (get_or-map-range_with_len (chunk_at bytes at) 0 count k k d below (omega arith))) in
    ap (λ (chunks : List Chunk). record { chunks = chunks; end = table.end }) chunks
    ∙ ap (λ (end : ℕ). record { chunks = map (chunk_at bytes at) (range_with_len 0 count); end = end }) right.end

-- the table's end lies in the bytes
pub end_in_file : (bytes : List ℕ) (at n : ℕ) (table : Table) → Chunks bytes at n table → table.end ≤ length bytes
end_in_file bytes at n table right = rw (right.end) (right.in_file n (omega arith))

-- bytes without a fault have the table that their entries spell
pub table_fault-none : (bytes : List ℕ) (at count : ℕ) → table_fault bytes at count ≡ None
    → Chunks bytes at count (table_at bytes at count)
unfolding table_fault
table_fault-none bytes at count h =
    let rest1 = option_or-none_right (then_some (count == 0) NoChunks) _ h in
    let rest2 = option_or-none_right (then_some (nat_lt (length bytes) (at + 12 * (count + 1))) TableTooSmall) _ rest1 in
    let none : first_below (entry_fault bytes at) count ≡ None = option_or-none_left _ _ rest2 in
    let each : (i : ℕ) → i < count → IsRight bytes at i = λ i k.
    entry_fault-none bytes at i (first_below-none_at (entry_fault bytes at) i count none k) in
    let last = end_fault-none bytes at count (option_or-none_right (first_below (entry_fault bytes at) count) _ rest2) in
    let placed : (i : ℕ) → i ≤ count → IsPlaced bytes at i = λ i k. ⊎_elim
    (λ (below : i < count). (each i below).placed)
    (λ (above : count ≤ i). let same : count ≡ i = omega arith in subst (λ (n : ℕ). IsPlaced bytes at n) same last.0)
    (cases_lt i count) in
    record {
      some = let positive : count ≡ 0 → ⊥ = eqb-false _ _ (then_some-none _ _ (option_or-none_left _ _ h)) in
          omega (arith, positive);
      room = ltb-false _ _ (then_some-none _ _ (option_or-none_left _ _ rest1));
      named = λ i k. apart-bytes _ _ (each i k).named;
      distinct = λ i j k l. distinct-from bytes at i j k (each j l).first;
      ended = last.1;
      rising = λ i k. rises-from bytes at i (placed (i + 1) (omega (arith, k))).rises;
      in_file = λ i k. ltb-false _ _ (placed i k).in_file;
      counted = table_at-counted bytes at count;
      each = table_at-each bytes at count;
      end = table_at-end bytes at count;
    }

falls-not : (bytes : List ℕ) (at count : ℕ) (table : Table) → Chunks bytes at count table → (i : ℕ) → i ≤ count
    → falls bytes at i ≡ false
falls-not bytes at count table right i k = falls-false bytes at i (λ positive.
    let before : (i - 1) + 1 ≡ i = omega (arith, positive) in
    subst (λ (n : ℕ). (entry_at bytes at (i - 1)).offset ≤ (entry_at bytes at n).offset) before
    (right.rising (i - 1) (omega (arith, k, positive))))

placed : (bytes : List ℕ) (at count : ℕ) (table : Table) → Chunks bytes at count table → (i : ℕ) → i ≤ count → IsPlaced bytes at i
placed bytes at count table right i k =
    record { in_file = le-ltb _ _ (right.in_file i k); rises = falls-not bytes at count table right i k }

chunk_right : (bytes : List ℕ) (at count : ℕ) (table : Table) → Chunks bytes at count table → (i : ℕ) → i < count
    → IsRight bytes at i
chunk_right bytes at count table right i k = record {
  named = other-bytes _ _ (right.named i k);
  first = has_earlier-none bytes at i (λ j l. right.distinct j i l k);
  placed = placed bytes at count table right i (omega (arith, k));
}

-- bytes that have a table have no fault
pub fault_free : (bytes : List ℕ) (at count : ℕ) (table : Table) → Chunks bytes at count table → table_fault bytes at count ≡ None
unfolding table_fault
fault_free bytes at count table right =
    let some : count ≡ 0 → ⊥ = omega (arith, right.some) in
    option_or-none _ _ (then_some-false _ _ (ne_eqb count 0 some))
    (option_or-none _ _ (then_some-false _ _ (le-ltb _ _ right.room))
    (option_or-none _ _ (first_below-none_from (entry_fault bytes at) count (λ i k.
    entry_fault-free bytes at i (chunk_right bytes at count table right i k)))
    (end_fault-free bytes at count (placed bytes at count table right count (omega arith)) right.ended)))

-- bytes with a fault have no table
pub fault_refuses : (bytes : List ℕ) (at count : ℕ) (fault : ChunkError) (table : Table) → table_fault bytes at count ≡ Some fault
    → Chunks bytes at count table → ⊥
fault_refuses bytes at count fault table h right = let none = fault_free bytes at count table right in cc

-- bytes have a table exactly where they have no fault
pub fault_decides : (bytes : List ℕ) (at count : ℕ) → (table_fault bytes at count ≡ None)
    ↔ ((table : Table) × Chunks bytes at count table)
fault_decides bytes at count = (
  λ h. (table_at bytes at count, table_fault-none bytes at count h),
  λ found. fault_free bytes at count found.0 found.1,
)

pub one_table : (bytes : List ℕ) (at count : ℕ) (one other : Table) → Chunks bytes at count one → Chunks bytes at count other
    → one ≡ other
one_table bytes at count one other h e = Chunks-is bytes at count one h ∙ sym (Chunks-is bytes at count other e)

chunk-eq : (one other : Chunk) → one.id ≡ other.id → one.start ≡ other.start → one.end ≡ other.end → one ≡ other
chunk-eq one other id start end =
    ap (λ (id : List ℕ). record { id = id; start = one.start; end = one.end }) id
    ∙ ap (λ (start : ℕ). record { id = other.id; start = start; end = one.end }) start
    ∙ ap (λ (end : ℕ). record { id = other.id; start = other.start; end = end }) end

-- offsets do not fall up to the last
rising_to : (bytes : List ℕ) (at count : ℕ) (table : Table) → Chunks bytes at count table → (i more : ℕ) → i + more ≤ count
    → (entry_at bytes at i).offset ≤ (entry_at bytes at (i + more)).offset
rising_to bytes at count table right i zero k = let same : i ≡ i + 0 = omega arith in
    subst (λ (n : ℕ). (entry_at bytes at i).offset ≤ (entry_at bytes at n).offset) same (omega arith)
rising_to bytes at count table right i (suc more) k =
    let before : (entry_at bytes at i).offset ≤ (entry_at bytes at (i + more)).offset =
    rising_to bytes at count table right i more (omega (arith, k)) in
    let last : (entry_at bytes at (i + more)).offset ≤ (entry_at bytes at (i + more + 1)).offset =
    right.rising (i + more) (omega (arith, k)) in
    let same : i + more + 1 ≡ i + suc more = omega arith in
    subst (λ (n : ℕ). (entry_at bytes at i).offset ≤ (entry_at bytes at n).offset) same (omega (arith, before, last))

-- where a chunk is found
found_in : (bytes : List ℕ) (at n : ℕ) (table : Table) (id : List ℕ) (place : ℕ × ℕ) → Chunks bytes at n table
    → range_of table id ≡ Some place → (i : ℕ) × IsFoundAt bytes at n id place i
found_in bytes at n table id place right h =
    range_of-found bytes at n id place (ap (λ t. range_of t id) (sym (Chunks-is bytes at n table right)) ∙ h)

-- a chunk ends no earlier than it starts, and no later than the last
pub range_of-in_order : (bytes : List ℕ) (at n : ℕ) (table : Table) (id : List ℕ) (start end : ℕ) → Chunks bytes at n table
    → range_of table id ≡ Some (start, end) → (start ≤ end) × (end ≤ table.end)
range_of-in_order bytes at n table id start end right h =
    let found = found_in bytes at n table id (start, end) right h in
    let starts : start ≡ (chunk_at bytes at found.0).start = ap (λ p. p.0) found.1.is in
    let ends : end ≡ (chunk_at bytes at found.0).end = ap (λ p. p.1) found.1.is in
    let more : found.0 + 1 + (n - (found.0 + 1)) ≡ n = omega (arith, found.1.within) in
    let last : (entry_at bytes at (found.0 + 1)).offset ≤ (entry_at bytes at n).offset =
    subst (λ (k : ℕ). (entry_at bytes at (found.0 + 1)).offset ≤ (entry_at bytes at k).offset) more
    (rising_to bytes at n table right (found.0 + 1) (n - (found.0 + 1)) (omega (arith, more))) in
    (omega (arith, starts, ends, right.rising found.0 found.1.within), omega (arith, ends, last, right.end))

-- a chunk lies in the bytes
pub range_of-in_file : (bytes : List ℕ) (at n : ℕ) (table : Table) (id : List ℕ) (place : ℕ × ℕ) → Chunks bytes at n table
    → range_of table id ≡ Some place → (place.0 ≤ place.1) × (place.1 ≤ length bytes)
range_of-in_file bytes at n table id place right h =
    let order = range_of-in_order bytes at n table id place.0 place.1 right h in
    (order.0, omega (arith, order.1, end_in_file bytes at n table right))

-- the id 0 is never found
pub range_of-end_id : (bytes : List ℕ) (at n : ℕ) (table : Table) → Chunks bytes at n table → range_of table end_id ≡ None
range_of-end_id bytes at n table right = ap (λ t. range_of t end_id) (Chunks-is bytes at n table right)
    ∙ range_of-none bytes at n end_id right.named

-- the chunk with an id is found, and what is found is the chunk with the id
pub range_of-contains : (bytes : List ℕ) (at n : ℕ) (table : Table) (id : List ℕ) (start end : ℕ) → Chunks bytes at n table
    → (range_of table id ≡ Some (start, end)) ↔ Contains table.chunks (record { id = id; start = start; end = end })
range_of-contains bytes at n table id start end right =
    let chunk : Chunk = record { id = id; start = start; end = end } in (
      λ h.
          let found = found_in bytes at n table id (start, end) right h in
          let within : found.0 < length table.chunks = omega (arith, found.1.within, right.counted) in
          let is : chunk_at bytes at found.0 ≡ chunk =
          chunk-eq _ chunk found.1.same (sym (ap (λ p. p.0) found.1.is)) (sym (ap (λ p. p.1) found.1.is)) in
          (found.0, within, get_or_from_slice_get table.chunks found.0 _ chunk (right.each found.0 found.1.within) ∙ is),
      λ found.
          let within : found.0 < n = omega (arith, found.1, right.counted) in
          let is : chunk_at bytes at found.0 ≡ chunk =
          sym (get_or_from_slice_get table.chunks found.0 _ chunk (right.each found.0 within)) ∙ found.2 in
          let same : (entry_at bytes at found.0).id ≡ id = ap (λ (c : Chunk). c.id) is in
          ap (λ t. range_of t id) (Chunks-is bytes at n table right)
          ∙ range_of-at bytes at n found.0 id (λ j k e. right.distinct j found.0 k within (e ∙ sym same)) same within
          ∙ ap (λ (c : Chunk). Some (c.start, c.end)) is,
    )

pub within : (bytes : List ℕ) (at n : ℕ) (table : Table) (id : List ℕ) (start end : ℕ) → Chunks bytes at n table
    → range_of table id ≡ Some (start, end) → (start ≤ end) × (end ≤ table.end) × (table.end ≤ length bytes)
within bytes at n table id start end right h =
    let order = range_of-in_order bytes at n table id start end right h in
    (order.0, order.1, end_in_file bytes at n table right)

pub ruleset fault_laws = (table_fault-none, fault_refuses)

pub ruleset decided_laws = (fault_decides, one_table)

pub ruleset found_laws = (range_of-contains, range_of-end_id, within)

pub ruleset place_laws = (range_of-end_id, range_of-in_order)
