-- files that begin alike
use Rattle.std.proofs.Common.{◌≡◌, ℕ, zero, suc, ◌+◌, ◌-◌, ◌*◌, ◌<◌, ◌≤◌, Bool, List, ◌∷◌, map, length, take, drop}
use Rattle.std.proofs.Common.{Option, Some, None, slice_index, slice_range, refl, sym, ap, ◌∙◌, arith, ⊎_elim}
use Rattle.std.specs.Prelude.{min}
use Rattle.std.specs.Int.{w64, from_be_bytes}
use Rattle.std.specs.List.{list_any, range_with_len}
use Rattle.std.proofs.lemmas.Bool.{cases_lt}
use Rattle.std.proofs.lemmas.List.{take-take, get_or-take}
use Rattle.std.proofs.Math.Seq.{take-length}
use Rattle.std.proofs.lemmas.Slice.{between_is}
use Rattle.gix_chunk_core.specs.FirstFault.{first_below, ◌otherwise◌}
use Rattle.gix_chunk_core.specs.Entry.{entry_at}
use Rattle.gix_chunk_core.specs.Fault.{has_earlier, offset_fault, entry_fault, end_fault, table_fault}
use Rattle.gix_chunk_core.specs.FirstBytes.{filled, BeginsWith}
use Rattle.gix_chunk_core.specs.Table.{Table, Chunks, table_at, chunk_at}
use Rattle.gix_chunk_core.specs.declared.error.ChunkError.{ChunkError}
use Rattle.gix_chunk_core.proofs.HeadLemmas.{filled-len, filled-take, filled-whole}
use Rattle.gix_chunk_core.proofs.TableLemmas.{table_fault-none, fault_refuses}

-- functions that agree below a number
first_below-same : {X : Type 0} (f g : ℕ → Option X) (n : ℕ) → ((i : ℕ) → i < n → f i ≡ g i)
    → first_below f n ≡ first_below g n
unfolding first_below
first_below-same f g zero same = refl
first_below-same f g (suc n) same =
    ap (λ x. x otherwise f n) (first_below-same f g n (λ i h. same i (omega (arith, h))))
    ∙ ap (λ x. first_below g n otherwise x) (same n (omega arith))

map-same : {X : Type 0} (f g : ℕ → X) (at n : ℕ) → ((i : ℕ) → at ≤ i → i < at + n → f i ≡ g i)
    → map f (range_with_len at n) ≡ map g (range_with_len at n)
map-same f g at zero same = refl
map-same f g at (suc n) same =
    ap (λ x. x ∷ map f (range_with_len (at + 1) n)) (same at (omega arith) (omega arith))
    ∙ ap (λ xs. g at ∷ xs) (map-same f g (at + 1) n (λ i from below. same i (omega (arith, from)) (omega (arith, below))))

any-same : (f g : ℕ → Bool) (at n : ℕ) → ((i : ℕ) → at ≤ i → i < at + n → f i ≡ g i)
    → list_any f (range_with_len at n) ≡ list_any g (range_with_len at n)
any-same f g at zero same = refl
any-same f g at (suc n) same =
    let first = same at (omega arith) (omega arith) in
    let others = any-same f g (at + 1) n (λ i from below. same i (omega (arith, from)) (omega (arith, below))) in
    rw (first, others) refl

-- a part of the front is a part of the whole
pub slice-front : (n s e : ℕ) (xs : List ℕ) → e ≤ n → slice_range (take n xs) s e ≡ slice_range xs s e
slice-front n s e xs h = between_is (take n xs) s e ∙ ap (drop s) (take-take e n xs h) ∙ sym (between_is xs s e)

module _ (a b : List ℕ) (n : ℕ) (size : length a ≡ length b) (front : take n a ≡ take n b) where
  -- a part of the front
  part-same : (s e : ℕ) → e ≤ n → slice_range a s e ≡ slice_range b s e
  part-same s e h = sym (slice-front n s e a h) ∙ ap (λ xs. slice_range xs s e) front ∙ slice-front n s e b h

  pub byte-same : (i : ℕ) → i < n → slice_index a i ≡ slice_index b i
  byte-same i h = sym (get_or-take n a i 0 h) ∙ ap (λ xs. slice_index xs i) front ∙ get_or-take n b i 0 h

  -- an entry of a table there
  entry-same : (at i : ℕ) → at + 12 * (i + 1) ≤ n → entry_at a at i ≡ entry_at b at i
  unfolding entry_at
  entry-same at i h =
      ap (λ (entry : List ℕ). record { id = take 4 entry; offset = from_be_bytes w64 (drop 4 entry) })
      (part-same (at + 12 * i) (at + 12 * i + 12) (omega (arith, h)))

  earlier-same : (at i : ℕ) → at + 12 * (i + 1) ≤ n → has_earlier a at i ≡ has_earlier b at i
  unfolding has_earlier
  earlier-same at i h =
      any-same _ _ 0 i (λ j from below. rw (entry-same at j (omega (arith, below, h)), entry-same at i h) refl)

  offset-same : (at i : ℕ) → at + 12 * (i + 1) ≤ n → offset_fault a at i ≡ offset_fault b at i
  unfolding offset_fault
  offset-same at i h = rw (entry-same at i h, entry-same at (i - 1) (omega (arith, h)), size) refl

  entry_fault-same : (at i : ℕ) → at + 12 * (i + 1) ≤ n → entry_fault a at i ≡ entry_fault b at i
  unfolding entry_fault
  entry_fault-same at i h = rw (entry-same at i h, earlier-same at i h, offset-same at i h) refl

  end_fault-same : (at i : ℕ) → at + 12 * (i + 1) ≤ n → end_fault a at i ≡ end_fault b at i
  unfolding end_fault
  end_fault-same at i h = rw (entry-same at i h, offset-same at i h) refl

  -- the table
  pub table_fault-same : (at count : ℕ) → at + 12 * (count + 1) ≤ n → table_fault a at count ≡ table_fault b at count
  unfolding table_fault
  table_fault-same at count h =
      rw (
        size,
        end_fault-same at count h,
        first_below-same (entry_fault a at) (entry_fault b at) count (λ i below. entry_fault-same at i (omega (arith, below, h))),
      ) refl

  pub table-same : (at count : ℕ) → at + 12 * (count + 1) ≤ n → table_at a at count ≡ table_at b at count
  unfolding table_at
  table-same at count h =
      let chunks : map (chunk_at a at) (range_with_len 0 count) ≡ map (chunk_at b at) (range_with_len 0 count) =
      map-same (chunk_at a at) (chunk_at b at) 0 count (λ i from below.
      rw (entry-same at i (omega (arith, below, h)), entry-same at (i + 1) (omega (arith, below, h))) refl) in
      rw (chunks, entry-same at count h) refl

-- all bytes begin with themselves
pub begins-whole : (bytes : List ℕ) → BeginsWith bytes bytes (length bytes)
begins-whole bytes = record { size = refl; starts = take-length bytes }

-- the file that is 0 past the first bytes begins with them
pub filled-begins : (front : List ℕ) (len : ℕ) → length front ≤ len → BeginsWith (filled front len) front len
filled-begins front len fits = record {
  size = filled-len front len fits;
  starts = filled-take front len (length front) (omega arith) ∙ take-length front;
}

-- the first bytes are all
pub whole-file : (file front : List ℕ) (len : ℕ) → BeginsWith file front len → len ≤ length front → length front ≤ len
    → filled front len ≡ file
whole-file file front len begins all fits =
    let same : length front ≡ length file = omega (arith, begins.size) in
    let size : len ≡ length front = omega arith in
    ap (filled front) size
    ∙ filled-whole front
    ∙ sym begins.starts
    ∙ ap (λ (n : ℕ). take n file) same
    ∙ take-length file

-- A file that has so many bytes and begins with these, in which the table lies.
module _ (file front : List ℕ) (len at count : ℕ) (begins : BeginsWith file front len) (fits : length front ≤ len)
    (lies : min len (at + 12 * (count + 1)) ≤ length front) where
  table_fault-each : table_fault (filled front len) at count ≡ table_fault file at count
  table_fault-each = ⊎_elim
      (λ (part : length front < len).
      table_fault-same (filled front len) file (length front) (filled-len front len fits ∙ sym begins.size)
      (filled-take front len (length front) (omega arith) ∙ take-length front ∙ sym begins.starts) at count
      (omega (arith, lies, part)))
      (λ (all : len ≤ length front).
      ap (λ (bytes : List ℕ). table_fault bytes at count) (whole-file file front len begins all fits))
      (cases_lt (length front) len)

  table-each : table_at (filled front len) at count ≡ table_at file at count
  table-each = ⊎_elim
      (λ (part : length front < len).
      table-same (filled front len) file (length front) (filled-len front len fits ∙ sym begins.size)
      (filled-take front len (length front) (omega arith) ∙ take-length front ∙ sym begins.starts) at count
      (omega (arith, lies, part)))
      (λ (all : len ≤ length front). ap (λ (bytes : List ℕ). table_at bytes at count) (whole-file file front len begins all fits))
      (cases_lt (length front) len)

  -- it is refused as the one that is 0 past these bytes, and has the same table
  pub fault-each : (fault : Option ChunkError) → table_fault (filled front len) at count ≡ fault
      → table_fault file at count ≡ fault
  fault-each fault h = sym table_fault-each ∙ h

  pub chunks-each : table_fault (filled front len) at count ≡ None → Chunks file at count (table_at (filled front len) at count)
  chunks-each h = rw table-each (table_fault-none file at count (fault-each None h))

  pub none-each : (fault : ChunkError) → table_fault (filled front len) at count ≡ Some fault → (table : Table)
      → Chunks file at count table → ⊥
  none-each fault h table = fault_refuses file at count fault table (fault-each (Some fault) h)

pub ruleset whole_laws = (begins-whole)
