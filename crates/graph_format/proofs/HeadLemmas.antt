-- files that have the same head
use Rattle.std.proofs.Common.{◌≡◌, ℕ, ◌-◌, ◌<◌, ◌≤◌, List, length, take, drop}
use Rattle.std.proofs.Common.{[], unwrap_or, Option, Some, None, option_map, slice_index, slice_range, refl, sym, ap, ◌∙◌, arith}
use Rattle.std.proofs.Common.{⊎_elim}
use Rattle.std.specs.Prelude.{min}
use Rattle.std.proofs.lemmas.Bool.{cases_lt}
use Rattle.std.proofs.Common.{length-take, length-drop}
use Rattle.std.proofs.lemmas.List.{take-take}
use Rattle.gix_chunk_core.specs.FirstFault.{◌otherwise◌}
use Rattle.gix_chunk_core.specs.Table.{Table, table_at, range_of}
use Rattle.gix_chunk_core.specs.FirstBytes.{filled}
use Rattle.gix_chunk_core.proofs.HeadLemmas.{filled-len, filled-index, filled-take, filled-range}
use Rattle.gix_chunk_core.proofs.AlikeLemmas.{slice-front, byte-same, table_fault-same, table-same, whole-file}
use Rattle.gix_hash_core.specs.Kind.{kind_of}
use Rattle.graph_format.specs.Format.{bases_id, chunk_of, chunk_range_of, edges_id, fan_id, ids_id, kind_in, records_id}
use Rattle.graph_format.specs.Format.{table_of, fan_of, words, commits_of}
use Rattle.graph_format.specs.ChunkRanges.{IsChunkAt, IsChunkRange}
use Rattle.graph_format.specs.Head.{HaveSameHead, BeginsWith, IsLayoutOfHead, table_end}
use Rattle.graph_format.specs.Layout.{IsLayout}
use Rattle.graph_format.specs.declared.layout.Layout.{Layout}
use Rattle.graph_format.specs.declared.chunks.ChunkRange.{ChunkRange}
use Rattle.graph_format.specs.Outline.{IsOutline}
use Rattle.graph_format.specs.Refusal.{refusal, size_of}
use Rattle.graph_format.specs.RefusalGroups.{header_refusal, sizes_refusal, trailer_refusal, counts_refusal}
use Rattle.graph_format.specs.RefusalGroups.{refusal_by_head, refusal_by_fan}
use Rattle.graph_format.specs.declared.error.FileError.{FileError}
use Rattle.graph_format.specs.declared.layout.Outline.{Outline}
use Rattle.graph_format.proofs.RefusalGroupLemmas.{refusal-grouped}

none-from : {X Y : Type 0} (f : X → Y) (o : Option X) → option_map f o ≡ None → o ≡ None
none-from f None h = refl
none-from f (Some x) h = cc

-- where a chunk's bytes are, and how many they are
length-same : (a b : List ℕ) (place : Option (ℕ × ℕ)) → length a ≡ length b
    → option_map length (option_map (λ p. slice_range a p.0 p.1) place)
    ≡ option_map length (option_map (λ p. slice_range b p.0 p.1) place)
length-same a b None size = refl
length-same a b (Some (s, e)) size =
    ap (λ n. Some n)
    (omega (
      arith,
      size,
      length-take (e - s) (drop s a),
      length-drop s a,
      length-take (e - s) (drop s b),
      length-drop s b,
    ))

module _ (a b : List ℕ) (size : length a ≡ length b) (front : take (table_end a) a ≡ take (table_end a) b) where
  head_byte : (i : ℕ) → i < 20 → slice_index a i ≡ slice_index b i
  head_byte i h = byte-same a b (table_end a) size front i (omega (arith, h))

  head_table : table_of a ≡ table_of b
  unfolding table_of
  head_table =
      table-same a b (table_end a) size front 8 (slice_index a 6) (omega arith)
      ∙ ap (table_at b 8) (head_byte 6 (omega arith))

  -- each chunk lies in the same place
  range_by_head : (id : List ℕ) → chunk_range_of a id ≡ chunk_range_of b id
  unfolding chunk_range_of
  range_by_head id = ap (λ t. range_of t id) head_table

  head_size : (id : List ℕ) → size_of a id ≡ size_of b id
  unfolding chunk_of
  head_size id =
      ap (λ r. option_map length (option_map (λ p. slice_range a p.0 p.1) r)) (range_by_head id)
      ∙ length-same a b (chunk_range_of b id) size

  head_kind : kind_in a ≡ kind_in b
  unfolding kind_in
  head_kind = rw (head_byte 5 (omega arith)) refl

  head_header : header_refusal a ≡ header_refusal b
  unfolding header_refusal
  head_header =
      let first : take 4 a ≡ take 4 b =
      sym (take-take 4 (table_end a) a (omega arith)) ∙ ap (take 4) front ∙ take-take 4 (table_end a) b (omega arith) in
      rw (size, first, head_byte 4 (omega arith), head_byte 5 (omega arith)) refl

  head_sizes : sizes_refusal (kind_in a) a ≡ sizes_refusal (kind_in b) b
  unfolding sizes_refusal
  head_sizes =
      rw (
        head_kind,
        head_byte 7 (omega arith),
        head_size bases_id,
        head_size records_id,
        head_size fan_id,
        head_size ids_id,
        head_size edges_id,
      ) refl

  head_trailer : trailer_refusal (kind_in a) a ≡ trailer_refusal (kind_in b) b
  unfolding trailer_refusal
  head_trailer = rw (head_kind, size, head_table, head_byte 7 (omega arith), head_size bases_id) refl

  -- what the header, the table and the length decide
  head_by_head : refusal_by_head a ≡ refusal_by_head b
  unfolding refusal_by_head
  head_by_head =
      rw (
        head_header,
        table_fault-same a b (table_end a) size front 8 (slice_index a 6) (omega arith),
        head_byte 6 (omega arith),
        head_sizes,
        head_trailer,
      ) refl

module _ (a b : List ℕ) (same : HaveSameHead a b) where
  head_by_fan : refusal_by_fan a ≡ refusal_by_fan b
  unfolding refusal_by_fan counts_refusal
  head_by_fan =
      rw (
        head_kind a b same.size same.front,
        same.fan,
        head_size a b same.size same.front ids_id,
        head_size a b same.size same.front records_id,
      ) refl

  -- and both are refused alike
  pub head_refusal : refusal a ≡ refusal b
  head_refusal =
      refusal-grouped a
      ∙ ap (λ (o : Option FileError). o otherwise refusal_by_fan a) (head_by_head a b same.size same.front)
      ∙ ap (λ (o : Option FileError). refusal_by_head b otherwise o) head_by_fan
      ∙ sym (refusal-grouped b)

  -- each chunk lies in the same place, and what is said of them is the same
  pub head_range : (id : List ℕ) → chunk_range_of a id ≡ chunk_range_of b id
  head_range id = range_by_head a b same.size same.front id

  at-same : (id : List ℕ) (place : ChunkRange) → IsChunkAt a id place → IsChunkAt b id place
  unfolding chunk_of
  at-same id place at = record {
    range = sym (head_range id) ∙ at.range;
    chunk = ap (option_map (λ (p : ℕ × ℕ). slice_range b p.0 p.1)) (sym (head_range id) ∙ at.range);
    order = at.order;
    in_file = omega (arith, at.in_file, same.size);
  }

  place-same : (id : List ℕ) (place : Option ChunkRange) → IsChunkRange a id place → IsChunkRange b id place
  unfolding chunk_of
  place-same id None missing =
      ap (option_map (λ (p : ℕ × ℕ). slice_range b p.0 p.1))
      (sym (head_range id) ∙ none-from (λ (p : ℕ × ℕ). slice_range a p.0 p.1) (chunk_range_of a id) missing)
  place-same id (Some place) at = at-same id place at

  pub head_layout : (layout : Layout) → IsLayout a layout → IsLayout b layout
  head_layout layout kept = record {
    none = sym head_refusal ∙ kept.none;
    kind = ap kind_of (sym (head_byte a b same.size same.front 5 (omega arith))) ∙ kept.kind;
    commits = kept.commits ∙ ap commits_of same.fan;
    base_count = kept.base_count ∙ head_byte a b same.size same.front 7 (omega arith);
    chunks = record {
      fan = at-same fan_id layout.chunks.fan kept.chunks.fan;
      ids = at-same ids_id layout.chunks.ids kept.chunks.ids;
      records = at-same records_id layout.chunks.records kept.chunks.records;
      edges = place-same edges_id layout.chunks.edges kept.chunks.edges;
      bases = place-same bases_id layout.chunks.bases kept.chunks.bases;
    };
    trailer_start = kept.trailer_start ∙ ap (λ (t : Table). t.end) (head_table a b same.size same.front);
  }

-- A file that has so many bytes and begins with these, in which the table of chunks lies.
module _ (file front : List ℕ) (len : ℕ) (begins : BeginsWith file front len) (fits : length front ≤ len)
    (table : table_end (filled front len) ≤ length front) where
  front-size : length (filled front len) ≡ length file
  front-size = filled-len front len fits ∙ sym begins.size

  front-starts : take (table_end (filled front len)) (filled front len) ≡ take (table_end (filled front len)) file
  front-starts =
      let end = table_end (filled front len) in
      filled-take front len end table ∙ ap (take end) (sym begins.starts) ∙ take-take end (length front) file table

  -- it has the head of the one that begins alike, if the fan lies there too
  same_head-front : (place : ChunkRange) → IsChunkAt (filled front len) fan_id place → place.end ≤ length front
      → HaveSameHead (filled front len) file
  unfolding fan_of chunk_of chunk_range_of
  same_head-front place at fan =
      let whole = filled front len in
      let range : range_of (table_of file) fan_id ≡ Some (place.start, place.end) =
      sym (range_by_head whole file front-size front-starts fan_id) ∙ at.range in
      let part : slice_range whole place.start place.end ≡ slice_range file place.start place.end =
      filled-range front len place.start place.end fan
      ∙ ap (λ (xs : List ℕ). slice_range xs place.start place.end) (sym begins.starts)
      ∙ slice-front (length front) place.start place.end file fan in
      let chunks : chunk_of whole fan_id ≡ chunk_of file fan_id =
      at.chunk
      ∙ ap (λ (bs : List ℕ). Some bs) part
      ∙ sym (ap (option_map (λ (p : ℕ × ℕ). slice_range file p.0 p.1)) range) in
      record {
        size = front-size;
        front = front-starts;
        fan = ap (λ (o : Option (List ℕ)). words (unwrap_or o [])) chunks;
      }

pub layout_of_head-each : (front : List ℕ) (len : ℕ) (layout : Layout) → length front ≤ len
    → table_end (filled front len) ≤ length front → layout.chunks.fan.end ≤ length front → IsLayout (filled front len) layout
    → IsLayoutOfHead front len layout
layout_of_head-each front len layout fits table fan kept = record {
  each = λ file begins.
      head_layout (filled front len) file
      (same_head-front file front len begins fits table layout.chunks.fan kept.chunks.fan fan) layout kept;
  fan_lies = fan;
}

-- the table of the file that is 0 past these bytes lies within them, if theirs does
table-within : (front : List ℕ) (len : ℕ) → length front ≤ len → table_end front ≤ length front
    → table_end (filled front len) ≤ length front
table-within front len fits h = rw (filled-index front len 6 (omega (arith, h))) h

-- the table of chunks lies in these bytes, if they are not refused for it
pub outline-table : (front : List ℕ) (len : ℕ) (outline : Outline) → length front ≤ len → min len (table_end front) ≤ length front
    → IsOutline (filled front len) outline → table_end (filled front len) ≤ length front
outline-table front len outline fits h is = ⊎_elim
    (λ (part : length front < len). table-within front len fits (omega (arith, h, part)))
    (λ (all : len ≤ length front). omega (arith, all, is.table, filled-len front len fits))
    (cases_lt (length front) len)

-- what the header, the table of chunks and the length refuse
pub refused-by-head : (front : List ℕ) (len : ℕ) (error : FileError) → length front ≤ len
    → min len (table_end front) ≤ length front → refusal_by_head (filled front len) ≡ Some error
    → (file : List ℕ) → BeginsWith file front len → refusal file ≡ Some error
refused-by-head front len error fits h refused file begins =
    let same : refusal_by_head file ≡ Some error = ⊎_elim
    (λ (part : length front < len).
    let table = table-within front len fits (omega (arith, h, part)) in
    sym (head_by_head (filled front len) file (front-size file front len begins fits table)
    (front-starts file front len begins fits table))
    ∙ refused)
    (λ (all : len ≤ length front). ap refusal_by_head (sym (whole-file file front len begins all fits)) ∙ refused)
    (cases_lt (length front) len) in
    refusal-grouped file ∙ ap (λ (o : Option FileError). o otherwise refusal_by_fan file) same

-- and what the fan refuses besides
pub refused-by-fan : (front : List ℕ) (len : ℕ) (outline : Outline) (error : FileError) → length front ≤ len
    → min len (table_end front) ≤ length front → IsOutline (filled front len) outline
    → outline.chunks.fan.end ≤ length front → refusal_by_head (filled front len) ≡ None
    → refusal_by_fan (filled front len) ≡ Some error → (file : List ℕ) → BeginsWith file front len → refusal file ≡ Some error
refused-by-fan front len outline error fits h is fan none refused file begins =
    let whole = filled front len in
    let table = outline-table front len outline fits h is in
    let same = same_head-front file front len begins fits table outline.chunks.fan is.chunks.fan fan in
    sym (head_refusal whole file same)
    ∙ refusal-grouped whole
    ∙ ap (λ (o : Option FileError). o otherwise refusal_by_fan whole) none
    ∙ refused

pub ruleset head_laws = (head_refusal, head_range)
