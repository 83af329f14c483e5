-- what a head says of the files that begin with it
use Rattle.std.proofs.Common.{◌≡◌, ℕ, ◌+◌, ◌*◌, ◌<◌, ◌≤◌, List, length, take, slice_index, slice_range}
use Rattle.std.proofs.Common.{refl, sym, ap, ◌∙◌, arith, drop}
use Rattle.std.specs.Int.{w32, from_be_bytes}
use Rattle.std.proofs.Math.Seq.{take-length}
use Rattle.std.proofs.lemmas.List.{take-take, length-take-le}
use Rattle.std.proofs.lemmas.Slice.{between_is}
use Rattle.gix_chunk_core.specs.FirstBytes.{filled}
use Rattle.gix_chunk_core.proofs.HeadLemmas.{filled-len, filled-take}
use Rattle.graph_format.specs.Format.{fan_of}
use Rattle.graph_format.specs.Head.{BeginsWith}
use Rattle.graph_format.specs.Layer.{decoded_layer}
use Rattle.graph_format.proofs.FanLemmas.{fan_of-at}
use Rattle.graph_layer.proofs.BucketLemmas.{view-fan-size}
use Rattle.graph_find.specs.ReadHead.{IsHead}
use Rattle.graph_find.specs.declared.head.Head.{Head}

-- the file that is 0 past the first bytes begins with them
pub begins-filled : (front : List ℕ) (len : ℕ) → length front ≤ len → BeginsWith (filled front len) front len
begins-filled front len fits = record {
  size = filled-len front len fits;
  starts = filled-take front len (length front) (omega arith) ∙ take-length front;
}

-- a part of the first bytes is that of the file
pub begins-range : (file front : List ℕ) (len s e : ℕ) → BeginsWith file front len → e ≤ length front
    → slice_range front s e ≡ slice_range file s e
begins-range file front len s e begins h =
    ap (λ (xs : List ℕ). slice_range xs s e) (sym begins.starts)
    ∙ between_is (take (length front) file) s e
    ∙ ap (drop s) (take-take e (length front) file h)
    ∙ sym (between_is file s e)

-- a file that begins with the start of these begins with fewer of them
pub begins-shorter : (file front : List ℕ) (len n : ℕ) → n ≤ length front → BeginsWith file front len
    → BeginsWith file (take n front) len
begins-shorter file front len n h begins = record {
  size = begins.size;
  starts =
      ap (λ (k : ℕ). take k file) (length-take-le n front h)
      ∙ sym (take-take n (length front) file h)
      ∙ ap (take n) begins.starts;
}

pub fan-size : (head : Head) → IsHead head → head.layout.chunks.fan.end ≡ head.layout.chunks.fan.start + 1024
fan-size head is =
    let file = filled head.front.items head.len in
    let kept = is.layout.each file (begins-filled head.front.items head.len is.fits) in
    view-fan-size file file head.layout (decoded_layer file file) kept refl

pub fan-number : (head : Head) (file : List ℕ) (i : ℕ) → IsHead head → BeginsWith file head.front.items head.len → i < 256
    → from_be_bytes w32 (slice_range head.front.items (head.layout.chunks.fan.start + 4 * i)
    (head.layout.chunks.fan.start + 4 * i + 4))
    ≡ slice_index (fan_of file) i
fan-number head file i is begins h =
    let start = head.layout.chunks.fan.start + 4 * i in
    let size = fan-size head is in
    let kept = is.layout.each file begins in
    ap (from_be_bytes w32)
    (begins-range file head.front.items head.len start (start + 4) begins (omega (arith, size, is.layout.fan_lies)))
    ∙ sym (fan_of-at file head.layout.chunks.fan i kept.chunks.fan size h)

pub ruleset fan_laws = (fan-size)
