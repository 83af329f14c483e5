-- laws of the fan
use Rattle.std.proofs.Common.{◌≡◌, ℕ, ◌+◌, ◌*◌, ◌<◌, Bool, List, [], length, Option, Some, None, slice_range, slice_index}
use Rattle.std.proofs.Common.{unwrap_or, ap, ◌∙◌, arith}
use Rattle.std.specs.Int.{w32, from_be_bytes}
use Rattle.std.specs.Bool.{then_some}
use Rattle.std.proofs.lemmas.Bool.{lt-ltb}
use Rattle.gix_chunk_core.specs.FirstFault.{first_below}
use Rattle.graph_format.specs.Refusal.{fall_after, falling_refusal}
use Rattle.graph_format.specs.declared.error.FileError.TheVariants.{FanFalls}
use Rattle.gix_chunk_core.proofs.FirstFaultLemmas.{first_below-none, first_below-none_more, first_below-found}
use Rattle.graph_format.specs.Format.{words, fan_of, fan_id}
use Rattle.graph_format.specs.ChunkRanges.{IsChunkAt}
use Rattle.graph_format.specs.declared.chunks.ChunkRange.{ChunkRange}
use Rattle.graph_format.proofs.PieceLemmas.{length-slice_range}
use Rattle.graph_format.proofs.PieceLemmas.{slice_range-slice_range, words-at}

pub fan_of-at : (bytes : List ℕ) (fan : ChunkRange) (i : ℕ) → IsChunkAt bytes fan_id fan → fan.end ≡ fan.start + 1024 → i < 256
    → slice_index (fan_of bytes) i ≡ from_be_bytes w32 (slice_range bytes (fan.start + 4 * i) (fan.start + 4 * i + 4))
unfolding fan_of
fan_of-at bytes fan i place size h =
    let long : length (slice_range bytes fan.start fan.end) ≡ 1024 = length-slice_range bytes fan.start fan.end place.in_file
    ∙ omega arith in
    ap (λ (o : Option (List ℕ)). slice_index (words (unwrap_or o [])) i) place.chunk
    ∙ words-at (slice_range bytes fan.start fan.end) i (omega (arith, long))
    ∙ ap (from_be_bytes w32) (slice_range-slice_range bytes fan.start fan.end (4 * i) (4 * i + 4) (omega arith))
    ∙ ap (λ (k : ℕ). from_be_bytes w32 (slice_range bytes (fan.start + 4 * i) k)) (omega arith)

pub ruleset fan_laws = (fan_of-at)

-- the first entry that is less than the one before it
pub falling_refusal-found : (fan : List ℕ) (i : ℕ) → first_below (fall_after fan) i ≡ None
    → slice_index fan (i + 1) < slice_index fan i → i < 255 → falling_refusal fan ≡ Some (FanFalls (i + 1))
unfolding falling_refusal
falling_refusal-found fan i none falls below =
    first_below-found (fall_after fan) i 255 _ none (ap (λ (b : Bool). then_some b (FanFalls (i + 1))) (lt-ltb _ _ falls)) below

pub ruleset first_laws = (first_below-none, first_below-none_more, falling_refusal-found)
