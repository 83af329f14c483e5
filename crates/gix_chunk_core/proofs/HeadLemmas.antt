-- what is read of a file whose first bytes are known
use Rattle.std.proofs.Common.{◌≡◌, ℕ, ◌-◌, ◌<◌, ◌≤◌, List, ◌++◌, length, take, slice_index, slice_range, drop}
use Rattle.std.proofs.Common.{sym, ap, ◌∙◌, arith, length-append}
use Rattle.std.proofs.Math.ListN.{replicate}
use Rattle.std.proofs.lemmas.List.{append-nil, length-replicate, get_or_append_left, take-append-le}
use Rattle.std.proofs.lemmas.Slice.{between_is}
use Rattle.gix_chunk_core.specs.FirstBytes.{filled}

pub filled-len : (front : List ℕ) (len : ℕ) → length front ≤ len → length (filled front len) ≡ len
unfolding filled
filled-len front len h =
    omega (arith, length-append front (replicate (len - length front) 0), length-replicate {A = ℕ} (len - length front) 0)

pub filled-take : (front : List ℕ) (len n : ℕ) → n ≤ length front → take n (filled front len) ≡ take n front
unfolding filled
filled-take front len n h = take-append-le n front (replicate (len - length front) 0) h

pub filled-range : (front : List ℕ) (len s e : ℕ) → e ≤ length front
    → slice_range (filled front len) s e ≡ slice_range front s e
filled-range front len s e h =
    between_is (filled front len) s e ∙ ap (drop s) (filled-take front len e h) ∙ sym (between_is front s e)

pub filled-index : (front : List ℕ) (len i : ℕ) → i < length front
    → slice_index (filled front len) i ≡ slice_index front i
unfolding filled
filled-index front len i h = get_or_append_left front (replicate (len - length front) 0) 0 i h

-- all bytes are known
pub filled-whole : (bytes : List ℕ) → filled bytes (length bytes) ≡ bytes
unfolding filled
filled-whole bytes =
    ap (λ (n : ℕ). bytes ++ replicate n 0) (none (length bytes)) ∙ append-nil bytes
  where
    none : (n : ℕ) → n - n ≡ 0
    none n = omega arith

pub ruleset entry_laws = (filled-range)

pub ruleset len_laws = (filled-len)

pub ruleset whole_laws = (filled-whole)

pub ruleset head_laws = (filled-len, filled-index, filled-range, filled-take)
