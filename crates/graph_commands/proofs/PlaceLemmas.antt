-- The lines of a layer's commits, from its positions to its ids and records.
use Rattle.std.proofs.Common.{◌≡◌, ℕ, zero, suc, ◌+◌, ◌-◌, [], length, drop, get_or, map, refl, arith}
use Rattle.std.specs.List.{flat_map, enumerate_from, range_with_len, zip}
use Rattle.std.proofs.lemmas.List.{drop_all, drop_more}
use Rattle.std.proofs.lemmas.Option.{unwrap_or-slice_get}
use Rattle.graph_format.specs.Layer.{Layer, record_at, no_record}
use Rattle.graph_format.specs.Layer.{positions_from}
use Rattle.graph_commands.specs.Listing.{commit_line, commit_lines}
use Rattle.graph_commands.specs.PositionLines.{position_line}

-- the line at a position
position_line-get : (layer : Layer) (i : ℕ)
    → position_line (layer, i) ≡ commit_line layer.edges (i, (get_or layer.ids i [], get_or layer.records i no_record))
unfolding record_at
position_line-get layer i = rw (unwrap_or-slice_get layer.ids i [], unwrap_or-slice_get layer.records i no_record) refl

-- the lines from a position on
lines_from : (layer : Layer) (i n : ℕ) → i + n ≡ length layer.ids → i + n ≡ length layer.records
    → flat_map position_line (map (λ pos. (layer, pos)) (range_with_len i n))
    ≡ flat_map (commit_line layer.edges) (enumerate_from i (zip (drop i layer.ids) (drop i layer.records)))
lines_from layer i zero ids records =
    let none : drop i layer.ids ≡ [] = drop_all i layer.ids (omega arith) in
    rw none refl
lines_from layer i (suc n) ids records =
    let next = lines_from layer (i + 1) n (omega arith) (omega arith) in
    let id_next = drop_more layer.ids i [] (omega arith) in
    let record_next = drop_more layer.records i no_record (omega arith) in
    rw (id_next, record_next, position_line-get layer i, next) refl

-- all of them
pub place_lines-all : (layer : Layer) → length layer.ids ≡ length layer.records
    → flat_map position_line (positions_from layer 0) ≡ commit_lines layer
place_lines-all layer same =
    let all : length layer.ids - 0 ≡ length layer.ids = omega arith in
    rw all (lines_from layer 0 (length layer.ids) (omega arith) (omega arith))
