use Rattle.std.proofs.Common.{◌≡◌, ℕ, ◌<◌, take, length, slice_index}
use Rattle.graph_layer.proofs.FirstByteLemmas.{ids_with}
use Rattle.graph_layer.proofs.file.File.first_bytes.Given as goal

-- how many of the ids so far have each first byte
abbrev pub invariant-loop-pos : goal.invariant-loop-pos
invariant-loop-pos l = record {
  size : length l.counts ≡ 256;
  counted : (byte : ℕ) → byte < 256 → slice_index l.counts byte ≡ ids_with byte (take l.pos l.self.ids);
}
