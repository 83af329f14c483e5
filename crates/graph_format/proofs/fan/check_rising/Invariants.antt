use Rattle.std.proofs.Common.{◌≡◌, None}
use Rattle.gix_chunk_core.specs.FirstFault.{first_below}
use Rattle.gix_chunk_core.specs.FirstBytes.{filled}
use Rattle.graph_format.specs.Format.{fan_of}
use Rattle.graph_format.specs.Refusal.{fall_after}
use Rattle.graph_format.proofs.fan.check_rising.Given as goal

-- no number so far is less than the one before
abbrev pub invariant-loop-i : goal.invariant-loop-i
invariant-loop-i l = first_below (fall_after (fan_of (filled l.front l.len))) l.i ≡ None
