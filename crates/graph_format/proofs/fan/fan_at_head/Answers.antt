-- The fan lies in the first bytes.
use Rattle.std.proofs.Common.{◌+◌, ◌*◌, sym, ap, ◌∙◌, arith}
use Rattle.std.specs.Int.{w32, from_be_bytes}
use Rattle.gix_chunk_core.specs.FirstBytes.{filled}
use Rattle.gix_chunk_core.proofs.HeadLemmas.{filled-range}
use Rattle.graph_format.proofs.FanLemmas.{fan_of-at}
use Rattle.graph_format.proofs.fan.fan_at_head.Goals as goal

pub returns : goal.returns
returns c =
    let start = c.args.fan.start + 4 * c.args.i in
    c.word_at.ensures
    ∙ ap (from_be_bytes w32) (sym (filled-range c.args.front.now c.args.len start (start + 4) (omega arith)))
    ∙ sym (fan_of-at (filled c.args.front.now c.args.len) c.args.fan c.args.i c.requires.place c.requires.size c.requires.within)
