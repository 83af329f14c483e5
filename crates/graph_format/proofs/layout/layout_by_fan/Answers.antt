use Rattle.std.proofs.Common.{◌≡◌, None, arith}
use Rattle.gix_chunk_core.specs.FirstBytes.{filled}
use Rattle.gix_chunk_core.proofs.HeadLemmas.{filled-index}
use Rattle.graph_format.specs.Format.{kind_in}
use Rattle.graph_format.specs.RefusalGroups.{counts_refusal}
use Rattle.graph_format.proofs.RefusalGroupLemmas.{refusal-none}
use Rattle.graph_format.proofs.layout.layout_by_fan.Goals as goal

pub returns-clause-layout : goal.returns-clause-layout
returns-clause-layout c =
    let whole = filled c.args.front.now c.args.len in
    let outline = c.requires.outline in
    let counts : counts_refusal (kind_in whole) whole ≡ None = rw outline.kind c.in_ok-check_counts.ensures in
    record {
      none = refusal-none whole c.requires.head c.in_ok-check_rising.ensures counts;
      kind = outline.known;
      commits = c.fan_at_head-commits.ensures;
      base_count = omega (arith, filled-index c.args.front.now c.args.len 7 (omega arith));
      chunks = outline.chunks;
      trailer_start = outline.trailer_start;
    }
