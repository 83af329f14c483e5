-- The lines are written one after another.
use Rattle.std.proofs.Common.{◌++◌}
use Rattle.graph_commands.specs.Text.{newline}
use Rattle.show_commands.specs.LayerLines.{counts_line, checksum_line, chunks_text}
use Rattle.show_commands.proofs.LinesLemmas.{three_texts}
use Rattle.show_commands.proofs.layer.write_layer.Goals as goal

pub returns : goal.returns
returns g c =
    let layer = c.args.file.now in
    let checksum = rw c.checksum.ensures at c.in_ok-write_line.ensures.written in
    three_texts c.write_line-2.result _ _ _ _ (counts_line c.args.number layer) (checksum_line layer)
    (chunks_text layer ++ newline) c.in_ok-write_counts.ensures checksum c.write_line-2.ensures.written
