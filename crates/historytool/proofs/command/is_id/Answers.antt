-- What was read of the text tells whether it spells an id.
use Rattle.std.proofs.Common.{◌≡◌}
use Rattle.historytool.proofs.WordsLemmas.{id_read}
use Rattle.historytool.proofs.command.is_id.Goals as goal

pub returns : goal.returns
returns c =
    let same : c.as_bytes.result.now ≡ c.args.text.now = cc (c.as_bytes.ensures.value) in
    id_read c.args.text.now c.as_bytes.result.now c.from_hex.result c.is_ok.result same c.is_ok.ensures.value
    c.from_hex.ensures.ok c.from_hex.ensures.err
