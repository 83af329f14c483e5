-- What is added is the parts of the lines, one after another.
use Rattle.std.proofs.Common.{append_assoc}
use Rattle.std.proofs.KnownBytes.{Appends-trans}
use Rattle.graph_commands.proofs.BufferLemmas.{appends_last}
use Rattle.answer_lines.proofs.push.push_counts.Goals as goal

pub returns : goal.returns
returns g c =
    let ahead = Appends-trans _ _ _ _ _ c.in_ok-push_text.ensures c.in_ok-push_decimal.ensures in
    let behind =
    Appends-trans _ _ _ _ _ (Appends-trans _ _ _ _ _ ahead c.in_ok-push_text-2.ensures) c.in_ok-push_decimal-2.ensures in
    let visits =
    Appends-trans _ _ _ _ _ (Appends-trans _ _ _ _ _ behind c.in_ok-push_text-3.ensures) c.in_ok-push_decimal-3.ensures in
    appends_last c.push_byte.result _ _ _ _ _ _ visits c.push_byte.ensures (simp append_assoc)
