use Rattle.std.proofs.Common.{◌∙◌}
use Rattle.gix_commitgraph.proofs.opening.Utf8Lemmas.{is_ok-from_utf8}
use Rattle.gix_commitgraph.proofs.opening.chain.text_of.Goals as goal

pub returns-clause-variant : goal.returns-clause-variant
returns-clause-variant c = c.ok.ensures.variant
    ∙ is_ok-from_utf8 c.args.line.now c.from_utf8.result _ _ c.from_utf8.ensures.cases
