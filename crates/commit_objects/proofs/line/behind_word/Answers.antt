use Rattle.std.proofs.lemmas.Slice.Eq.{strip_prefix_is}
use Rattle.std.proofs.lemmas.Bool.Decides.{Decides-eqb}
use Rattle.commit_objects.proofs.LineLemmas.{begins_where_some}
use Rattle.commit_objects.proofs.TimeLemmas.{behind_word_is}
use Rattle.commit_objects.proofs.line.behind_word.Goals as goal

pub returns-clause-cases : goal.returns-clause-cases
returns-clause-cases c =
    begins_where_some c.args.bytes.now c.args.word.now c.strip_prefix.result
    (strip_prefix_is Decides-eqb c.args.bytes.now c.args.word.now c.strip_prefix.result c.strip_prefix.ensures.cases)

pub returns-clause-value : goal.returns-clause-value
returns-clause-value c =
    behind_word_is c.args.word.now c.args.bytes.now c.strip_prefix.result
    (strip_prefix_is Decides-eqb c.args.bytes.now c.args.word.now c.strip_prefix.result c.strip_prefix.ensures.cases)
