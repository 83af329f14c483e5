use Rattle.std.proofs.lemmas.Slice.Eq.{strip_prefix_is}
use Rattle.std.proofs.lemmas.Bool.Decides.{Decides-eqb}
use Rattle.std.proofs.Common.{decimal}
use Rattle.std.specs.Prelude.{Some, None}
use Rattle.object_stream.proofs.LineLemmas.{size_there}
use Rattle.object_stream.proofs.line.size_behind.Goals as goal

pub returns-in-Some : goal.returns-in-Some
returns-in-Some c =
    size_there c.args.word.now c.args.tail.now c.in-Some.text.now c.size_of.result
    (strip_prefix_is Decides-eqb c.args.tail.now c.args.word.now (Some c.in-Some.text) c.in-Some.ensures.cases) c.size_of.ensures

pub returns-in-None : goal.returns-in-None
returns-in-None c = λ n small same.
    strip_prefix_is Decides-eqb c.args.tail.now c.args.word.now None c.in-None.ensures.cases (decimal n) same
