use Rattle.std.proofs.Common.{◌<◌, ◌^◌, ap, ◌∙◌, arith}
use Rattle.std.proofs.lemmas.Fmt.{parse-decimal}
use Rattle.std.specs.Result.{result_ok}
use Rattle.object_commands.proofs.range.parsed.Goals as goal

pub returns : goal.returns
returns c = λ n small e.
    let fits : n < 2 ^ 64 = omega arith in
    c.ok.ensures.value ∙ ap result_ok (parse-decimal 32 n c.args.text.now c.parse.result small fits e c.parse.ensures.value.0)
