-- There is no word after the path.
use Rattle.std.proofs.Common.{rules, ◌≡◌, ◌≢◌, [], ap, arith, map, string_bytes}
use Rattle.std.specs.Prelude.{codes}
use Rattle.std.proofs.lemmas.List.{nil_from_length}
use Rattle.historytool.proofs.command.Command.ask_unchecked.Goals as goal

pub returns-in-empty-clause-asked : goal.returns-in-empty-clause-asked
returns-in-empty-clause-asked c help version =
    let none : c.args.others.now ≡ [] = nil_from_length c.args.others.now (omega (arith, c.in-empty.len_below)) in
    let rest : map string_bytes c.args.others.now ≡ [] = ap (map string_bytes) none in
    let option = c.in-text.is in
    let other : c.args.path.now ≢ codes "--newer" = search rules in
    (cc, other)
