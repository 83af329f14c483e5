use Rattle.std.proofs.Common.{◌≡◌, Bool, true, false, not, [], get_or, refl}
use Rattle.std.specs.Prelude.{IsTrue}
use Rattle.std.proofs.lemmas.Option.{slice_get-get_or}
use Rattle.filter_checks.proofs.AnswerLemmas.{absent_is_clear, full_answers}
use Rattle.filter_checks.proofs.lack.may_lack.Goals as goal

is_true : (b : Bool) → not b ≡ false → IsTrue b
is_true true e = refl
is_true false e = absurd (let f = e in cc)

pub returns-in-Absent-clause-lacks : goal.returns-in-Absent-clause-lacks
returns-in-Absent-clause-lacks c = λ _.
    let all = c.args.filters.now in
    let filter = get_or all.filters c.args.pos.0 [] in
    let there = slice_get-get_or all.filters c.args.pos.0 [] c.requires in
    absent_is_clear all c.args.pos.0 filter _ there
    (λ none. absurd (let e = (c.in-Absent.ensures.not_computed filter there).1 none in cc))
    (c.in-Absent.ensures.absent filter there refl)

pub returns-in-Possible-clause-possible : goal.returns-in-Possible-clause-possible
returns-in-Possible-clause-possible c = λ full computed path.
    let filter = c.filter_at.result.now in
    full_answers c.args.filters.now c.args.pos.0 filter _ path c.filter_at.ensures
    (c.is_full.ensures.0 (is_true c.is_full.result full)) (c.in-Possible.ensures.possible filter c.filter_at.ensures refl)
    computed
