-- The byte is at this place, or at none.
use Rattle.std.proofs.Common.{subst, List, ℕ}
use Rattle.std.proofs.lemmas.List.{take_all}
use Rattle.question_lines.specs.BytePlaces.{HasNone}
use Rattle.question_lines.proofs.LineLemmas.{none_more}
use Rattle.question_lines.proofs.place.place_of.Goals as goal

pub returns-then-found-byte : goal.returns-then-found-byte
returns-then-found-byte c = (c.loop-place-test.true, c.loop-place.invariant, c.if-found-byte.true)

pub loop-place-preserved : goal.loop-place-preserved
loop-place-preserved c =
    none_more c.args.byte c.args.bytes.now c.loop-place.place c.loop-place.invariant c.loop-place-test.true c.if-found-byte.false

pub returns : goal.returns
returns c =
    subst (λ (bytes : List ℕ). HasNone c.args.byte bytes) (take_all c.loop-place.place c.args.bytes.now c.loop-place-test.false)
    c.loop-place.invariant
