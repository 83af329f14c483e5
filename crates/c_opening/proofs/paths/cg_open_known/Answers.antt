use Rattle.std.proofs.Common.{Err, List, subst, ℕ}
use Rattle.c_opening.proofs.ToldPath.{refuses, tells_answer, wants_path}
use Rattle.c_opening.specs.KnownOpening.{AnswersAs, known_opened}
use Rattle.c_opening.proofs.paths.cg_open_known.Goals as goal

pub returns-in-Err-clause-answer : goal.returns-in-Err-clause-answer
returns-in-Err-clause-answer c = λ text other.
    let answer =
    subst (λ (path : List ℕ). AnswersAs (known_opened c.args.what c.args.known.now path) (Err c.in-Err.why))
    c.in-Ok.ensures.cases.0 c.in-Err.ensures.answer in
    tells_answer c.args.known.now c.tell.result c.args.file.now c.tell.new.file
    (known_opened c.args.what c.args.known.now c.args.path.now) c.in-Err.why answer c.tell.ensures.told other

pub returns-in-Err-clause-wanted : goal.returns-in-Err-clause-wanted
returns-in-Err-clause-wanted c = λ wanted.
    let answer =
    subst (λ (path : List ℕ). AnswersAs (known_opened c.args.what c.args.known.now path) (Err c.in-Err.why))
    c.in-Ok.ensures.cases.0 c.in-Err.ensures.answer in
    wants_path c.args.known.now c.tell.result c.args.file.now c.tell.new.file
    (known_opened c.args.what c.args.known.now c.args.path.now) c.in-Err.why answer c.tell.ensures.told
    (c.tell.ensures.wanted wanted)

pub returns-in-Err-clause-refused : goal.returns-in-Err-clause-refused
returns-in-Err-clause-refused c = λ code text other.
    refuses c.args.what c.tell.result c.args.file.now c.tell.new.file c.args.known.now c.in-Err.why c.in-Err.ensures.refused
    c.tell.ensures.told other
