-- From the bytes that were taken to the line.
use Rattle.std.proofs.Common.{◌≡◌, ℕ, ◌<◌, List, [], ◌++◌, false, length, take, ap, subst, ◌∙◌, arith}
use Rattle.std.specs.Io.KnownBytes.{prepend_known}
use Rattle.std.proofs.KnownBytes.{Consumes-kept}
use Rattle.std.proofs.lemmas.List.{length-take}
use Rattle.std.proofs.lemmas.List.Elements.{All-nil}
use Rattle.std.specs.Prelude.{◌==◌}
use Rattle.question_lines.specs.InputLines.{LineView, most_kept_bytes}
use Rattle.question_lines.proofs.LineLemmas.{begin_taken, consumes_ahead, consumes_none, if_error, no_bytes, none_append}
use Rattle.question_lines.proofs.LineLemmas.{some_bytes}
use Rattle.question_lines.proofs.LineLemmas.{takes_last, takes_line, takes_none, taken_more, taken_to_end}
use Rattle.question_lines.proofs.lines.LineReader.read.Goals as goal

pub loop-init : goal.loop-init
loop-init g c = ([], All-nil (λ (b : ℕ). (b == 10) ≡ false), c.clear.ensures.items, consumes_none _)

pub take_to_feed-requires : goal.take_to_feed-requires
take_to_feed-requires g c =
    let taken = c.loop.invariant in
    omega (arith, ap length taken.2, length-take most_kept_bytes taken.0)

pub returns-in_err-take_to_feed-clause-memory : goal.returns-in_err-take_to_feed-clause-memory
returns-in_err-take_to_feed-clause-memory g c =
    let known = g.R.Read.remaining in
    let taken = c.loop.invariant in
    let view = ap (λ (v : LineView). v.ahead) c.self.view_is in
    let consumed = rw view at taken.3 in
    if_error c.from_residual.result
    (λ error wanted. begin_taken (prepend_known c.args.self.now.ahead (known c.args.reader.now)) (known c.loop.reader) taken.0
    c.loop.self.ahead consumed taken.1 c.in_err-take_to_feed.ensures.memory)

pub returns-then-branch-clause-line : goal.returns-then-branch-clause-line
returns-then-branch-clause-line g c = λ yes.
    let known = g.R.Read.remaining in
    let taken = c.loop.invariant in
    let found = c.in_ok-take_to_feed.ensures.found c.if-branch.true in
    let view = ap (λ (v : LineView). v.ahead) c.self.view_is in
    let consumed = rw view at taken.3 in
    rw (c.strip_return.ensures.line, c.strip_return.ensures.ahead)
    (takes_line (prepend_known c.args.self.now.ahead (known c.args.reader.now)) (known c.loop.reader) taken.0 found.0
    c.loop.self.ahead c.take_to_feed.new.self.ahead c.take_to_feed.new.self.line consumed taken.1 found.1 found.2
    (found.3 ∙ ap (λ (l : List ℕ). take most_kept_bytes (l ++ found.0)) taken.2))

pub returns-then-not-branch-clause-line : goal.returns-then-not-branch-clause-line
returns-then-not-branch-clause-line g c = λ yes.
    let known = g.R.Read.remaining in
    let taken = c.loop.invariant in
    let none = c.in_ok-take_to_feed.ensures.none c.if-branch.false in
    let end = c.in_ok-read_piece.ensures.end c.if-not-branch.true in
    let view = ap (λ (v : LineView). v.ahead) c.self.view_is in
    let line = ap (λ (v : LineView). v.line) c.self-in-loop.view_is in
    let before = prepend_known c.args.self.now.ahead (known c.args.reader.now) in
    let consumed = rw view at taken.3 in
    let some = subst (λ (l : List ℕ). 0 < length l) line (some_bytes c.self-in-loop.inside.line c.is_empty.result
    c.is_empty.ensures yes) in
    rw end.0
    (takes_last before (known c.read_piece.new.reader) (taken.0 ++ c.loop.self.ahead) c.read_piece.new.self.line
    (taken_to_end before (known c.loop.reader) (known c.read_piece.new.reader) taken.0 c.loop.self.ahead
    c.read_piece.new.self.ahead consumed c.in_ok-read_piece.ensures.kept end.0) end.1
    (none_append taken.0 c.loop.self.ahead taken.1 none.0)
    (c.in_ok-read_piece.ensures.line ∙ taken_more taken.0 c.loop.self.ahead c.loop.self.line c.take_to_feed.new.self.line taken.2
    none.2)
    some)

pub returns-then-not-branch-clause-end : goal.returns-then-not-branch-clause-end
returns-then-not-branch-clause-end g c = λ no.
    let known = g.R.Read.remaining in
    let taken = c.loop.invariant in
    let none = c.in_ok-take_to_feed.ensures.none c.if-branch.false in
    let end = c.in_ok-read_piece.ensures.end c.if-not-branch.true in
    let view = ap (λ (v : LineView). v.ahead) c.self.view_is in
    let line = ap (λ (v : LineView). v.line) c.self-in-loop.view_is in
    let before = prepend_known c.args.self.now.ahead (known c.args.reader.now) in
    let consumed = rw view at taken.3 in
    let empty = subst (λ (l : List ℕ). length l ≡ 0) line (no_bytes c.self-in-loop.inside.line c.is_empty.result
    c.is_empty.ensures no) in
    rw end.0
    (takes_none before (known c.read_piece.new.reader) (taken.0 ++ c.loop.self.ahead) c.read_piece.new.self.line
    (taken_to_end before (known c.loop.reader) (known c.read_piece.new.reader) taken.0 c.loop.self.ahead
    c.read_piece.new.self.ahead consumed c.in_ok-read_piece.ensures.kept end.0) end.1
    (c.in_ok-read_piece.ensures.line ∙ taken_more taken.0 c.loop.self.ahead c.loop.self.line c.take_to_feed.new.self.line taken.2
    none.2)
    empty)

pub loop-preserved : goal.loop-preserved
loop-preserved g c =
    let known = g.R.Read.remaining in
    let taken = c.loop.invariant in
    let none = c.in_ok-take_to_feed.ensures.none c.if-branch.false in (
      taken.0 ++ c.loop.self.ahead,
      none_append taken.0 c.loop.self.ahead taken.1 none.0,
      c.in_ok-read_piece.ensures.line ∙ taken_more taken.0 c.loop.self.ahead c.loop.self.line c.take_to_feed.new.self.line
          taken.2 none.2,
      Consumes-kept _ (known c.loop.reader) _ (taken.0 ++ c.loop.self.ahead) (consumes_ahead _ (known c.loop.reader) taken.0
          c.loop.self.ahead taken.3) c.in_ok-read_piece.ensures.kept,
    )
