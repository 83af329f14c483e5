-- The bytes up to the line feed are added.
use Rattle.std.proofs.Common.{◌≡◌, ℕ, ◌+◌, List, [], ◌∷◌, ◌++◌, ap, append-nil, sym, take, ◌∙◌}
use Rattle.std.specs.Prelude.{slice_range}
use Rattle.question_lines.specs.InputLines.{LineView, most_kept_bytes}
use Rattle.question_lines.proofs.LineLemmas.{begin_without_feed, on_error, split_at_feed}
use Rattle.question_lines.proofs.lines.LineReader.take_to_feed.Goals as goal

pub returns-in_ok-keep-in-Some-clause-found : goal.returns-in_ok-keep-in-Some-clause-found
returns-in_ok-keep-in-Some-clause-found c =
    let piece = c.self.inside.piece.items in
    let start = c.self.inside.start in
    let end = c.self.inside.end in
    let at = rw c.deref.ensures.value at c.in-Some.ensures in
    let view = ap (λ (v : LineView). v.ahead) c.self.view_is in
    let line = ap (λ (v : LineView). v.line) c.self.view_is in
    let text = take c.in-Some.place (slice_range piece start end) in
    let added : c.self.inside.line.items ++ take c.in-Some.place (slice_range c.deref.result.now start end)
    ≡ c.args.self.now.line ++ text =
    ap (λ (bytes : List ℕ). c.self.inside.line.items ++ take c.in-Some.place (slice_range bytes start end)) c.deref.ensures.value
    ∙ ap (λ (l : List ℕ). l ++ text) line in
    λ yes. (
      text,
      at.1,
      sym view ∙ split_at_feed piece start end c.in-Some.place c.self.invariant.0 at,
      c.in_ok-keep-in-Some.ensures.kept ∙ ap (λ (l : List ℕ). take most_kept_bytes l) added,
    )

pub returns-in_err-keep-in-Some-clause-memory : goal.returns-in_err-keep-in-Some-clause-memory
returns-in_err-keep-in-Some-clause-memory c =
    let piece = c.self.inside.piece.items in
    let start = c.self.inside.start in
    let end = c.self.inside.end in
    let place = c.in-Some.place in
    let at = rw c.deref.ensures.value at c.in-Some.ensures in
    let some = rw c.deref.ensures.value at c.in_err-keep-in-Some.ensures.memory in
    let view = ap (λ (v : LineView). v.ahead) c.self.view_is in
    on_error c.from_residual.result
    (begin_without_feed (take place (slice_range piece start end)) (10 ∷ slice_range piece (start + (place + 1)) end)
    c.args.self.now.ahead at.1 some (sym view ∙ split_at_feed piece start end place c.self.invariant.0 at))

pub returns-in_err-keep-in-None-clause-memory : goal.returns-in_err-keep-in-None-clause-memory
returns-in_err-keep-in-None-clause-memory c =
    let ahead = slice_range c.self.inside.piece.items c.self.inside.start c.self.inside.end in
    let none = rw c.deref.ensures.value at c.in-None.ensures in
    let some = rw c.deref.ensures.value at c.in_err-keep-in-None.ensures.memory in
    let view = ap (λ (v : LineView). v.ahead) c.self.view_is in
    on_error c.from_residual-in_err-keep-in-None.result
    (begin_without_feed ahead [] c.args.self.now.ahead none some (sym view ∙ sym (append-nil ahead)))
