-- The bytes that were taken so far have no line feed, and the line is what is kept of them.
use Rattle.std.proofs.Common.{◌≡◌, ℕ, List, take}
use Rattle.std.specs.Io.KnownBytes.{Consumes, prepend_known}
use Rattle.question_lines.specs.InputLines.{most_kept_bytes}
use Rattle.question_lines.specs.BytePlaces.{HasNone}
use Rattle.question_lines.proofs.lines.LineReader.read.Given as goal

abbrev pub invariant-loop : goal.invariant-loop
invariant-loop g l =
    (taken : List ℕ) × HasNone 10 taken × (l.self.line ≡ take most_kept_bytes taken)
    × Consumes (prepend_known l.initial.self.ahead (g.R.Read.remaining l.initial.reader))
    (prepend_known l.self.ahead (g.R.Read.remaining l.reader)) taken
