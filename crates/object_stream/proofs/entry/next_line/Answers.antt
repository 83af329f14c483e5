use Rattle.std.proofs.Common.{◌≡◌, length, subst, sym}
use Rattle.std.specs.Prelude.{IfSome, nat_lt, if◌then◌else◌}
use Rattle.std.specs.Io.KnownBytes.{prepend_known}
use Rattle.object_stream.specs.BatchEntry.{longest_line}
use Rattle.object_stream.specs.NextEntry.{MayStop}
use Rattle.object_stream.specs.declared.error.EntryError.TheVariants as error
use Rattle.object_stream.specs.declared.error.StreamError.TheVariants.{Entry}
use Rattle.object_stream.proofs.EntryLemmas.{found_object}
use Rattle.object_stream.proofs.TakingLemmas.{no_line_stop, other_line_stop}
use Rattle.object_stream.proofs.entry.next_line.Goals as goal

pub returns-in_default-line_end-clause-refused : goal.returns-in_default-line_end-clause-refused
returns-in_default-line_end-clause-refused g c =
    let before = prepend_known c.args.buffer.now (g.R.Read.remaining c.args.reader.now) in
    let view = c.fill_line.new.self in
    let told : c.no_line.result ≡ Entry (if nat_lt (length view) longest_line then error.Ends else error.NoEntry) =
    rw c.bytes-bytes.ensures at c.no_line.ensures in
    let none = rw c.bytes-bytes.ensures at c.in_default-line_end.ensures in
    subst (λ e. IfSome before (λ bytes. MayStop c.args.kind c.args.object_type c.args.expected.now bytes e)) (sym told)
    (no_line_stop c.args.kind c.args.object_type c.args.expected.now before (g.R.Read.remaining c.fill_line.new.reader)
    view c.in_ok-fill_line.ensures.kept none (c.in_ok-fill_line.ensures.end none))

pub returns-in-Ok-clause-found : goal.returns-in-Ok-clause-found
returns-in-Ok-clause-found g c =
    found_object c.args.kind c.args.object_type c.fill_line.new.self c.in-Some-line_end.line c.in-Ok.size
    (rw c.bytes-bytes.ensures at c.in-Some-line_end.ensures) (rw c.bytes-bytes.ensures at c.in-Ok.ensures.size)

pub returns-in-Err-clause-refused : goal.returns-in-Err-clause-refused
returns-in-Err-clause-refused g c =
    other_line_stop c.args.kind c.args.object_type c.args.expected.now
    (prepend_known c.args.buffer.now (g.R.Read.remaining c.args.reader.now))
    (g.R.Read.remaining c.fill_line.new.reader) c.fill_line.new.self c.in_ok-fill_line.ensures.kept
    c.in-Some-line_end.line c.in-Err.error
    (rw c.bytes-bytes.ensures at c.in-Some-line_end.ensures) (rw c.bytes-bytes.ensures at c.in-Err.ensures.size)
