use Rattle.std.proofs.Common.{◌≡◌, None}
use Rattle.std.specs.Io.KnownBytes.{prepend_known}
use Rattle.write_commands.specs.NewStream.{kind_of_stream}
use Rattle.write_commands.proofs.EntrySteps.{kind_read}
use Rattle.write_commands.proofs.read.kind_ahead.Goals as goal

pub returns-in_ok-fill-in-None-clause-kind : goal.returns-in_ok-fill-in-None-clause-kind
returns-in_ok-fill-in-None-clause-kind g c =
    let view = c.fill.new.self in
    let read = c.in_ok-fill-in-None in
    let is : c.kind_in_front.result ≡ kind_of_stream None view = rw c.bytes.ensures at c.kind_in_front.ensures in
    rw (c.in-None.is, is)
    (kind_read (prepend_known c.args.buffer.now (g.R.Read.remaining c.args.reader.now)) (g.R.Read.remaining c.fill.new.reader)
    view read.field-0 read.ensures.kept read.ensures.enough read.ensures.end)
