use Rattle.std.proofs.Common.{◌≡◌, ℕ, ◌+◌, ◌^◌, ◌<◌, List, ◌∷◌, ◌++◌, [], take, drop, arith, sym, subst}
use Rattle.std.proofs.lemmas.Result.{err_from_is_err_and}
use Rattle.std.specs.Prelude.{IfSome}
use Rattle.std.specs.Io.KnownBytes.{Consumes, prepend_known}
use Rattle.commit_objects.specs.Object.{object_id_of}
use Rattle.object_stream.specs.BatchEntry.{object_line}
use Rattle.object_stream.proofs.EntryLemmas.{entry_passed, entry_read}
use Rattle.object_stream.specs.declared.object_type.ObjectType.TheVariants as object
use Rattle.write_commands.specs.NewEntries.{MayStopAt}
use Rattle.write_commands.proofs.EntrySteps.{commit_taken, contents_stop, entry_stop, some_there}
use Rattle.write_commands.proofs.read.read_commit.Goals as goal

pub returns-in-Err-clause-err : goal.returns-in-Err-clause-err
returns-in-Err-clause-err g c =
    let known = g.R.Read.remaining c.args.reader.now in
    let before = prepend_known c.args.buffer.now known in
    subst (λ e. IfSome before (λ bytes. MayStopAt c.args.kind c.args.number bytes e)) (sym c.error_at.ensures)
    (entry_stop c.args.kind c.args.number before c.in-Err.error (some_there c.args.buffer.now known c.requires)
    c.in-Err.ensures.refused)

pub returns-in_err-commit-clause-err : goal.returns-in_err-commit-clause-err
returns-in_err-commit-clause-err g c =
    let kind = c.args.kind in
    let entry = c.in-Ok.entry in
    let view : List ℕ = c.next_entry.new.buffer in
    let known = g.R.Read.remaining c.next_entry.new.reader in
    let before = prepend_known c.args.buffer.now (g.R.Read.remaining c.args.reader.now) in
    let front = c.in-Ok.ensures.contents in
    let fits : entry.size < 2 ^ 64 = omega arith in
    let line : Consumes before (prepend_known view known)
    (object_line object.Commit (object_id_of kind (take entry.size view)) entry.size ++ 10 ∷ []) =
    rw front.own at c.in-Ok.ensures.line in
    let handed = err_from_is_err_and c.from_residual.result c.from_residual.ensures.1 in
    rw (handed.1, handed.2)
    (contents_stop kind c.args.number (take entry.size view) before _
    (entry_read object.Commit before known
    (object_id_of kind (take entry.size view)) view entry.size line front.within front.feed fits)
    (rw c.bytes.ensures at c.in_err-commit.ensures.refused))

pub returns-clause-ok : goal.returns-clause-ok
returns-clause-ok g c =
    let kind = c.args.kind in
    let entry = c.in-Ok.entry in
    let view : List ℕ = c.next_entry.new.buffer in
    let known = g.R.Read.remaining c.next_entry.new.reader in
    let before = prepend_known c.args.buffer.now (g.R.Read.remaining c.args.reader.now) in
    let front = c.in-Ok.ensures.contents in
    let fits : entry.size < 2 ^ 64 = omega arith in
    let line : Consumes before (prepend_known view known)
    (object_line object.Commit (object_id_of kind (take entry.size view)) entry.size ++ 10 ∷ []) =
    rw front.own at c.in-Ok.ensures.line in
    let left : c.consume.new.self ≡ drop (entry.size + 1) view = c.consume.ensures in
    rw left
    (commit_taken kind c.in_ok-commit.commit (take entry.size view) before (prepend_known (drop (entry.size + 1) view) known)
    (entry_passed object.Commit before known
    (object_id_of kind (take entry.size view)) view entry.size line front.within front.feed fits)
    (rw c.bytes.ensures at c.in_ok-commit.ensures.commit))
