use Rattle.std.proofs.Common.{[], ◌∷◌, arith}
use Rattle.std.proofs.lemmas.List.{length-append}
use Rattle.std.proofs.lemmas.Result.{err_from_is_err_and}
use Rattle.std.specs.Io.KnownBytes.{prepend_known}
use Rattle.write_commands.proofs.StreamSteps.{kind_known, one_taken, stopped, taken_kept}
use Rattle.write_commands.proofs.read.read_commits.Goals as goal

pub returns-in_err-commit-clause-refused : goal.returns-in_err-commit-clause-refused
returns-in_err-commit-clause-refused g c =
    let kind = c.in_ok-kind.kind in
    let commits = c.loop-number.commits.items in
    let before = g.R.Read.remaining c.args.reader.now in
    let now = prepend_known c.fill.new.self (g.R.Read.remaining c.fill.new.reader) in
    let taken = taken_kept kind commits before _ now c.loop-number.invariant.taken c.in_ok-fill.ensures.kept in
    let is = kind_known kind c.args.asked c.in_ok-buffer.buffer before c.in_ok-buffer.ensures c.in_ok-kind.ensures.kind in
    let handed = err_from_is_err_and c.from_residual-in_err-commit.result c.from_residual-in_err-commit.ensures.1 in
    rw (handed.1, handed.2)
    (stopped kind c.args.asked commits c.loop-number.number before now _ is c.loop-number.invariant.counted taken
    c.in_err-commit.ensures.err)

pub loop-number-preserved : goal.loop-number-preserved
loop-number-preserved g c =
    let kind = c.in_ok-kind.kind in
    let commits = c.loop-number.commits.items in
    let commit = c.in_ok-commit.commit in
    let before = g.R.Read.remaining c.args.reader.now in
    let mid = prepend_known c.fill.new.self (g.R.Read.remaining c.fill.new.reader) in
    let now = prepend_known c.read_commit.new.buffer (g.R.Read.remaining c.read_commit.new.reader) in
    let taken = taken_kept kind commits before _ mid c.loop-number.invariant.taken c.in_ok-fill.ensures.kept in
    rw c.in_ok-keep.ensures
    (record {
      counted = omega (arith, length-append commits (commit ∷ []), c.loop-number.invariant.counted);
      taken = one_taken kind commits commit before mid now taken c.in_ok-commit.ensures.ok;
    })
