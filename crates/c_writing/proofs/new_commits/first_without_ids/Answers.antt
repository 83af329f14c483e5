use Rattle.std.proofs.Common.{◌≡◌, true, sym, arith}
use Rattle.c_writing.specs.HandedIn.{has_ids}
use Rattle.c_writing.specs.SaidCommits.{HasFewParents}
use Rattle.c_writing.specs.declared.new_commits.CgNewCommit.{CgNewCommit}
use Rattle.c_writing.proofs.HandedIn.{all_are, more_are}
use Rattle.c_writing.proofs.new_commits.first_without_ids.Goals as goal

pub loop-number-preserved : goal.loop-number-preserved
loop-number-preserved c =
    let commits = c.args.commits.now in
    let n = c.loop-number.number in
    record {
      ids =
          more_are (λ (one : CgNewCommit). has_ids one ≡ true) commits n _ (omega arith) c.loop-number.invariant.ids
          (sym c.if-not-has_ids.ensures.ids);
      few = more_are HasFewParents commits n _ (omega arith) c.loop-number.invariant.few c.if-not-has_ids.ensures.few;
    }

pub returns-clause-ids : goal.returns-clause-ids
returns-clause-ids c =
    all_are (λ (one : CgNewCommit). has_ids one ≡ true) c.args.commits.now c.loop-number.number (omega arith)
    c.loop-number.invariant.ids

pub returns-clause-few : goal.returns-clause-few
returns-clause-few c =
    all_are HasFewParents c.args.commits.now c.loop-number.number (omega arith) c.loop-number.invariant.few
