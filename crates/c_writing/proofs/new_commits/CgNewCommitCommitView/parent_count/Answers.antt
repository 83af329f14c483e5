use Rattle.std.proofs.Common.{sym, ◌∙◌, arith}
use Rattle.c_writing.proofs.ParentRoom.{taken-count}
use Rattle.c_writing.proofs.new_commits.CgNewCommitCommitView.parent_count.Goals as goal

pub returns : goal.returns
returns c = c.id_count.ensures ∙ sym (taken-count c.args.self.now (omega arith))
