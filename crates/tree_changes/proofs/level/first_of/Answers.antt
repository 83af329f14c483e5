use Rattle.std.proofs.Common.{sym}
use Rattle.tree_objects.specs.Entry.{entry_of}
use Rattle.tree_changes.proofs.PairLemmas.{arm_less, arm_greater, arm_equal}
use Rattle.tree_changes.proofs.level.first_of.Goals as goal

pub returns-in-Less-clause-pair : goal.returns-in-Less-clause-pair
returns-in-Less-clause-pair c = λ kind h k.
    arm_less kind c.args.old.now c.args.new.now (entry_of c.args.a.entry) (entry_of c.args.b.entry) c.args.a.next.now
    c.args.b.next.now c.is_directory.result h k (sym c.in-Less.ensures) c.is_directory.ensures

pub returns-in-Greater-clause-pair : goal.returns-in-Greater-clause-pair
returns-in-Greater-clause-pair c = λ kind h k.
    arm_greater kind c.args.old.now c.args.new.now (entry_of c.args.a.entry) (entry_of c.args.b.entry) c.args.a.next.now
    c.args.b.next.now c.is_directory-in-Greater.result h k (sym c.in-Greater.ensures) c.is_directory-in-Greater.ensures

pub returns-in-Equal-clause-pair : goal.returns-in-Equal-clause-pair
returns-in-Equal-clause-pair c = λ kind h k.
    arm_equal kind c.args.old.now c.args.new.now (entry_of c.args.a.entry) (entry_of c.args.b.entry) c.args.a.next.now
    c.args.b.next.now c.is_directory-in-Equal.result h k (sym c.in-Equal.ensures) c.is_directory-in-Equal.ensures
