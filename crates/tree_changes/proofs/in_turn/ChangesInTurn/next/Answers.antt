use Rattle.std.proofs.Common.{Some, refl, ◌∙◌, subst}
use Rattle.std.proofs.lemmas.Result.{IfOk-weaker, IfErr-weaker}
use Rattle.tree_changes.specs.Reads.{IsStopped}
use Rattle.tree_changes.specs.InTurn.{HasFound}
use Rattle.tree_changes.proofs.FirstLemmas.{goes_on}
use Rattle.tree_changes.proofs.in_turn.ChangesInTurn.next.Goals as goal

pub returns-in-Some-clause-next : goal.returns-in-Some-clause-next
returns-in-Some-clause-next g c =
    IfOk-weaker c.next.result _ _
    (λ more step old new names trees texts told.
    let kind = g.S.TreeSource.kind_is c.args.source.now in
    let h =
    subst (λ o. HasFound kind (g.S.TreeSource.says c.args.source.now) old new names trees texts o) c.in-Some.is told in
    goes_on kind (g.S.TreeSource.kind_is c.next.new.source) (g.S.TreeSource.says c.next.new.source) old new names trees texts
    h.0 more c.next.new.self (record { walk = Some c.next.new.self }) c.next.ensures.kind refl h.2
    (c.next.ensures.names ∙ h.3) (step old new trees h.0 h.1))
    c.next.ensures.found

pub returns-in-Some-clause-refused : goal.returns-in-Some-clause-refused
returns-in-Some-clause-refused g c =
    IfErr-weaker c.next.result _ _
    (λ refusal stopped old new names trees texts told world w.
    let kind = g.S.TreeSource.kind_is c.args.source.now in
    let h =
    subst (λ o. HasFound kind (g.S.TreeSource.says c.args.source.now) old new names trees texts o) c.in-Some.is told in
    subst (λ n. IsStopped (g.S.TreeSource.has_refused c.next.new.source) n trees world old new refusal) h.3
    (stopped old new trees h.0 h.1 world w))
    c.next.ensures.refused
