use Rattle.std.proofs.Common.{◌≤◌, ◌+◌, ⊎_elim, arith}
use Rattle.graph_layer.proofs.ParentBoundLemmas.{hint-next_word}
use Rattle.graph_layer.proofs.file.parents.Parents.next_beyond_fields.Goals as goal

pub returns-in-Internal-clause-hint : goal.returns-in-Internal-clause-hint
returns-in-Internal-clause-hint c =
    let old = c.args.self.now in
    let started = c.if-not-self.false in
    let listed : 0x80000000 ≤ old.next = ⊎_elim (λ h. h) (λ h. absurd (h.1 (old.second_is_last started))) c.requires in
    hint-next_word old.started old.next old.after (old.next + 1) 0x70000000 old.file.now.edges started listed
    (omega (arith, listed))
