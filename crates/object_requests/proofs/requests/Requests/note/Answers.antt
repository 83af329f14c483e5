use Rattle.std.proofs.Common.{◌+◌, ◌<◌, Contains, List, ℕ, ap, arith, length, subst, sym}
use Rattle.std.proofs.lemmas.List.{length-drop}
use Rattle.object_requests.specs.Asked.{Asked}
use Rattle.object_requests.specs.Kept.{AreKept}
use Rattle.object_requests.proofs.KeptLemmas.{kept_pushed, kept_same}
use Rattle.object_requests.proofs.requests.Requests.note.Goals as goal
use Rattle.object_requests.proofs.requests.Requests.note.Goals.{in-Ok, in-Err}

pub invariant_of-self : goal.invariant_of-self
invariant_of-self c =
    let now = c.args.self.now in
    let asked = c.self.inside.asked.items in
    let taken = c.self.inside.taken in
    let numbers = c.self.inside.numbers in
    let after = c.keep.new.numbers in
    let id = c.args.id in
    let kept = c.self.invariant.1 in
    let absent : ¬ Contains asked id = subst (λ (r : Asked). ¬ Contains r.asked id) (sym c.self.view_is) c.in-None.ensures in
    let many = ap (λ (r : Asked). length r.asked) c.self.view_is in
    let done = ap (λ (r : Asked). r.taken) c.self.view_is in
    let room : length asked < taken + 64 = omega (arith, c.requires, length-drop now.taken now.asked, many, done) in (
      c.self.invariant.0,
      elim c.match-keep.branch [
        | in-Ok w ↦
            subst (λ (items : List (List ℕ)). AreKept items taken after) (sym w.in-Ok.ensures.asked)
            (kept_pushed asked taken numbers after id kept absent w.in-Ok.ensures.numbers room)
        | in-Err w ↦
            subst (λ (items : List (List ℕ)). AreKept items taken after) (sym w.in-Err.ensures.err_asked)
            (kept_same asked taken numbers after id kept w.in-Err.ensures.err_numbers)
      ],
    )
