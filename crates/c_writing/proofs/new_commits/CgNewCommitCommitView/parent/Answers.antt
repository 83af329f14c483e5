use Rattle.std.proofs.Common.{◌<◌, ◌^◌, List, ℕ, Some, length, slice_get, sym, ap, ◌∙◌, arith}
use Rattle.graph_format.proofs.PieceLemmas.{pieces-at}
use Rattle.c_writing.proofs.ParentRoom.{all-taken, number-within}
use Rattle.c_writing.proofs.new_commits.CgNewCommitCommitView.parent.Goals as goal

pub id_at-requires-clause-there : goal.id_at-requires-clause-there
id_at-requires-clause-there c = number-within c.args.self.now c.args.number (omega arith) c.requires.there

pub returns : goal.returns
returns c =
    let size : ℕ = length c.args.self.now.id.now in
    let bytes : List ℕ = c.args.self.now.parents.now in
    let few : length bytes < 2 ^ 63 = omega arith in
    ap (λ (ids : List (List ℕ)). slice_get ids c.args.number) (all-taken c.args.self.now few)
    ∙ pieces-at size bytes c.args.number (number-within c.args.self.now c.args.number few c.requires.there)
    ∙ ap (λ (id : List ℕ). Some id) (sym c.id_at.ensures)
