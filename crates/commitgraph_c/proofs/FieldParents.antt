-- what is told of parents that both fields of a commit give by themselves
use Rattle.std.proofs.Common.{◌≡◌, ℕ, List, Option, refl, sym, set}
use Rattle.graph_format.specs.Parents.{both_parents}
use Rattle.graph_format.specs.declared.Position.{Position}
use Rattle.graph_format.specs.declared.parents.ParentEdge.{ParentEdge}
use Rattle.graph_format.specs.declared.parents.ParentEdge.TheVariants as edge
use Rattle.commitgraph_c.specs.QueryAnswers.{TellsParents}
use Rattle.c_opening.proofs.Written.{none_written, one_written, two_written}

module _ (first second : ParentEdge) (edges : Option (List ℕ)) (room : List ℕ) where
  pub none_told : first ≡ edge.None → second ≡ edge.None
      → TellsParents (both_parents first second edges) (record { code = 0; count = 0 }) room room
  none_told f s = rw (f, s) (record { count_of = refl; code_of = refl; room = sym (none_written room) })

  pub one_told : (pos : Position) → first ≡ edge.GraphPosition pos → second ≡ edge.None
      → TellsParents (both_parents first second edges) (record { code = 0; count = 1 }) room (set room 0 pos.0)
  one_told pos f s = rw (f, s) (record { count_of = refl; code_of = refl; room = one_written pos.0 room })

  pub two_told : (pos next : Position) → first ≡ edge.GraphPosition pos → second ≡ edge.GraphPosition next
      → TellsParents (both_parents first second edges) (record { code = 0; count = 2 }) room
      (set (set room 0 pos.0) 1 next.0)
  two_told pos next f s = rw (f, s) (record { count_of = refl; code_of = refl; room = two_written pos.0 next.0 room })
