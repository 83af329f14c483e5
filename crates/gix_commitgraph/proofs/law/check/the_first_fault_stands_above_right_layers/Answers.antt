use Rattle.gix_commitgraph.proofs.sound.RightBelowLemmas.{whole_fault}
use Rattle.gix_commitgraph.proofs.law.check.the_first_fault_stands_above_right_layers.Goals as goal

pub returns : goal.returns
returns g c = λ options layers i opened fits right. whole_fault {E = g.row.E.Denot} options layers i opened fits right
