-- The layers that are shown are those of the graph.
use Rattle.std.proofs.Common.{sym, subst}
use Rattle.graph_parts.specs.Shown.{Shows}
use Rattle.graph_unchecked.proofs.trusted.TrustedGraph.kind.Goals as goal

pub returns : goal.returns
returns c = λ known path of tree is.
    let at = of.opened tree is in
    record {
      layers = at.layers;
      opens = at.opens;
      graph = at.graph;
      so = c.kind.ensures known at.layers (subst (λ parts. Shows known parts at.layers) (sym c.self.view_is) at.so) at.graph;
    }
