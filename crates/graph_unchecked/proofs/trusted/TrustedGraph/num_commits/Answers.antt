-- The parts show the layers that were opened.
use Rattle.std.proofs.Common.{sym, subst}
use Rattle.graph_parts.specs.Shown.{AreGraphParts}
use Rattle.graph_unchecked.specs.Trusted.{IsTrustedAt}
use Rattle.graph_unchecked.proofs.trusted.TrustedGraph.num_commits.Goals as goal

pub commits-requires : goal.commits-requires
commits-requires c = subst AreGraphParts (sym c.self.view_is) c.requires.2.right

pub returns : goal.returns
returns c = λ known path of tree is.
    let at = (subst (IsTrustedAt known path) (sym c.self.view_is) of).opened tree is in
    record {
      layers = at.layers;
      opens = at.opens;
      graph = at.graph;
      so = c.commits.ensures.total known at.layers at.so;
    }
