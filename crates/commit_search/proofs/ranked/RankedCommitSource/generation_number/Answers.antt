use Rattle.std.proofs.Common.{sym, ap, ◌∙◌, arith}
use Rattle.graph_walks.specs.History.{generation_at}
use Rattle.commit_search.specs.Source.{Told}
use Rattle.commit_search.proofs.RankedLemmas.{low_seen, number_seen}
use Rattle.commit_search.proofs.ranked.RankedCommitSource.generation_number.Goals as goal

pub returns-then-rank-self-clause-number : goal.returns-then-rank-self-clause-number
returns-then-rank-self-clause-number g c = λ t (x, said, is).
    let s = c.args.self.now in
    sym (ap (λ (y : Told). generation_at y.history c.args.pos.0) is
    ∙ low_seen (g.R.Ranks.ranking s.ranks.now x) s.least x.history c.args.pos.0
    (omega (arith, c.if-rank-self.true, c.in_ok-rank.ensures.rank x said)))

pub returns-clause-number : goal.returns-clause-number
returns-clause-number g c =
    let s = c.args.self.now in
    number_seen _ (g.R.Ranks.ranking s.ranks.now) s.least c.args.pos.0 c.generation_number.result
    (λ x said. omega (arith, c.if-rank-self.false, c.in_ok-rank.ensures.rank x (c.generation_number.ensures.kept x said)))
    c.generation_number.ensures.number
