use Rattle.commit_search.proofs.RankedLemmas.{fields_seen}
use Rattle.commit_search.proofs.ranked.RankedCommitSource.parent_fields.Goals as goal

pub returns-clause-fields : goal.returns-clause-fields
returns-clause-fields g c =
    let s = c.args.self.now in
    fields_seen _ _ _ _ (g.R.Ranks.ranking s.ranks.now) s.least c.args.pos.0 c.parent_fields.result c.parent_fields.ensures.fields
