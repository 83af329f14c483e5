use Rattle.std.proofs.Common.{rules, ◌<◌, length, ap, inl, inr, arith}
use Rattle.commit_search.specs.RankedHistory.{KnownRanked}
use Rattle.commit_search.proofs.RankedLemmas.{answer_by, any_answer, counted_is_some, said_before, seen_after}
use Rattle.commit_search.proofs.RankedLemmas.{seen_is_searchable, seen_leads}
use Rattle.commit_search.proofs.any.MarkSearcher.ranked_walk.Goals as goal

pub returns-in-Ok-Some-clause-kept : goal.returns-in-Ok-Some-clause-kept
returns-in-Ok-Some-clause-kept g c = λ t said.
    said_before g.S.CommitSource.known g.S.CommitSource.says g.met.S.SteadySource.steady c.args.commits.now
    c.walk_within.new.commits.commits.now _ t said (search rules)
    (ap (λ (k : KnownRanked g.S.CommitSource.Known). k.source) c.walk_within.ensures.known)

pub returns-in-Ok-Some-clause-answer : goal.returns-in-Ok-Some-clause-answer
returns-in-Ok-Some-clause-answer g c = λ t said.
    let source = g.S.CommitSource in
    let new = c.walk_within.new.commits.commits.now in
    let known = ap (λ (k : KnownRanked g.S.CommitSource.Known). k.source) c.walk_within.ensures.known in
    let was =
    said_before source.known source.says g.met.S.SteadySource.steady c.args.commits.now new _ t said (search rules)
    known in
    let k = g.R.Ranks.ranking c.args.ranks.now t in
    let seen =
    seen_after source.says (g.R.Ranks.ranking c.args.ranks.now)
    (g.R.Ranks.ranking c.walk_within.new.commits.ranks.now) c.args.least
    c.walk_within.new.commits.least new _ t said (search rules)
    (ap (λ (k : KnownRanked g.S.CommitSource.Known). k.ranking) c.walk_within.ensures.known)
    (ap (λ (k : KnownRanked g.S.CommitSource.Known). k.least) c.walk_within.ensures.known) in
    let told = c.num_commits-commits.ensures.told t was in
    let count = c.num_commits-commits.ensures.count in
    let is = c.requires.least t was in
    any_answer k c.args.least t.history c.args.to.0 is c.args.from.0 _
    ((rw c.in-Ok-Some.field-0-is at c.in-Ok-Some.ensures.answer) _ seen)

pub returns-in-Ok-Some-clause-right : goal.returns-in-Ok-Some-clause-right
returns-in-Ok-Some-clause-right g c = λ t said counts along.
    let source = g.S.CommitSource in
    let new = c.walk_within.new.commits.commits.now in
    let known = ap (λ (k : KnownRanked g.S.CommitSource.Known). k.source) c.walk_within.ensures.known in
    let was =
    said_before source.known source.says g.met.S.SteadySource.steady c.args.commits.now new _ t said (search rules)
    known in
    let k = g.R.Ranks.ranking c.args.ranks.now t in
    let seen =
    seen_after source.says (g.R.Ranks.ranking c.args.ranks.now)
    (g.R.Ranks.ranking c.walk_within.new.commits.ranks.now) c.args.least
    c.walk_within.new.commits.least new _ t said (search rules)
    (ap (λ (k : KnownRanked g.S.CommitSource.Known). k.ranking) c.walk_within.ensures.known)
    (ap (λ (k : KnownRanked g.S.CommitSource.Known). k.least) c.walk_within.ensures.known) in
    let told = c.num_commits-commits.ensures.told t was in
    let count = c.num_commits-commits.ensures.count in
    let is = c.requires.least t was in
    let there : c.args.to.0 < length t.history = omega (arith, c.requires.to, told, count) in
    let searchable =
    seen_is_searchable k c.args.least t.history c.args.to.0 is there along c.args.from.0
    (c.generation_numbers_can_be_searched.ensures t.history c.args.from.0 c.args.to.0 counts) in
    answer_by k c.args.least t.history c.args.to.0 is there along c.args.from.0 _
    (counted_is_some t.history c.args.to.0 there counts) (c.requires.allowed t was)
    ((rw c.in-Ok-Some.field-0-is at c.in-Ok-Some.ensures.right) _ seen searchable)

pub returns-in-Err-clause-kept : goal.returns-in-Err-clause-kept
returns-in-Err-clause-kept g c = λ t said.
    said_before g.S.CommitSource.known g.S.CommitSource.says g.met.S.SteadySource.steady c.args.commits.now
    c.walk_within.new.commits.commits.now _ t said (search rules)
    (ap (λ (k : KnownRanked g.S.CommitSource.Known). k.source) c.walk_within.ensures.known)

pub returns-in-Err-clause-refused : goal.returns-in-Err-clause-refused
returns-in-Err-clause-refused g c =
    elim (c.in-Err.ensures.refused) [
      | inl failed ↦ inl failed.1
      | inr gives ↦ inr (
        gives.0,
        (λ t said.
            let source = g.S.CommitSource in
            let new = c.walk_within.new.commits.commits.now in
            let known = ap (λ (k : KnownRanked g.S.CommitSource.Known). k.source) c.walk_within.ensures.known in
            let was =
            said_before source.known source.says g.met.S.SteadySource.steady c.args.commits.now new _ t said (search rules)
            known in
            let k = g.R.Ranks.ranking c.args.ranks.now t in
            let seen =
            seen_after source.says (g.R.Ranks.ranking c.args.ranks.now)
            (g.R.Ranks.ranking c.walk_within.new.commits.ranks.now) c.args.least
            c.walk_within.new.commits.least new _ t said (search rules)
            (ap (λ (k : KnownRanked g.S.CommitSource.Known). k.ranking) c.walk_within.ensures.known)
            (ap (λ (k : KnownRanked g.S.CommitSource.Known). k.least) c.walk_within.ensures.known) in
            let told = c.num_commits-commits.ensures.told t was in
            let count = c.num_commits-commits.ensures.count in
            let is = c.requires.least t was in
            elim (gives.1 _ seen) [
              | inl same ↦ absurd (c.requires.apart same)
              | inr leads ↦ (seen_leads k c.args.least t.history c.args.to.0 is c.args.from.0 leads, c.requires.allowed t was)
            ]),
      )
    ]
