use Rattle.std.proofs.Common.{rules, ◌<◌, length, ap, inl, inr, arith}
use Rattle.commit_search.specs.RankedHistory.{KnownRanked}
use Rattle.commit_search.proofs.RankedLemmas.{above_seen, at_least_map, at_most_map, at_or_above, at_or_above_both}
use Rattle.commit_search.proofs.RankedLemmas.{counted_is_some, leads_is, reaches_seen, said_before, seen_after}
use Rattle.commit_search.proofs.RankedLemmas.{seen_is_searchable, seen_leads}
use Rattle.commit_search.proofs.any.MarkSearcher.ranked_told.Goals as goal

pub returns-in-Ok-Some-clause-kept : goal.returns-in-Ok-Some-clause-kept
returns-in-Ok-Some-clause-kept g c = λ t said.
    said_before g.S.CommitSource.known g.S.CommitSource.says g.met.S.SteadySource.steady c.args.commits.now
    c.told_within.new.commits.commits.now _ t said (search rules)
    (ap (λ (k : KnownRanked g.S.CommitSource.Known). k.source) c.told_within.ensures.known)

pub returns-in-Ok-Some-clause-once : goal.returns-in-Ok-Some-clause-once
returns-in-Ok-Some-clause-once g c = λ t said.
    let source = g.S.CommitSource in
    let new = c.told_within.new.commits.commits.now in
    let known = ap (λ (k : KnownRanked g.S.CommitSource.Known). k.source) c.told_within.ensures.known in
    let was =
    said_before source.known source.says g.met.S.SteadySource.steady c.args.commits.now new _ t said (search rules)
    known in
    let k = g.R.Ranks.ranking c.args.ranks.now t in
    let seen =
    seen_after source.says (g.R.Ranks.ranking c.args.ranks.now)
    (g.R.Ranks.ranking c.told_within.new.commits.ranks.now) c.args.least
    c.told_within.new.commits.least new _ t said (search rules)
    (ap (λ (k : KnownRanked g.S.CommitSource.Known). k.ranking) c.told_within.ensures.known)
    (ap (λ (k : KnownRanked g.S.CommitSource.Known). k.least) c.told_within.ensures.known) in
    let told = c.num_commits-commits.ensures.told t was in
    let count = c.num_commits-commits.ensures.count in
    let is = c.requires.least t was in
    at_least_map _ _ _ (λ p above. at_or_above k c.args.least t.history c.args.ancestor.0 is c.args.descendant.0 p above)
    ((rw c.in-Ok-Some.field-0-is at c.in-Ok-Some.ensures.once) _ seen)

pub returns-in-Ok-Some-clause-sharper : goal.returns-in-Ok-Some-clause-sharper
returns-in-Ok-Some-clause-sharper g c = λ t said counts.
    let source = g.S.CommitSource in
    let new = c.told_within.new.commits.commits.now in
    let known = ap (λ (k : KnownRanked g.S.CommitSource.Known). k.source) c.told_within.ensures.known in
    let was =
    said_before source.known source.says g.met.S.SteadySource.steady c.args.commits.now new _ t said (search rules)
    known in
    let k = g.R.Ranks.ranking c.args.ranks.now t in
    let seen =
    seen_after source.says (g.R.Ranks.ranking c.args.ranks.now)
    (g.R.Ranks.ranking c.told_within.new.commits.ranks.now) c.args.least
    c.told_within.new.commits.least new _ t said (search rules)
    (ap (λ (k : KnownRanked g.S.CommitSource.Known). k.ranking) c.told_within.ensures.known)
    (ap (λ (k : KnownRanked g.S.CommitSource.Known). k.least) c.told_within.ensures.known) in
    let told = c.num_commits-commits.ensures.told t was in
    let count = c.num_commits-commits.ensures.count in
    let is = c.requires.least t was in
    let some = counted_is_some t.history c.args.ancestor.0 (omega (arith, c.requires.ancestor, told, count)) counts in
    at_least_map _ _ _
    (λ p above. at_or_above_both k c.args.least t.history c.args.ancestor.0 is c.args.descendant.0 p some above)
    ((rw c.in-Ok-Some.field-0-is at c.in-Ok-Some.ensures.once) _ seen)

pub returns-in-Ok-Some-clause-none : goal.returns-in-Ok-Some-clause-none
returns-in-Ok-Some-clause-none g c = λ t said neither.
    let source = g.S.CommitSource in
    let new = c.told_within.new.commits.commits.now in
    let known = ap (λ (k : KnownRanked g.S.CommitSource.Known). k.source) c.told_within.ensures.known in
    let was =
    said_before source.known source.says g.met.S.SteadySource.steady c.args.commits.now new _ t said (search rules)
    known in
    let k = g.R.Ranks.ranking c.args.ranks.now t in
    let seen =
    seen_after source.says (g.R.Ranks.ranking c.args.ranks.now)
    (g.R.Ranks.ranking c.told_within.new.commits.ranks.now) c.args.least
    c.told_within.new.commits.least new _ t said (search rules)
    (ap (λ (k : KnownRanked g.S.CommitSource.Known). k.ranking) c.told_within.ensures.known)
    (ap (λ (k : KnownRanked g.S.CommitSource.Known). k.least) c.told_within.ensures.known) in
    let told = c.num_commits-commits.ensures.told t was in
    let count = c.num_commits-commits.ensures.count in
    let is = c.requires.least t was in
    (rw c.in-Ok-Some.field-0-is at c.in-Ok-Some.ensures.none) _ seen
    (inr (λ leads. neither (
      seen_leads k c.args.least t.history c.args.ancestor.0 is c.args.descendant.0 leads,
      c.requires.allowed t was,
    )))

pub returns-in-Ok-Some-clause-yes : goal.returns-in-Ok-Some-clause-yes
returns-in-Ok-Some-clause-yes g c = λ t said found.
    let source = g.S.CommitSource in
    let new = c.told_within.new.commits.commits.now in
    let known = ap (λ (k : KnownRanked g.S.CommitSource.Known). k.source) c.told_within.ensures.known in
    let was =
    said_before source.known source.says g.met.S.SteadySource.steady c.args.commits.now new _ t said (search rules)
    known in
    let k = g.R.Ranks.ranking c.args.ranks.now t in
    let seen =
    seen_after source.says (g.R.Ranks.ranking c.args.ranks.now)
    (g.R.Ranks.ranking c.told_within.new.commits.ranks.now) c.args.least
    c.told_within.new.commits.least new _ t said (search rules)
    (ap (λ (k : KnownRanked g.S.CommitSource.Known). k.ranking) c.told_within.ensures.known)
    (ap (λ (k : KnownRanked g.S.CommitSource.Known). k.least) c.told_within.ensures.known) in
    let told = c.num_commits-commits.ensures.told t was in
    let count = c.num_commits-commits.ensures.count in
    let is = c.requires.least t was in
    leads_is k c.args.least t.history c.args.descendant.0 c.args.ancestor.0 _
    ((rw c.in-Ok-Some.field-0-is at c.in-Ok-Some.ensures.yes) _ seen found)

pub returns-in-Ok-Some-clause-no : goal.returns-in-Ok-Some-clause-no
returns-in-Ok-Some-clause-no g c = λ t said counts along reaches.
    let source = g.S.CommitSource in
    let new = c.told_within.new.commits.commits.now in
    let known = ap (λ (k : KnownRanked g.S.CommitSource.Known). k.source) c.told_within.ensures.known in
    let was =
    said_before source.known source.says g.met.S.SteadySource.steady c.args.commits.now new _ t said (search rules)
    known in
    let k = g.R.Ranks.ranking c.args.ranks.now t in
    let seen =
    seen_after source.says (g.R.Ranks.ranking c.args.ranks.now)
    (g.R.Ranks.ranking c.told_within.new.commits.ranks.now) c.args.least
    c.told_within.new.commits.least new _ t said (search rules)
    (ap (λ (k : KnownRanked g.S.CommitSource.Known). k.ranking) c.told_within.ensures.known)
    (ap (λ (k : KnownRanked g.S.CommitSource.Known). k.least) c.told_within.ensures.known) in
    let told = c.num_commits-commits.ensures.told t was in
    let count = c.num_commits-commits.ensures.count in
    let is = c.requires.least t was in
    let there : c.args.ancestor.0 < length t.history = omega (arith, c.requires.ancestor, told, count) in
    let searchable =
    seen_is_searchable k c.args.least t.history c.args.ancestor.0 is there along c.args.descendant.0
    (c.generation_numbers_can_be_searched.ensures t.history c.args.descendant.0 c.args.ancestor.0 counts) in
    (rw c.in-Ok-Some.field-0-is at c.in-Ok-Some.ensures.no) _ seen searchable
    (reaches_seen k c.args.least t.history c.args.descendant.0 c.args.ancestor.0 reaches)

pub returns-in-Ok-Some-clause-above : goal.returns-in-Ok-Some-clause-above
returns-in-Ok-Some-clause-above g c = λ t said counts along no.
    let source = g.S.CommitSource in
    let new = c.told_within.new.commits.commits.now in
    let known = ap (λ (k : KnownRanked g.S.CommitSource.Known). k.source) c.told_within.ensures.known in
    let was =
    said_before source.known source.says g.met.S.SteadySource.steady c.args.commits.now new _ t said (search rules)
    known in
    let k = g.R.Ranks.ranking c.args.ranks.now t in
    let seen =
    seen_after source.says (g.R.Ranks.ranking c.args.ranks.now)
    (g.R.Ranks.ranking c.told_within.new.commits.ranks.now) c.args.least
    c.told_within.new.commits.least new _ t said (search rules)
    (ap (λ (k : KnownRanked g.S.CommitSource.Known). k.ranking) c.told_within.ensures.known)
    (ap (λ (k : KnownRanked g.S.CommitSource.Known). k.least) c.told_within.ensures.known) in
    let told = c.num_commits-commits.ensures.told t was in
    let count = c.num_commits-commits.ensures.count in
    let is = c.requires.least t was in
    let there : c.args.ancestor.0 < length t.history = omega (arith, c.requires.ancestor, told, count) in
    let searchable =
    seen_is_searchable k c.args.least t.history c.args.ancestor.0 is there along c.args.descendant.0
    (c.generation_numbers_can_be_searched.ensures t.history c.args.descendant.0 c.args.ancestor.0 counts) in
    at_most_map _ _ _
    (λ p above. above_seen k c.args.least t.history c.args.ancestor.0 is there along c.args.descendant.0 p above)
    ((rw c.in-Ok-Some.field-0-is at c.in-Ok-Some.ensures.above) _ seen searchable no)

pub returns-in-Err-clause-kept : goal.returns-in-Err-clause-kept
returns-in-Err-clause-kept g c = λ t said.
    said_before g.S.CommitSource.known g.S.CommitSource.says g.met.S.SteadySource.steady c.args.commits.now
    c.told_within.new.commits.commits.now _ t said (search rules)
    (ap (λ (k : KnownRanked g.S.CommitSource.Known). k.source) c.told_within.ensures.known)

pub returns-in-Err-clause-refused : goal.returns-in-Err-clause-refused
returns-in-Err-clause-refused g c =
    elim (c.in-Err.ensures.refused.1) [
      | inl failed ↦ inl failed
      | inr gives ↦ inr (
        gives.0,
        (λ t said.
            let source = g.S.CommitSource in
            let new = c.told_within.new.commits.commits.now in
            let known = ap (λ (k : KnownRanked g.S.CommitSource.Known). k.source) c.told_within.ensures.known in
            let was =
            said_before source.known source.says g.met.S.SteadySource.steady c.args.commits.now new _ t said (search rules)
            known in
            let k = g.R.Ranks.ranking c.args.ranks.now t in
            let seen =
            seen_after source.says (g.R.Ranks.ranking c.args.ranks.now)
            (g.R.Ranks.ranking c.told_within.new.commits.ranks.now) c.args.least
            c.told_within.new.commits.least new _ t said (search rules)
            (ap (λ (k : KnownRanked g.S.CommitSource.Known). k.ranking) c.told_within.ensures.known)
            (ap (λ (k : KnownRanked g.S.CommitSource.Known). k.least) c.told_within.ensures.known) in
            let told = c.num_commits-commits.ensures.told t was in
            let count = c.num_commits-commits.ensures.count in
            let is = c.requires.least t was in (
              seen_leads k c.args.least t.history c.args.ancestor.0 is c.args.descendant.0 (gives.1 _ seen),
              c.requires.allowed t was,
            )),
      )
    ]
