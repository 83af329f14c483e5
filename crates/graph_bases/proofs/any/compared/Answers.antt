use Rattle.std.proofs.Common.{refl}
use Rattle.commit_search.specs.Positions.{numbers_of}
use Rattle.graph_bases.proofs.FoundLemmas.{ahead_number, behind_number, bases_are, bases_common, bases_below}
use Rattle.graph_bases.proofs.any.compared.Goals as goal

pub returns-clause-within : goal.returns-clause-within
returns-clause-within g c =
    bases_below c.in_ok-painting.painting.coats.all c.in_ok-positions.positions.items c.in_ok-positions.ensures.bases _
    c.in_ok-painting.ensures.len

pub returns-clause-common : goal.returns-clause-common
returns-clause-common g c = λ t said.
    bases_common c.in_ok-painting.painting.coats.all c.in_ok-positions.positions.items c.in_ok-positions.ensures.bases
    t.history c.args.first.0 (numbers_of c.args.others.now) (c.in_ok-painting.ensures.paint t said)

pub returns-clause-exact : goal.returns-clause-exact
returns-clause-exact g c = λ t said along.
    let h = t.history in
    let a = c.args.first.0 in
    let bs = numbers_of c.args.others.now in
    let p = c.in_ok-painting.ensures in
    let painted = p.painted t said along in
    let coats = c.in_ok-painting.painting.coats.all in
    record {
      bases = bases_are h a bs coats painted (numbers_of c.in_ok-positions.positions.items) c.in_ok-positions.ensures.bases;
      visits = rw c.visits-visits.ensures (p.visits t said along);
      ahead = ahead_number h a bs coats painted c.divergence-divergence.result.ahead c.divergence-divergence.ensures.ahead;
      behind = behind_number h a bs coats painted c.divergence-divergence.result.behind c.divergence-divergence.ensures.behind;
    }

pub returns-clause-idle : goal.returns-clause-idle
returns-clause-idle g c =
    let idle = c.into_coats.ensures in
    record { coats_len = refl; bare = idle.bare; trails = idle.trails; counted = idle.counted }
