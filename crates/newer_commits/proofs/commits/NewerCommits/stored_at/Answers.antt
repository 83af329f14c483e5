use Rattle.std.proofs.Common.{◌≡◌, ◌-◌, ◌<◌, Some, ap, arith, length, refl, slice_get, subst}
use Rattle.std.proofs.lemmas.List.{length-map}
use Rattle.std.proofs.lemmas.Option.{slice_get_read}
use Rattle.newer_commits.specs.CommitsOnTop.{CommitsOnTop}
use Rattle.newer_commits.specs.KeptCommits.{IsKeptAt, commit_of}
use Rattle.newer_commits.proofs.KeptLemmas.{kept_at}
use Rattle.newer_commits.proofs.commits.NewerCommits.stored_at.Goals as goal

pub returns : goal.returns
returns c =
    let items = c.self.inside.commits.items in
    let i = c.args.pos.0 - c.self.inside.below in
    let below = ap (λ (t : CommitsOnTop). t.below) c.self.view_is in
    let many = ap (λ (t : CommitsOnTop). length t.commits) c.self.view_is in
    let lt : i < length items =
    omega (arith, c.requires.from, c.requires.to, below, many, length-map items (commit_of c.self.inside.words.items)) in
    let at : slice_get items i ≡ Some c.index.result.now =
    slice_get_read items (length items) i c.index.result.now refl lt c.index.ensures in
    subst (λ (t : CommitsOnTop). IsKeptAt t (c.args.pos.0 - t.below) c.index.result.now) c.self.view_is
    (kept_at c.self.inside.below c.self.inside.numbers items c.self.inside.words.items c.self.invariant i c.index.result.now at)
