use Rattle.std.proofs.Common.{◌≡◌, ◌<◌, List, ℕ, Some, length, slice_get, option_map, refl, sym, ap, subst, ◌∙◌, arith}
use Rattle.std.proofs.lemmas.List.{length-map}
use Rattle.std.proofs.lemmas.Option.{slice_get_read, slice_get-map}
use Rattle.graph_writer.specs.declared.commit.NewCommit.{NewCommit}
use Rattle.graph_writer.proofs.handed.Handed.at.Goals as goal

pub bounds-commits-number : goal.bounds-commits-number
bounds-commits-number g c =
    omega (
      arith,
      c.requires,
      length-map c.self.inside.commits.now g.C.CommitView.as_commit,
      ap (λ (commits : List NewCommit). length commits) c.self.view_is,
    )

pub invariant_of-result : goal.invariant_of-result
invariant_of-result g c =
    subst g.C.CommitView.can_read (sym c.index-commits-number.is)
    (c.self.invariant c.args.number c.index-commits-number.result
    (omega (
      arith,
      c.requires,
      length-map c.self.inside.commits.now g.C.CommitView.as_commit,
      ap (λ (commits : List NewCommit). length commits) c.self.view_is,
    )))

pub returns : goal.returns
returns g c =
    let f = g.C.CommitView.as_commit in
    let all = c.self.inside.commits.now in
    let one = c.index-commits-number.result in
    let within : c.args.number < length all =
    omega (arith, c.requires, length-map all f, ap (λ (commits : List NewCommit). length commits) c.self.view_is) in
    subst (λ (commits : List NewCommit). slice_get commits c.args.number ≡ Some (f one)) c.self.view_is
    (slice_get-map f all c.args.number
    ∙ ap (option_map f) (slice_get_read all (length all) c.args.number one refl within c.index-commits-number.is))
