use Rattle.std.proofs.Common.{rules, ◌≡◌, ◌<◌, ◌+◌, Contains, None, Some, ap, arith, slice_get, subst}
use Rattle.std.specs.Ordering.{nat_cmp}
use Rattle.std.specs.Cmp.Lexicographic.{slice_cmp}
use Rattle.std.specs.BTreeMap as tree
use Rattle.std.proofs.lemmas.List.{length-map}
use Rattle.gix_hash_core.specs.Oid.{oid_bytes}
use Rattle.newer_commits.specs.CommitsOnTop.{CommitsOnTop, ids_on_top, end_of_top}
use Rattle.newer_commits.specs.KeptCommits.{commit_of}
use Rattle.newer_commits.proofs.KeptLemmas.{not_there, there_at}
use Rattle.newer_commits.proofs.commits.NewerCommits.position_of.Goals as goal

pub returns-in_err-number-clause-none : goal.returns-in_err-number-clause-none
returns-in_err-number-clause-none c =
    let none : tree.get (slice_cmp nat_cmp) c.self.inside.numbers (oid_bytes c.args.id) ≡ None = search rules in
    let lacks = subst (λ (t : CommitsOnTop). ¬ Contains (ids_on_top t) (oid_bytes c.args.id)) c.self.view_is
    (not_there c.self.inside.below c.self.inside.numbers c.self.inside.commits.items c.self.inside.words.items c.self.invariant
    (oid_bytes c.args.id) none) in
    search (rules, lacks)

pub returns-clause-some : goal.returns-clause-some
returns-clause-some c =
    let n = c.in_ok-number.number.now in
    let found : tree.get (slice_cmp nat_cmp) c.self.inside.numbers (oid_bytes c.args.id) ≡ Some n = search rules in
    let at = there_at c.self.inside.below c.self.inside.numbers c.self.inside.commits.items c.self.inside.words.items
    c.self.invariant (oid_bytes c.args.id) n found in (
      n,
      subst (λ (t : CommitsOnTop). slice_get (ids_on_top t) n ≡ Some (oid_bytes c.args.id)) c.self.view_is at.0,
      ap (λ (t : CommitsOnTop). t.below + n) c.self.view_is,
    )

pub returns-clause-within : goal.returns-clause-within
returns-clause-within c =
    let n = c.in_ok-number.number.now in
    let found : tree.get (slice_cmp nat_cmp) c.self.inside.numbers (oid_bytes c.args.id) ≡ Some n = search rules in
    let at = there_at c.self.inside.below c.self.inside.numbers c.self.inside.commits.items c.self.inside.words.items
    c.self.invariant (oid_bytes c.args.id) n found in
    subst (λ (t : CommitsOnTop). c.self.inside.below + n < end_of_top t) c.self.view_is
    (omega (arith, at.1, length-map c.self.inside.commits.items (commit_of c.self.inside.words.items)))
