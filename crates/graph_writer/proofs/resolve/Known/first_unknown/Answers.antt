use Rattle.std.proofs.Common.{◌≡◌, ◌<◌, ℕ, None, length, sym, ◌∙◌, subst, arith}
use Rattle.gix_chunk_core.proofs.FirstFaultLemmas.{first_below-none, first_below-none_more, first_below-found}
use Rattle.gix_chunk_core.specs.FirstFault.{first_below}
use Rattle.graph_writer.specs.Known.{ids_below}
use Rattle.graph_writer.specs.WriteRefusal.{parent_at}
use Rattle.graph_writer.proofs.positions.KnownSteps.{parent-from}
use Rattle.graph_writer.proofs.resolve.Known.first_unknown.Goals as goal

pub loop-earlier-init : goal.loop-earlier-init
loop-earlier-init g c = first_below-none (parent_at (ids_below c.args.self.now) c.args.self.now.commits.now)

pub returns-in-Some : goal.returns-in-Some
returns-in-Some g c =
    let k = c.args.self.now in
    let i : ℕ = c.loop-earlier.earlier in
    let commit = c.at-commit.result in
    let within : i < length k.commits.now = omega (arith, c.requires.number) in
    first_below-found (parent_at (ids_below k) k.commits.now) i (length k.commits.now) _ c.loop-earlier.invariant
    (parent-from (ids_below k) k.commits.now i commit _ c.at-commit.ensures
    (sym c.unknown_parent.ensures ∙ c.in-Some.is))
    within

pub loop-earlier-preserved : goal.loop-earlier-preserved
loop-earlier-preserved g c =
    let k = c.args.self.now in
    let i : ℕ = c.loop-earlier.earlier in
    let commit = c.at-commit.result in
    let within : i < length k.commits.now = omega (arith, c.requires.number) in
    first_below-none_more (parent_at (ids_below k) k.commits.now) i c.loop-earlier.invariant
    (parent-from (ids_below k) k.commits.now i commit _ c.at-commit.ensures
    (sym c.unknown_parent.ensures ∙ c.in-None.is))

pub returns : goal.returns
returns g c =
    let k = c.args.self.now in
    let f = parent_at (ids_below k) k.commits.now in
    let end : c.loop-earlier.earlier ≡ c.args.number = omega arith in
    first_below-found f c.args.number (length k.commits.now) _
    (subst (λ (n : ℕ). first_below f n ≡ None) end c.loop-earlier.invariant)
    c.requires.unknown c.requires.number
