use Rattle.std.proofs.Common.{◌+◌, ◌-◌, ◌/◌, ℕ, List, Some, sym, ap, ◌∙◌, arith}
use Rattle.std.specs.Prelude.{is_none}
use Rattle.gix_hash_core.specs.Oid.{oid_bytes}
use Rattle.graph_writer.proofs.positions.SearchSteps.{less-to, greater-from, none-between, known-at, same-id}
use Rattle.graph_writer.proofs.resolve.Known.search.Goals as goal

pub returns-in-Equal-clause-some : goal.returns-in-Equal-clause-some
returns-in-Equal-clause-some g c =
    c.id_at.ensures
    ∙ ap (λ (id : List ℕ). Some id)
    (same-id (oid_bytes c.id_at.result) (oid_bytes c.args.id) (sym c.compare.ensures ∙ c.in-Equal.is))

pub returns-in-Equal-clause-none : goal.returns-in-Equal-clause-none
returns-in-Equal-clause-none g c =
    let k = c.args.self.now in
    let m : ℕ = c.loop-low.low + (c.loop-low.high - c.loop-low.low) / 2 in
    sym
    (known-at k.commits.now k.order.now c.requires.order m (oid_bytes c.args.id)
    (c.id_at.ensures
    ∙ ap (λ (id : List ℕ). Some id)
    (same-id (oid_bytes c.id_at.result) (oid_bytes c.args.id) (sym c.compare.ensures ∙ c.in-Equal.is))))

pub loop-low-preserved-in-Less : goal.loop-low-preserved-in-Less
loop-low-preserved-in-Less g c =
    let k = c.args.self.now in
    let m : ℕ = c.loop-low.low + (c.loop-low.high - c.loop-low.low) / 2 in
    record {
      within = c.loop-low.invariant.within;
      less =
          less-to k.commits.now k.order.now c.requires.order (oid_bytes c.args.id) (oid_bytes c.id_at.result) m
          c.id_at.ensures (sym c.compare.ensures ∙ c.in-Less.is);
      greater = c.loop-low.invariant.greater;
    }

pub loop-low-preserved : goal.loop-low-preserved
loop-low-preserved g c =
    let k = c.args.self.now in
    let m : ℕ = c.loop-low.low + (c.loop-low.high - c.loop-low.low) / 2 in
    record {
      within = omega (arith, c.loop-low.invariant.within, c.loop-low-test.true);
      less = c.loop-low.invariant.less;
      greater =
          greater-from k.commits.now k.order.now c.requires.order (oid_bytes c.args.id) (oid_bytes c.id_at.result) m
          c.id_at.ensures (sym c.compare.ensures ∙ c.in-Greater.is);
    }

pub returns-clause-none : goal.returns-clause-none
returns-clause-none g c =
    let k = c.args.self.now in
    sym
    (ap is_none
    (none-between k.commits.now k.order.now c.requires.order (oid_bytes c.args.id) c.loop-low.low c.loop-low.high
    (omega (arith, c.loop-low-test.false)) c.loop-low.invariant.less c.loop-low.invariant.greater))
