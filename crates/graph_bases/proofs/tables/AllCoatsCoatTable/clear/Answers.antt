use Rattle.std.proofs.Common.{◌∙◌, subst, arith}
use Rattle.std.proofs.lemmas.List.{length-set}
use Rattle.graph_bases.specs.Sheet.{bare, AreChanged}
use Rattle.graph_bases.proofs.SheetLemmas.{changed_empty, changed_popped}
use Rattle.graph_bases.proofs.tables.AllCoatsCoatTable.clear.Goals as goal

pub index_mut-requires : goal.index_mut-requires
index_mut-requires c =
    let a = c.loop-commit.self-inside in
    omega (
      arith,
      (changed_popped a.coats.items c.pop.new.self.items c.in-Some.commit
          (subst (AreChanged a.coats.items) c.in-Some.ensures.items c.loop-commit.invariant.are)).0,
    )

pub loop-commit-preserved : goal.loop-commit-preserved
loop-commit-preserved c =
    let a = c.loop-commit.self-inside in
    record {
      len = length-set a.coats.items c.in-Some.commit bare ∙ c.loop-commit.invariant.len;
      are = (changed_popped a.coats.items c.pop.new.self.items c.in-Some.commit
          (subst (AreChanged a.coats.items) c.in-Some.ensures.items c.loop-commit.invariant.are)).1;
    }

pub returns-clause-bare : goal.returns-clause-bare
returns-clause-bare c =
    let a = c.loop-commit.self-inside in
    changed_empty a.coats.items a.painted.items (omega (arith, c.in_default.ensures.cases.0)) c.loop-commit.invariant.are
