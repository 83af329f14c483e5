use Rattle.std.proofs.Common.{sym, arith}
use Rattle.gix_chunk_core.proofs.HeadLemmas.{filled-len}
use Rattle.gix_chunk_core.proofs.TableLemmas.{table_fault-none}
use Rattle.gix_chunk_core.proofs.AlikeLemmas.{fault-each, chunks-each, none-each}
use Rattle.gix_chunk_core.proofs.index.Index.from_head.Goals as goal

pub invariant_of-result : goal.invariant_of-result
invariant_of-result c = record {
  chunks = table_fault-none _ _ _ (sym c.in-None.ensures);
  within =
      let chunks = table_fault-none _ _ _ (sym c.in-None.ensures) in
      omega (arith, chunks.room, filled-len c.args.front.now c.args.len c.requires.len, c.requires.table);
  fits = c.requires.len;
}

pub returns-in-None-clause-table : goal.returns-in-None-clause-table
returns-in-None-clause-table c = λ file begins.
    chunks-each file _ _ _ _ begins c.requires.len c.requires.table (sym c.in-None.ensures)

pub returns-in-None-clause-none : goal.returns-in-None-clause-none
returns-in-None-clause-none c = λ file begins.
    fault-each file _ _ _ _ begins c.requires.len c.requires.table _ (sym c.in-None.ensures)

pub returns-in-Some-clause-fault : goal.returns-in-Some-clause-fault
returns-in-Some-clause-fault c = λ file begins.
    fault-each file _ _ _ _ begins c.requires.len c.requires.table _ (sym c.in-Some.ensures)

pub returns-in-Some-clause-refused : goal.returns-in-Some-clause-refused
returns-in-Some-clause-refused c = λ file table begins.
    none-each file _ _ _ _ begins c.requires.len c.requires.table _ (sym c.in-Some.ensures) table
