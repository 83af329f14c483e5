-- The file, or where it is refused the chain folder.
use Rattle.std.proofs.Common.{◌≡◌, true, false, inl, inr}
use Rattle.graph_layer.specs.OpenAnswer.{is_settled}
use Rattle.gix_commitgraph.proofs.opening.by_standing.open_info_by.Goals as goal

pub returns-then-is_settled-clause-comes : goal.returns-then-is_settled-clause-comes
returns-then-is_settled-clause-comes g c =
    let settled : is_settled c.file-answer.result ≡ true = cc in
    inl (settled, rw (c.as_str.ensures.value, c.in_ok-file.ensures) at c.file-answer.ensures.comes)

pub returns-clause-comes : goal.returns-clause-comes
returns-clause-comes g c =
    let refused : is_settled c.file-answer.result ≡ false = cc in
    inr (inl (record {
      refusal = c.file-answer.result;
      failures = g.T.Folder.failure_count c.file-answer.new.folder;
      between = c.file-answer.new.self;
      file = rw (c.as_str.ensures.value, c.in_ok-file.ensures) at c.file-answer.ensures.comes;
      refused = refused;
      chain =
          rw (c.as_str-2.ensures.value, c.in_ok-chain.ensures, c.file-answer.ensures.tree, c.file-answer.ensures.known) at
          c.chain.ensures.comes;
    }))
