-- What stands at the path decides.
use Rattle.std.proofs.Common.{inl}
use Rattle.gix_commitgraph.specs.declared.opening.Standing.TheVariants.{File, ChainDir, InfoDir}
use Rattle.gix_commitgraph.proofs.opening.by_standing.open_by.Goals as goal

pub returns-in-File-clause-comes : goal.returns-in-File-clause-comes
returns-in-File-clause-comes g c =
    let before = c.in_ok-stands_at.ensures in
    inl (
      File,
      (λ tree is. rw c.in-File.is at (before.answer tree is)),
      rw (before.tree, before.failures) at c.file.ensures.comes,
    )

pub returns-in-ChainDir-clause-comes : goal.returns-in-ChainDir-clause-comes
returns-in-ChainDir-clause-comes g c =
    let before = c.in_ok-stands_at.ensures in
    inl (
      ChainDir,
      (λ tree is. rw c.in-ChainDir.is at (before.answer tree is)),
      rw (before.tree, before.failures) at c.chain.ensures.comes,
    )

pub returns-in-InfoDir-clause-comes : goal.returns-in-InfoDir-clause-comes
returns-in-InfoDir-clause-comes g c =
    let before = c.in_ok-stands_at.ensures in
    inl (
      InfoDir,
      (λ tree is. rw c.in-InfoDir.is at (before.answer tree is)),
      rw (before.tree, before.failures) at c.open_info_by.ensures.comes,
    )
