-- The graph that is asked is the one at the path.
use Rattle.std.proofs.Common.{Option, subst, sym}
use Rattle.graph_folder.specs.Tree.{Tree}
use Rattle.graph_unchecked.specs.Trusted.{IsTrustedAt}
use Rattle.graph_unchecked.proofs.FailureLemmas.{kept-unless}
use Rattle.unchecked_commands.proofs.run.reply_by_parts.Goals as goal

pub returns-in-Ok-clause-reply : goal.returns-in-Ok-clause-reply
returns-in-Ok-clause-reply g c =
    let path = c.args.path.now in
    let before = g.T.Folder.failure_count c.args.folder.now in
    let middle = g.T.Folder.failure_count c.open.new.folder in
    let kept = kept-unless c.open.result before middle (λ device. let is = c.in-Ok.is in cc) c.open.ensures.failures in
    let of = subst (λ (known : Option Tree). IsTrustedAt known path c.in-Ok.graph) (sym c.open.ensures.tree)
    c.in-Ok.ensures.graph in
    rw (c.open.ensures.tree, kept) at (c.ask_by_parts.ensures.reply path of)
