use Rattle.std.proofs.Common.{◌≡◌, ◌+◌, ◌^◌, ◌<◌, List, ℕ, Some, slice_get, take, drop, arith, sym, ap, ◌∙◌, subst}
use Rattle.std.specs.Prelude.{IfSome}
use Rattle.std.specs.Io.KnownBytes.{prepend_known}
use Rattle.graph_format.specs.Layer.{Layer}
use Rattle.graph_layer.specs.Commit.{commit_layer, commit_pos}
use Rattle.gix_commitgraph.specs.Graph.{graph_ids}
use Rattle.object_stream.proofs.EntryLemmas.{entry_passed, entry_read}
use Rattle.object_stream.specs.declared.object_type.ObjectType.TheVariants as object
use Rattle.graph_objects.specs.Matching.{AreContentsAt, MatchesAt}
use Rattle.graph_objects.specs.Mismatches.{MismatchesAt}
use Rattle.graph_objects.specs.Taking.{MayRefuseEntry}
use Rattle.graph_objects.proofs.CommitLemmas.{of_layer}
use Rattle.graph_objects.proofs.DigestLemmas.{id_there, own_contents}
use Rattle.graph_objects.proofs.TakingLemmas.{entry_stop, mismatch_stop, taken}
use Rattle.graph_objects.proofs.stream.check_next.Goals as goal

pub returns-in-Err-clause-err : goal.returns-in-Err-clause-err
returns-in-Err-clause-err g c =
    let layers = c.args.graph.now in
    let pos = c.args.pos in
    let kind = c.object_hash-kind.result in
    let commit = c.commit_at-commit.result in
    let before = prepend_known c.args.buffer.now (g.R.Read.remaining c.args.reader.now) in
    let there : slice_get (graph_ids layers) pos.0 ≡ Some c.to_owned-id.result =
    c.id_at.ensures ∙ ap (λ i. Some i) (sym c.to_owned-id.ensures) in
    let same = of_layer (λ (l : Layer). l.kind ≡ kind) layers pos.0 (commit_pos commit) (commit_layer commit)
    c.object_hash-kind.ensures.kind c.commit_at-commit.ensures in
    subst (λ e. IfSome before (λ bytes. MayRefuseEntry layers pos bytes e)) (sym c.error_at.ensures)
    (entry_stop layers pos kind c.to_owned-id.result (commit_layer commit) (commit_pos commit) before c.in-Err.error
    c.commit_at-commit.ensures same there c.in-Err.ensures.refused)

pub returns-in-Ok-matches_commit-clause-ok : goal.returns-in-Ok-matches_commit-clause-ok
returns-in-Ok-matches_commit-clause-ok g c =
    let layers = c.args.graph.now in
    let p = c.args.pos.0 in
    let entry = c.in-Ok.entry in
    let view : List ℕ = c.next_entry.new.buffer in
    let known = g.R.Read.remaining c.next_entry.new.reader in
    let before = prepend_known c.args.buffer.now (g.R.Read.remaining c.args.reader.now) in
    let contents = c.in-Ok.ensures.contents in
    let there : slice_get (graph_ids layers) p ≡ Some entry.id =
    c.id_at.ensures ∙ ap (λ i. Some i) (sym (contents.is_expected ∙ c.to_owned-id.ensures)) in
    let fits : entry.size < 2 ^ 64 = omega arith in
    let matches : MatchesAt layers p (take entry.size view) =
    rw c.commit_at-commit.ensures (rw c.bytes.ensures at c.in-Ok-matches_commit.ensures) in
    let left : c.consume.new.self ≡ drop (entry.size + 1) view = c.consume.ensures in
    rw left
    (taken layers p entry.id (take entry.size view) before (prepend_known (drop (entry.size + 1) view) known)
    (id_there layers p entry.id there)
    (entry_passed object.Commit before known entry.id view entry.size c.in-Ok.ensures.line contents.within contents.feed fits)
    matches)

pub returns-in-Err-matches_commit-clause-err : goal.returns-in-Err-matches_commit-clause-err
returns-in-Err-matches_commit-clause-err g c =
    let layers = c.args.graph.now in
    let p = c.args.pos.0 in
    let kind = c.object_hash-kind.result in
    let commit = c.commit_at-commit.result in
    let entry = c.in-Ok.entry in
    let view : List ℕ = c.next_entry.new.buffer in
    let before = prepend_known c.args.buffer.now (g.R.Read.remaining c.args.reader.now) in
    let contents = c.in-Ok.ensures.contents in
    let there : slice_get (graph_ids layers) p ≡ Some entry.id =
    c.id_at.ensures ∙ ap (λ i. Some i) (sym (contents.is_expected ∙ c.to_owned-id.ensures)) in
    let same = of_layer (λ (l : Layer). l.kind ≡ kind) layers p (commit_pos commit) (commit_layer commit)
    c.object_hash-kind.ensures.kind c.commit_at-commit.ensures in
    let fits : entry.size < 2 ^ 64 = omega arith in
    let own : AreContentsAt layers p (take entry.size view) =
    rw c.commit_at-commit.ensures (own_contents layers p (commit_pos commit) (commit_layer commit) kind entry.id
    (take entry.size view) c.commit_at-commit.ensures there same contents.own) in
    let differs : MismatchesAt layers p (take entry.size view) c.in-Err-matches_commit.mismatch =
    rw c.commit_at-commit.ensures (rw c.bytes.ensures at c.in-Err-matches_commit.ensures) in
    mismatch_stop layers c.args.pos entry.id (take entry.size view) before c.in-Err-matches_commit.mismatch
    (id_there layers p entry.id there)
    (entry_read object.Commit before (g.R.Read.remaining c.next_entry.new.reader) entry.id view entry.size c.in-Ok.ensures.line
    contents.within contents.feed fits) own differs
