use Rattle.std.proofs.Common.{◌≡◌}
use Rattle.graph_format.specs.Layer.{Layer}
use Rattle.graph_layer.specs.Commit.{commit_layer, commit_pos}
use Rattle.gix_hash_core.specs.Oid.{oid_bytes}
use Rattle.graph_objects.proofs.CommitLemmas.{of_layer, few_of_commit, contents_yes, contents_no, finish}
use Rattle.graph_objects.proofs.WrittenLemmas.{matched_as_recorded}
use Rattle.graph_objects.proofs.commit.matches_commit.Goals as goal

pub returns-then-not-is_same : goal.returns-then-not-is_same
returns-then-not-is_same c =
    let layer = commit_layer c.args.commit in
    let kind = c.args.kind in
    let same = of_layer (λ (l : Layer). l.kind ≡ kind) c.args.graph.now c.requires.commit.0 (commit_pos c.args.commit)
    layer c.requires.kind c.requires.commit.1 in
    contents_no layer kind (commit_pos c.args.commit) c.args.contents.now (oid_bytes c.id.result)
    c.args.id.now c.is_same.result same c.id.ensures
    c.requires.id c.is_same.ensures c.if-not-is_same.true

pub returns-then-is_as_written : goal.returns-then-is_as_written
returns-then-is_as_written c =
    let layer = commit_layer c.args.commit in
    let kind = c.args.kind in
    let same = of_layer (λ (l : Layer). l.kind ≡ kind) c.args.graph.now c.requires.commit.0 (commit_pos c.args.commit)
    layer c.requires.kind c.requires.commit.1 in
    let contents = contents_yes layer kind (commit_pos c.args.commit) c.args.contents.now (oid_bytes c.id.result)
    c.args.id.now c.is_same.result same
    c.id.ensures c.requires.id c.is_same.ensures c.if-not-is_same.false in
    matched_as_recorded c.args.graph.now kind layer (commit_pos c.args.commit) c.args.contents.now same contents
    (c.is_as_written.ensures c.if-is_as_written.true)

pub compare-requires : goal.compare-requires
compare-requires c = record {
  few = few_of_commit c.args.graph.now c.requires.commit.0 (commit_pos c.args.commit) (commit_layer c.args.commit)
      c.num_commits-commits.ensures.graph c.requires.commit.1;
}

pub returns-in-Ok : goal.returns-in-Ok
returns-in-Ok c =
    let layer = commit_layer c.args.commit in
    let kind = c.args.kind in
    let same = of_layer (λ (l : Layer). l.kind ≡ kind) c.args.graph.now c.requires.commit.0 (commit_pos c.args.commit)
    layer c.requires.kind c.requires.commit.1 in
    let contents = contents_yes layer kind (commit_pos c.args.commit) c.args.contents.now (oid_bytes c.id.result)
    c.args.id.now c.is_same.result same
    c.id.ensures c.requires.id c.is_same.ensures c.if-not-is_same.false in
    finish c.args.graph.now layer (commit_pos c.args.commit)
    c.args.contents.now c.in-Ok.object c.compare.result contents (rw same c.in-Ok.ensures)
    c.compare.ensures

pub returns-in-Err : goal.returns-in-Err
returns-in-Err c =
    let layer = commit_layer c.args.commit in
    let kind = c.args.kind in
    let same = of_layer (λ (l : Layer). l.kind ≡ kind) c.args.graph.now c.requires.commit.0 (commit_pos c.args.commit)
    layer c.requires.kind c.requires.commit.1 in (
      contents_yes layer kind (commit_pos c.args.commit) c.args.contents.now (oid_bytes c.id.result)
          c.args.id.now c.is_same.result same
          c.id.ensures c.requires.id c.is_same.ensures c.if-not-is_same.false,
      rw same c.in-Err.ensures,
    )
