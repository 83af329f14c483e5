-- The lines of all positions are those of all commits.
use Rattle.std.proofs.Common.{◌≡◌, ◌++◌, map, ap, ◌∙◌, subst, append_assoc}
use Rattle.std.specs.List.{flat_map}
use Rattle.std.specs.Io.KnownBytes.{Appends}
use Rattle.std.proofs.lemmas.Iterator.Consumers.{YieldsList-from_first, YieldsList-end}
use Rattle.gix_hash_core.specs.Oid.{oid_bytes}
use Rattle.graph_layer.specs.Commit.{layer_and_position}
use Rattle.graph_layer.specs.Remaining.{commits_left}
use Rattle.graph_format.specs.Layer.{positions_from}
use Rattle.graph_commands.specs.Listing.{layer_line, base_line, commit_lines}
use Rattle.graph_commands.specs.PositionLines.{position_line}
use Rattle.graph_commands.proofs.PlaceLemmas.{place_lines-all}
use Rattle.graph_commands.proofs.Appended.{appends_line}
use Rattle.graph_commands.proofs.BufferLemmas.{appends_written}
use Rattle.graph_commands.proofs.listing.write_listing.Goals as goal

pub loop-base-preserved : goal.loop-base-preserved
loop-base-preserved g c =
    appends_line oid_bytes base_line (layer_line c.args.layer.now) c.loop-base.yielded c.in-Some.base _ _ _
    c.loop-base.invariant c.in_ok-push_base.ensures

pub loop-commit-preserved : goal.loop-commit-preserved
loop-commit-preserved g c =
    let layer = c.args.layer.now in
    appends_line layer_and_position position_line (layer_line layer ++ flat_map base_line layer.bases) c.loop-commit.yielded
    c.in-Some-commit.commit _ _ _ c.loop-commit.invariant c.in_ok-push_commit.ensures

pub returns : goal.returns
returns g c =
    let layer = c.args.layer.now in
    let places : map layer_and_position c.loop-commit.yielded ≡ positions_from layer 0 =
    (YieldsList-end (YieldsList-from_first layer_and_position commits_left (positions_from layer 0) (cc)) c.loop-commit.yielded
    c.loop-commit.commit-iterator c.loop-commit.yielded_by c.next-in-loop-commit.result c.next-in-loop-commit.new.self
    c.in-None-commit.is c.next-in-loop-commit.ensures.steps).0 in
    let lines : flat_map position_line (map layer_and_position c.loop-commit.yielded) ≡ commit_lines layer =
    ap (flat_map position_line) places ∙ place_lines-all layer c.in_ok-push_head.ensures.commits in
    let all : (layer_line layer ++ flat_map base_line layer.bases) ++ flat_map position_line
    (map layer_and_position c.loop-commit.yielded)
    ≡ layer_line layer ++ (flat_map base_line layer.bases ++ commit_lines layer) =
    rw lines (append_assoc (layer_line layer) (flat_map base_line layer.bases) (commit_lines layer)) in
    appends_written c.write_out.result _ _ _ c.args.buffer.now _ _ c.requires (subst (Appends _ _) all c.loop-commit.invariant)
    c.write_out.ensures.written
