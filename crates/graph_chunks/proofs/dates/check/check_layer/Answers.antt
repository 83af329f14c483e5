use Rattle.std.proofs.Common.{◌≡◌, ◌+◌, ◌++◌, ℕ, List, length, take, drop, None, sym, ap, ◌∙◌, subst, arith}
use Rattle.std.proofs.Math.Seq.{take-append_seam}
use Rattle.std.proofs.lemmas.List.{length-take-le}
use Rattle.std.proofs.lemmas.Result.{err_from_is_err_and}
use Rattle.gix_chunk_core.specs.FirstFault.{first_below}
use Rattle.graph_format.specs.StoredHistory.{history_of}
use Rattle.graph_chunks.specs.GraphStoredDates.{times_of}
use Rattle.graph_chunks.specs.GraphDates.{wrong_date}
use Rattle.graph_chunks.proofs.DateCheckLemmas.{IsPlace, date-fine, date-found, is_place, stop-is}
use Rattle.graph_chunks.proofs.LatestLemmas.{room-for}
use Rattle.graph_chunks.proofs.dates.check.check_layer.Goals as goal
use Rattle.graph_chunks.proofs.dates.check.check_layer.Goals.{After-commit_at-commit}

-- the commit stands at this position of the graph
place-there : (c : After-commit_at-commit)
    → IsPlace c.args.graph.now c.args.before c.loop-place.place c.index-layers-layer.result
place-there c =
    is_place c.args.graph.now c.layers.result.now c.args.layer c.args.before c.loop-place.place c.index-layers-layer.result
    c.layers.ensures.same c.requires.layer c.requires.before c.index-layers-layer.is
    (omega (arith, c.loop-place-test.true, c.loop-place.auto.place-end, c.num_commits-place-end.ensures.ids))

pub overflow_add-pos : goal.overflow_add-pos
overflow_add-pos c =
    let there =
    is_place c.args.graph.now c.layers.result.now c.args.layer c.args.before c.loop-place.place c.index-layers-layer.result
    c.layers.ensures.same c.requires.layer c.requires.before c.index-layers-layer.is
    (omega (arith, c.loop-place-test.true, c.loop-place.auto.place-end, c.num_commits-place-end.ensures.ids)) in
    omega (arith, there.below, c.requires.graph.makes.few)

pub check_date-requires-clause-within : goal.check_date-requires-clause-within
check_date-requires-clause-within c =
    let there = place-there (goal.at.check_date-requires-clause-within c).After-commit_at-commit in
    omega (arith, there.below, c.requires.dates)

pub check_date-requires-clause-latest : goal.check_date-requires-clause-latest
check_date-requires-clause-latest c =
    let words = length c.words_of-words.result.now in
    let told = c.put_latest.new.latest in
    let room = c.args.room.now in
    let same = ap (λ (ws : List ℕ). length ws) c.words_of-words.ensures in
    let fits =
    room-for c.args.graph.now c.layers.result.now c.args.layer c.index-layers-layer.result room c.layers.ensures.same
    c.requires.layer c.index-layers-layer.is c.requires.room in
    let many : length told ≡ words =
    omega (arith, c.put_latest.auto.latest, length-take-le words room (omega (arith, fits, same))) in
    let first : take words (told ++ drop words room) ≡ told =
    ap (λ (n : ℕ). take n (told ++ drop words room)) (sym many) ∙ take-append_seam told (drop words room) in
    rw (c.commit_at-commit.ensures.layer, first) c.put_latest.ensures

pub returns-in_err-check_date-clause-fault : goal.returns-in_err-check_date-clause-fault
returns-in_err-check_date-clause-fault c =
    let there = place-there (goal.at.returns-in_err-check_date-clause-fault c).After-commit_at-commit in
    let found =
    date-found c.args.graph.now c.args.dates.now c.args.before c.loop-place.place _ c.index-layers-layer.result
    c.commit_at-commit.result _ c.requires.graph.opened there c.commit_at-commit.ensures.layer c.commit_at-commit.ensures.pos
    (omega arith) c.loop-place.invariant c.in_err-check_date.ensures in
    let handed = err_from_is_err_and c.from_residual.result c.from_residual.ensures.1 in
    rw (handed.1, handed.2) found

pub loop-place-preserved : goal.loop-place-preserved
loop-place-preserved c =
    let there = place-there (goal.at.loop-place-preserved c).After-commit_at-commit in
    date-fine c.args.graph.now c.args.dates.now c.args.before c.loop-place.place _ c.index-layers-layer.result
    c.commit_at-commit.result c.requires.graph.opened there c.commit_at-commit.ensures.layer c.commit_at-commit.ensures.pos
    (omega arith) c.loop-place.invariant c.in_ok-check_date.ensures

pub returns-clause-right : goal.returns-clause-right
returns-clause-right c =
    let end =
    stop-is c.args.graph.now c.layers.result.now c.args.layer c.args.before c.index-layers-layer.result c.layers.ensures.same
    c.requires.layer c.requires.before c.index-layers-layer.is in
    let all : c.loop-place.place ≡ length c.index-layers-layer.result.ids =
    omega (arith, c.loop-place-test.false, c.loop-place.auto.place-end, c.num_commits-place-end.ensures.ids) in
    let fault = wrong_date (history_of c.args.graph.now) (times_of c.args.graph.now) c.args.dates.now in
    subst (λ (n : ℕ). first_below fault n ≡ None)
    (ap (λ (n : ℕ). c.args.before + n) all ∙ end) c.loop-place.invariant
