use Rattle.std.proofs.Common.{◌≡◌, ◌-◌, ℕ, List, length, ap, subst, arith}
use Rattle.graph_chunks.proofs.LatestLemmas.{AreToldFrom, told-none, told-more, told-all}
use Rattle.graph_chunks.proofs.dates.latest.put_latest.Goals as goal

pub loop-index-init : goal.loop-index-init
loop-index-init c =
    told-none c.args.dates.now c.words_of-words.result.now c.args.latest.now (length c.words_of-words.result.now) (omega arith)
    (omega (arith, c.requires, ap (λ (ws : List ℕ). length ws) c.words_of-words.ensures))

pub loop-index-preserved : goal.loop-index-preserved
loop-index-preserved c =
    let words = c.words_of-words.result.now in
    let same = ap (λ (ws : List ℕ). length ws) c.words_of-words.ensures in
    told-more c.args.dates.now words c.loop-index.latest (c.loop-index.index - 1) c.loop-index.index c.loop-index.listed
    c.latest_from-listed.result c.loop-index.invariant (omega (arith, c.loop-index-test.true))
    (omega (arith, c.loop-index-test.true, c.loop-index.auto.index))
    (omega (arith, c.loop-index-test.true, c.loop-index.auto.index, c.loop-index.auto.latest, c.requires, same))
    c.latest_from-listed.ensures

pub returns : goal.returns
returns c =
    let words = c.words_of-words.result.now in
    let none : c.loop-index.index ≡ 0 = omega (arith, c.loop-index-test.false) in
    told-all c.args.dates.now c.args.file.now.edges words c.loop-index.latest c.loop-index.listed
    (subst (λ (n : ℕ). AreToldFrom c.args.dates.now words c.loop-index.latest n c.loop-index.listed) none c.loop-index.invariant)
    c.words_of-words.ensures
