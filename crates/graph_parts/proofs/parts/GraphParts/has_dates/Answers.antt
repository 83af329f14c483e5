-- Each layer has been asked.
use Rattle.std.proofs.Common.{◌≡◌, ◌<◌, ◌≤◌, IsTrue, get_or, length, rules, subst}
use Rattle.std.proofs.lemmas.List.Elements.{All-more}
use Rattle.graph_parts.proofs.OffsetLemmas.{ShowsDates, dates-shown}
use Rattle.graph_parts.proofs.parts.GraphParts.has_dates.Goals as goal

pub loop-part-preserved : goal.loop-part-preserved
loop-part-preserved c =
    let items = c.args.self.now.layers.items in
    let at = c.loop-part.part-index in
    let part = c.part-item.result in
    let within : at < length items = rw (← c.deref-part-items.ensures.value) c.loop-part-test.true in
    let here : part ≡ get_or items at part = rw (← c.deref-part-items.ensures.value) c.part-item.is in
    let yes : IsTrue c.has_dates.result = search rules in
    All-more ShowsDates items at part within c.loop-part.invariant (subst ShowsDates here (c.has_dates.ensures yes))

pub returns : goal.returns
returns c = λ yes known layers shows.
    let items = c.args.self.now.layers.items in
    let past : length items ≤ c.loop-part.part-index = rw (← c.deref-part-items.ensures.value) c.loop-part-test.false in
    dates-shown items c.loop-part.part-index past c.loop-part.invariant known layers shows
