-- The chunk of the words is there.
use Rattle.std.proofs.Common.{IsTrue, rules}
use Rattle.graph_parts.proofs.LayerPartLemmas.{shown-dates}
use Rattle.graph_parts.proofs.layer.LayerParts.has_dates.Goals as goal

pub returns-then-has_words : goal.returns-then-has_words
returns-then-has_words c = λ yes known layer shows.
    let has : IsTrue c.args.self.now.offsets.has_words = search rules in
    shown-dates known c.args.self.now layer c.requires shows has
