use Rattle.std.proofs.Common.{ℕ, ◌+◌, ◌*◌, List, slice_range, ap, ◌∙◌}
use Rattle.std.specs.Int.{w32, from_be_bytes}
use Rattle.graph_find.proofs.HeadLemmas.{fan-number}
use Rattle.graph_find.proofs.head.Head.fan_number.Goals as goal

pub returns : goal.returns
returns c = λ file begins.
    let start = c.args.self.now.layout.chunks.fan.start + 4 * c.args.byte in
    c.word_at.ensures
    ∙ ap (λ (xs : List ℕ). from_be_bytes w32 (slice_range xs start (start + 4))) c.deref.ensures.value
    ∙ fan-number c.args.self.now file c.args.byte c.requires.head begins c.requires.within
