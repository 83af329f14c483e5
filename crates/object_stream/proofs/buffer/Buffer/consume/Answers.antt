use Rattle.std.proofs.Common.{◌≡◌, ◌-◌, List, ℕ, take, drop, ap, ◌∙◌, arith, length}
use Rattle.std.proofs.lemmas.List.{length-take}
use Rattle.object_stream.proofs.BufferLemmas.{consumed}
use Rattle.object_stream.proofs.buffer.Buffer.consume.Goals as goal

pub returns : goal.returns
returns c =
    let bytes : List ℕ = c.self.inside.bytes.items in
    let start = c.self.inside.start in
    let end = c.self.inside.end in
    let view : take (end - start) (drop start bytes) ≡ c.args.self.now = c.self.view_is in
    consumed bytes start end c.args.count
    (omega (arith, c.requires, ap length view, length-take (end - start) (drop start bytes)))
    ∙ ap (drop c.args.count) view
