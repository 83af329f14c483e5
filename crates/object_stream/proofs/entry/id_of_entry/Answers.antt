use Rattle.std.proofs.Common.{◌+◌, ◌-◌, ◌*◌, List, ℕ, take, drop, ap, ◌∙◌}
use Rattle.gix_hash_core.specs.Digest.{digest_of}
use Rattle.object_stream.proofs.ObjectLemmas.{object_there}
use Rattle.object_stream.proofs.entry.id_of_entry.Goals as goal

pub returns-clause-id : goal.returns-clause-id
returns-clause-id c =
    let view : List ℕ = c.args.buffer.now in
    let start = 2 * c.len_in_bytes.result + 1 in
    let there = object_there c.args.kind c.args.object_type view c.args.line c.args.size start c.requires.found
    (ap (λ n. 2 * n + 1) c.len_in_bytes.ensures) c.requires.whole in
    let put = c.bytes.ensures ∙ c.put.ensures in
    c.digest.ensures ∙ ap (λ b. digest_of c.args.kind (take (c.args.line + 1 + c.args.size - start) (drop start b))) put
    ∙ ap (digest_of c.args.kind) there.object

pub returns-clause-behind : goal.returns-clause-behind
returns-clause-behind c =
    let view : List ℕ = c.args.buffer.now in
    let there = object_there c.args.kind c.args.object_type view c.args.line c.args.size
    (2 * c.len_in_bytes.result + 1) c.requires.found
    (ap (λ n. 2 * n + 1) c.len_in_bytes.ensures) c.requires.whole in
    ap (drop (c.args.line + 1)) c.put.ensures ∙ there.behind

pub returns-clause-digits : goal.returns-clause-digits
returns-clause-digits c =
    let view : List ℕ = c.args.buffer.now in
    let there = object_there c.args.kind c.args.object_type view c.args.line c.args.size
    (2 * c.len_in_bytes.result + 1) c.requires.found
    (ap (λ n. 2 * n + 1) c.len_in_bytes.ensures) c.requires.whole in
    ap (take _) c.put.ensures ∙ there.digits
