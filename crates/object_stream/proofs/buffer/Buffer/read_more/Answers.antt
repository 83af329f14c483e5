use Rattle.std.proofs.Common.{◌≡◌, ◌+◌, ◌-◌, ◌≤◌, ◌++◌, List, ℕ, length, take, drop, ap, ◌∙◌, arith, append-nil}
use Rattle.std.specs.Vec.{with_items}
use Rattle.std.proofs.lemmas.Bool.Decides.{nat_tests}
use Rattle.std.proofs.lemmas.List.{with_items_is}
use borrow.Rule.Slice.PartMut.{post_of}
use Rattle.object_stream.proofs.BufferLemmas.{as_long, grown, kept, starts}
use Rattle.object_stream.proofs.buffer.Buffer.read_more.Goals as goal

pub returns-clause-kept : goal.returns-clause-kept
returns-clause-kept g c =
    let bytes : List ℕ = c.deref_mut.result.now in
    let read : List ℕ = c.read.new.buf in
    let start = c.in_ok-start.start in
    let end = c.in_ok-start.end in
    let count = c.in-Ok.count in
    let view : List ℕ = c.args.self.now in
    let made : List ℕ = c.make_room.new.bytes.items in
    let same : bytes ≡ made = c.deref_mut.ensures.value in
    let old_is : take (end - start) (drop start bytes) ≡ view =
    ap (λ l. take (end - start) (drop start l)) same ∙ c.in_ok-start.ensures.same ∙ c.self.view_is in
    let within : end ≤ length bytes = omega (arith, ap length same, c.in_ok-start.ensures.room) in
    let whole = take end bytes ++ (read ++ post_of end (length bytes - end) bytes) in
    let items : (with_items c.make_room.new.bytes whole).items ≡ whole =
    with_items_is c.make_room.new.bytes whole
    (omega (arith, as_long bytes read end within (omega (arith, c.read.auto.buf)), c.deref_mut.ensures.len)) in
    let new_is =
    ap (λ l. take (end + count - start) (drop start l)) items
    ∙ grown bytes read (post_of end (length bytes - end) bytes) start end count c.in_ok-start.ensures.order within
    c.in-Ok.ensures.bound.0
    ∙ ap (λ l. l ++ take count read) old_is in
    kept (g.R.Read.remaining c.args.reader.now) (g.R.Read.remaining c.read.new.self) view _ (take count read)
    c.in-Ok.ensures.bytes.0 new_is

pub returns-clause-grows : goal.returns-clause-grows
returns-clause-grows g c =
    let bytes : List ℕ = c.deref_mut.result.now in
    let read : List ℕ = c.read.new.buf in
    let start = c.in_ok-start.start in
    let end = c.in_ok-start.end in
    let count = c.in-Ok.count in
    let view : List ℕ = c.args.self.now in
    let made : List ℕ = c.make_room.new.bytes.items in
    let same : bytes ≡ made = c.deref_mut.ensures.value in
    let old_is : take (end - start) (drop start bytes) ≡ view =
    ap (λ l. take (end - start) (drop start l)) same ∙ c.in_ok-start.ensures.same ∙ c.self.view_is in
    let within : end ≤ length bytes = omega (arith, ap length same, c.in_ok-start.ensures.room) in
    let whole = take end bytes ++ (read ++ post_of end (length bytes - end) bytes) in
    let items : (with_items c.make_room.new.bytes whole).items ≡ whole =
    with_items_is c.make_room.new.bytes whole
    (omega (arith, as_long bytes read end within (omega (arith, c.read.auto.buf)), c.deref_mut.ensures.len)) in
    let new_is =
    ap (λ l. take (end + count - start) (drop start l)) items
    ∙ grown bytes read (post_of end (length bytes - end) bytes) start end count c.in_ok-start.ensures.order within
    c.in-Ok.ensures.bound.0
    ∙ ap (λ l. l ++ take count read) old_is in
    starts view _ (take count read) new_is

pub returns-clause-end : goal.returns-clause-end
returns-clause-end g c = λ none.
    let bytes : List ℕ = c.deref_mut.result.now in
    let read : List ℕ = c.read.new.buf in
    let start = c.in_ok-start.start in
    let end = c.in_ok-start.end in
    let count = c.in-Ok.count in
    let view : List ℕ = c.args.self.now in
    let made : List ℕ = c.make_room.new.bytes.items in
    let same : bytes ≡ made = c.deref_mut.ensures.value in
    let old_is : take (end - start) (drop start bytes) ≡ view =
    ap (λ l. take (end - start) (drop start l)) same ∙ c.in_ok-start.ensures.same ∙ c.self.view_is in
    let within : end ≤ length bytes = omega (arith, ap length same, c.in_ok-start.ensures.room) in
    let whole = take end bytes ++ (read ++ post_of end (length bytes - end) bytes) in
    let items : (with_items c.make_room.new.bytes whole).items ≡ whole =
    with_items_is c.make_room.new.bytes whole
    (omega (arith, as_long bytes read end within (omega (arith, c.read.auto.buf)), c.deref_mut.ensures.len)) in
    let new_is =
    ap (λ l. take (end + count - start) (drop start l)) items
    ∙ grown bytes read (post_of end (length bytes - end) bytes) start end count c.in_ok-start.ensures.order within
    c.in-Ok.ensures.bound.0
    ∙ ap (λ l. l ++ take count read) old_is in
    let zero : count ≡ 0 = grind (arith, nat_tests, none) in (
      new_is ∙ ap (λ n. view ++ take n read) zero ∙ append-nil view,
      c.in-Ok.ensures.bytes.1 zero (omega (arith, c.read.auto.buf, ap length same, c.in_ok-start.ensures.room)),
    )
