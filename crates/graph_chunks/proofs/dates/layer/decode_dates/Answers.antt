use Rattle.std.proofs.Common.{◌≡◌, ◌<◌, ◌^◌, ◌++◌, ◌∷◌, [], ℕ, List, All, arith, subst, sym, inl}
use Rattle.std.proofs.lemmas.List.Elements.{All-append, All-cons, All-nil}
use Rattle.graph_chunks.proofs.DecodingLemmas.{refused, date-fine, dates-more, dates-all}
use Rattle.graph_chunks.proofs.dates.layer.decode_dates.Goals as goal

pub loop-pos-preserved : goal.loop-pos-preserved
loop-pos-preserved c =
    let offsets = c.args.offsets.now in
    let overflow = c.args.overflow.now in
    let times = c.args.times.now in
    let pos = c.loop-pos.pos in
    let items : c.push.new.self.items ≡ c.loop-pos.dates.items ++ c.in-Ok.date ∷ [] =
    rw c.if-is_err.ensures.negation at c.push.ensures.items in
    let date = c.in-Ok.ensures.date in
    let more = dates-more offsets overflow times c.args.dates.now.items c.loop-pos.dates.items pos c.loop-pos.invariant.1 in (
      date-fine offsets overflow times pos c.loop-pos.invariant.0 c.in-Ok.ensures.fault,
      cc,
      λ small.
          subst (λ (ds : List ℕ). All (λ d. d < 2 ^ 63) ds) (sym items)
          (All-append (λ d. d < 2 ^ 63) c.loop-pos.dates.items (c.in-Ok.date ∷ []) (c.loop-pos.invariant.2 small)
          (All-cons (λ d. d < 2 ^ 63) c.in-Ok.date [] c.in-Ok.ensures.small (All-nil (λ d. d < 2 ^ 63)))),
    )

pub returns-clause-dates : goal.returns-clause-dates
returns-clause-dates c =
    dates-all c.args.offsets.now c.args.overflow.now c.args.times.now c.args.dates.now.items c.loop-pos.dates.items c.loop-pos.pos
    c.loop-pos.invariant.1 (omega (arith, c.loop-pos-test.false, c.loop-pos.auto.pos-end))

pub returns-in-Err-clause-fault : goal.returns-in-Err-clause-fault
returns-in-Err-clause-fault c =
    inl
    (refused c.args.offsets.now c.args.overflow.now c.args.times.now c.loop-pos.pos c.in-Err.fault
    c.in_ok-check_sizes.ensures.offsets c.in_ok-check_sizes.ensures.overflow c.loop-pos.invariant.0 c.in-Err.ensures.fault
    c.loop-pos-test.true)
