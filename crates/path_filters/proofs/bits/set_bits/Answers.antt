use Rattle.std.proofs.Common.{◌+◌, ◌*◌, ◌%◌, ◌^◌, ◌∙◌, arith}
use Rattle.changed_paths.specs.Filter.{AllHit}
use Rattle.path_filters.proofs.BitLemmas.{hits_more, one_more_set, probe_is}
use Rattle.path_filters.proofs.bits.set_bits.Goals as goal

pub loop-i-preserved : goal.loop-i-preserved
loop-i-preserved c =
    let i = c.loop-i.i in
    let first = c.murmur3-first.result in
    let step = c.murmur3-step.result in
    let p = (first + i * step % 2 ^ 32) % 2 ^ 32 in
    let is = probe_is c.args.reading c.args.path.now first step i c.murmur3-first.ensures c.murmur3-step.ensures in
    record {
      same = c.set_bit.auto.filter ∙ c.loop-i.invariant.same;
      hit =
          hits_more c.args.reading c.args.path.now i p c.loop-i.filter c.set_bit.new.filter is c.set_bit.ensures.set
          c.set_bit.ensures.kept c.loop-i.invariant.hit;
      set =
          one_more_set c.args.reading c.args.path.now i p c.args.filter.now c.loop-i.filter c.set_bit.new.filter
          c.loop-i.invariant.set c.set_bit.auto.filter is c.set_bit.ensures.kept c.set_bit.ensures.no_others;
    }

pub returns-clause-hit : goal.returns-clause-hit
unfolding AllHit
returns-clause-hit c = λ j h. c.loop-i.invariant.hit j (omega (arith, h, c.loop-i-test.false))
