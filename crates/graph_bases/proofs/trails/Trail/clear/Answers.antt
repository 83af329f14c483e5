use Rattle.std.proofs.Common.{◌∙◌, refl, sym, ap, length, arith}
use Rattle.std.proofs.lemmas.List.{get_or_past, get_or_read, length_push}
use Rattle.graph_bases.specs.declared.paint.Paint.TheVariants.{Bare}
use Rattle.graph_bases.proofs.TrailLemmas.{starts_popped, starts_next, starts_end, starts_none}
use Rattle.graph_bases.proofs.trails.Trail.clear.Goals as goal

pub loop-start-init : goal.loop-start-init
loop-start-init c = c.self.invariant

pub loop-at-init : goal.loop-at-init
loop-at-init c = record {
  same = refl;
  starts =
      starts_popped c.loop-start.self-inside.words.items c.loop-start.self-inside.starts.items c.pop.new.self.items
      c.in-Some.start c.in-Some.ensures.items c.loop-start.invariant;
}

pub loop-start-smaller-else-not-is_bare : goal.loop-start-smaller-else-not-is_bare
loop-start-smaller-else-not-is_bare c =
    omega (
      arith,
      ap length c.loop-at.invariant.same,
      ap length c.in-Some.ensures.items,
      length_push c.pop.new.self.items c.in-Some.start,
    )

pub loop-start-preserved-else-not-is_bare : goal.loop-start-preserved-else-not-is_bare
loop-start-preserved-else-not-is_bare c =
    let l = c.loop-at in
    starts_end l.self-inside.words.items l.self-inside.starts.items l.at
    (sym (get_or_read l.self-inside.words.items l.at c.index.result.now (omega (arith, c.loop-at-test.true, c.len.ensures))
    c.index.ensures Bare) ∙ c.is_bare.ensures.0 c.if-not-is_bare.false)
    l.invariant.starts

pub loop-start-smaller : goal.loop-start-smaller
loop-start-smaller c =
    omega (
      arith,
      ap length c.loop-at.invariant.same,
      ap length c.in-Some.ensures.items,
      length_push c.pop.new.self.items c.in-Some.start,
    )

pub loop-start-preserved : goal.loop-start-preserved
loop-start-preserved c =
    let l = c.loop-at in
    starts_end l.self-inside.words.items l.self-inside.starts.items l.at
    (get_or_past l.self-inside.words.items l.at Bare (omega (arith, c.loop-at-test.false, c.len.ensures)))
    l.invariant.starts

pub loop-at-preserved : goal.loop-at-preserved
loop-at-preserved c =
    let l = c.loop-at in
    record {
      same = l.invariant.same;
      starts = starts_next l.self-inside.words.items l.self-inside.starts.items l.at
          (omega (arith, c.loop-at-test.true, c.len.ensures)) l.invariant.starts;
    }

pub invariant_of-self : goal.invariant_of-self
invariant_of-self c = λ w painted.
    absurd (painted (starts_none c.loop-start.self-inside.words.items c.loop-start.self-inside.starts.items
    (omega (arith, c.in_default.ensures.cases.0)) c.loop-start.invariant w))

pub returns : goal.returns
returns c =
    starts_none c.loop-start.self-inside.words.items c.loop-start.self-inside.starts.items
    (omega (arith, c.in_default.ensures.cases.0)) c.loop-start.invariant
