-- The id is compared with one of those that are left.
use Rattle.std.proofs.Common.{◌<◌, slice_index, refl, rules, sym, ◌∙◌, arith}
use Rattle.graph_format.specs.Format.{fan_of}
use Rattle.graph_find.specs.ReadHead.{IsBucketSpan}
use Rattle.graph_layer.proofs.LookupLemmas.{stands_within-lower, stands_within-upper, found-equal, found-none}
use Rattle.graph_parts.proofs.LayerPartLemmas.{sees-after, sees-same}
use Rattle.graph_parts.proofs.LookupPartLemmas.{shown-bucket, shown-other_kind}
use Rattle.graph_parts.proofs.layer.LayerParts.position_of.Goals as goal

pub returns-then-wanted-size-clause-answers : goal.returns-then-wanted-size-clause-answers
returns-then-wanted-size-clause-answers g c =
    rw (← c.as_bytes-wanted.ensures.bytes)
    (λ layer shows.
    shown-other_kind (g.T.Folder.tree c.args.folder.now) c.args.self.now layer shows c.as_bytes-wanted.result.now c.requires
    (λ same. c.if-wanted-size.true (same ∙ sym c.len_in_bytes-size.ensures)))

pub returns-then-wanted-size-clause-sees : goal.returns-then-wanted-size-clause-sees
returns-then-wanted-size-clause-sees g c = sees-same (g.T.Folder.tree c.args.folder.now) c.args.self.now

pub returns-then-layout-span-clause-sees : goal.returns-then-layout-span-clause-sees
returns-then-layout-span-clause-sees g c = sees-same (g.T.Folder.tree c.args.folder.now) c.args.self.now

pub loop-low-init : goal.loop-low-init
loop-low-init g c =
    let known = g.T.Folder.tree c.args.folder.now in
    let wanted = c.as_bytes-wanted.result.now in
    record {
      tree = refl;
      failures = refl;
      parts = c.requires;
      sees = sees-same known c.args.self.now;
      given = λ were. were;
      within = omega (arith, c.if-layout-span.false);
      stands = λ layer shows.
          let byte : slice_index wanted 0 < 256 = rw c.as_bytes-wanted.ensures.bytes (omega (arith, c.first_byte.ensures)) in
          let is : IsBucketSpan (fan_of shows.of.file) (slice_index wanted 0) c.span-span.result =
          rw (c.as_bytes-wanted.ensures.bytes, ← c.first_byte.ensures)
          (c.span-span.ensures.fan shows.of.file shows.of.begins) in
          shown-bucket known c.args.self.now layer shows wanted c.span-span.result byte is;
    }

pub kept_id-there-requires-clause-kept : goal.kept_id-there-requires-clause-kept
kept_id-there-requires-clause-kept g c = rw c.in-Some.is at c.in_ok-kept.ensures.kept

pub loop-low-preserved-in-Less : goal.loop-low-preserved-in-Less
loop-low-preserved-in-Less g c =
    let known = g.T.Folder.tree c.args.folder.now in
    let more = rw c.loop-low.invariant.tree at c.read_id.ensures.sees in
    record {
      tree = c.read_id.ensures.tree ∙ c.loop-low.invariant.tree;
      failures = search rules;
      parts = c.read_id.ensures.parts;
      sees = sees-after known c.args.self.now c.loop-low.self c.read_id.new.self c.loop-low.invariant.sees more;
      given = λ were. c.read_id.ensures.given (c.loop-low.invariant.given were);
      within = omega (arith, c.loop-low.invariant.within, c.loop-low-test.true);
      stands = λ layer shows.
          stands_within-lower layer _ _ _ _ _ (c.loop-low.invariant.stands layer (more.kept layer shows))
          (c.kept_id-there.ensures.id known layer shows) (sym c.in-Less.ensures);
    }

pub loop-low-preserved : goal.loop-low-preserved
loop-low-preserved g c =
    let known = g.T.Folder.tree c.args.folder.now in
    let more = rw c.loop-low.invariant.tree at c.read_id.ensures.sees in
    record {
      tree = c.read_id.ensures.tree ∙ c.loop-low.invariant.tree;
      failures = search rules;
      parts = c.read_id.ensures.parts;
      sees = sees-after known c.args.self.now c.loop-low.self c.read_id.new.self c.loop-low.invariant.sees more;
      given = λ were. c.read_id.ensures.given (c.loop-low.invariant.given were);
      within = c.loop-low.invariant.within;
      stands = λ layer shows.
          stands_within-upper layer _ _ _ _ _ (c.loop-low.invariant.stands layer (more.kept layer shows))
          (c.kept_id-there.ensures.id known layer shows) (sym c.in-Greater.ensures);
    }

pub returns-in_err-kept-clause-sees : goal.returns-in_err-kept-clause-sees
returns-in_err-kept-clause-sees g c =
    sees-after (g.T.Folder.tree c.args.folder.now) c.args.self.now c.loop-low.self c.read_id.new.self
    c.loop-low.invariant.sees (rw c.loop-low.invariant.tree at c.read_id.ensures.sees)

pub returns-in_default-clause-sees : goal.returns-in_default-clause-sees
returns-in_default-clause-sees g c =
    sees-after (g.T.Folder.tree c.args.folder.now) c.args.self.now c.loop-low.self c.read_id.new.self
    c.loop-low.invariant.sees (rw c.loop-low.invariant.tree at c.read_id.ensures.sees)

pub returns-in-Equal-clause-sees : goal.returns-in-Equal-clause-sees
returns-in-Equal-clause-sees g c =
    sees-after (g.T.Folder.tree c.args.folder.now) c.args.self.now c.loop-low.self c.read_id.new.self
    c.loop-low.invariant.sees (rw c.loop-low.invariant.tree at c.read_id.ensures.sees)

pub returns-in-Equal-clause-answers : goal.returns-in-Equal-clause-answers
returns-in-Equal-clause-answers g c =
    rw (← c.as_bytes-wanted.ensures.bytes)
    (λ layer shows.
    found-equal layer _ _ _ (c.kept_id-there.ensures.id (g.T.Folder.tree c.args.folder.now) layer shows) (sym c.in-Equal.ensures))

pub returns-clause-answers : goal.returns-clause-answers
returns-clause-answers g c =
    rw (← c.as_bytes-wanted.ensures.bytes)
    (λ layer shows. found-none layer _ _ _ (c.loop-low.invariant.stands layer shows) (omega arith))

pub returns-in-Equal-clause-within : goal.returns-in-Equal-clause-within
returns-in-Equal-clause-within g c = omega (arith, c.loop-low.invariant.within, c.loop-low-test.true)

pub returns-in_err-kept-clause-given : goal.returns-in_err-kept-clause-given
returns-in_err-kept-clause-given g c = λ were. c.read_id.ensures.given (c.loop-low.invariant.given were)

pub returns-in_default-clause-given : goal.returns-in_default-clause-given
returns-in_default-clause-given g c = λ were. c.read_id.ensures.given (c.loop-low.invariant.given were)

pub returns-in-Equal-clause-given : goal.returns-in-Equal-clause-given
returns-in-Equal-clause-given g c = λ were. c.read_id.ensures.given (c.loop-low.invariant.given were)
