use Rattle.std.proofs.Common.{ℕ, ◌<◌, ap, ◌∙◌, sym, inr, arith}
use Rattle.commit_search.specs.Positions.{numbers_of}
use Rattle.graph_bases.specs.Bases.{AreBelowCap}
use Rattle.graph_bases.specs.Paint.{is_on_one_side}
use Rattle.graph_bases.specs.declared.paint.Coat.{Coat}
use Rattle.graph_bases.proofs.CoatLemmas.{but_added}
use Rattle.graph_bases.proofs.EdgeLemmas.{painted_queued}
use Rattle.graph_bases.proofs.PaintLemmas.{so_passed, passed_one_side}
use Rattle.commit_search.proofs.RankLemmas.{step_never_rises}
use Rattle.graph_bases.proofs.painting.Painting.pass.Goals as goal

pub add-requires-clause-told : goal.add-requires-clause-told
add-requires-clause-told g c = λ t said.
    let s = c.args.self.now in
    let h = t.history in
    let p = c.args.commit.0 in
    let q = c.args.parent.0 in
    let k = g.R.Ranks.ranking c.args.ranks.now t in
    let r = c.requires.passes.told t said in
    let parent = c.requires.parent t said in
    record {
      painting = r.painting;
      so = rw c.passed.ensures (so_passed h s.first.0 (numbers_of s.others.now) p q c.args.paint r.so parent);
      waits = λ along below painted.
          (let order = r.in_order along in
          let fall = along.falls p q parent (order.uncapped below) in
          painted_queued k s.coats.all _ (k.rank p) q order.level fall painted);
      edge = rw c.passed.ensures
          (λ along below live.
          let order = r.in_order along in
          let own = order.own below in
          inr (
            p,
            own,
            ap is_on_one_side (c.requires.passes.same own) ∙ passed_one_side c.args.paint (order.painted below) live,
            parent,
          ));
    }

pub returns-clause-passes : goal.returns-clause-passes
returns-clause-passes g c =
    let s = c.args.self.now in
    let r = c.requires.passes in
    let p = c.args.commit.0 in
    let q = c.args.parent.0 in
    let e = c.in_ok-add.ensures in
    let f = c.add.ensures.first in
    let o = c.add.ensures.others in
    record {
      painting = e.painting;
      within = r.within;
      same = λ settled.
          (let was = e.adds.kept p settled in
          ap (λ (m : Coat). m.paint) was ∙ r.same (sym (ap (λ (m : Coat). m.queued) was) ∙ settled));
      told = λ t said.
          (let h = t.history in
          let k = g.R.Ranks.ranking c.args.ranks.now t in
          let before = c.add.ensures.kept t said in
          let told = r.told t before in
          let parent = c.requires.parent t before in
          record {
            painting = e.told t said;
            so = rw (f, o) told.so;
            spread = rw (f, o)
                (but_added h s.first.0 (numbers_of s.others.now) q _ s.coats.all c.add.new.self.coats.all e.adds p
                told.spread);
            in_order = λ along.
                (let order = told.in_order along in
                let falls : AreBelowCap k s.first.0 (numbers_of s.others.now) → k.rank q < k.rank p = λ below.
                along.falls p q parent (order.uncapped below) in
                record {
                  uncapped = rw (f, o) order.uncapped;
                  painted = rw (f, o) order.painted;
                  own = rw (f, o)
                      (λ below.
                      ap (λ (m : Coat). m.queued)
                      (e.adds.others p (λ same. let fall = falls below in omega (arith, fall, ap (λ (x : ℕ). k.rank x) same)))
                      ∙ order.own below);
                  level = e.level t (k.rank p) said (step_never_rises along p q parent) order.level;
                });
          });
    }
