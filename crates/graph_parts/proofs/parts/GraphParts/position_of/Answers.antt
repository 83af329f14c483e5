-- Each layer is searched after those below it.
use Rattle.std.proofs.Common.{◌≡◌, ◌<◌, List, ◌+◌, length, take, refl, rules, sym, ap, ◌∙◌, arith}
use Rattle.std.specs.Vec.{with_item}
use Rattle.std.proofs.Math.ListN.{length-set}
use Rattle.std.proofs.lemmas.List.{get_or-set_same}
use Rattle.std.proofs.lemmas.Option.{slice_get_read}
use Rattle.gix_hash_core.specs.Oid.{oid_bytes}
use Rattle.graph_find.specs.declared.chain.ChainLayer.{ChainLayer}
use Rattle.graph_parts.specs.PartFiles.{commits_in, commits_in_all}
use Rattle.graph_parts.specs.PiecesRead.{PartsWereRead}
use Rattle.graph_parts.specs.Shown.{AreGraphParts, SeesMore, commits_of_parts, files_of}
use Rattle.graph_parts.specs.declared.layer.LayerParts.{LayerParts}
use Rattle.graph_parts.specs.declared.parts.GraphParts.{GraphParts}
use Rattle.graph_parts.proofs.GivenLemmas.{given-set}
use Rattle.graph_parts.proofs.GraphPartLemmas.{ReadsAt, files-fit, files-more, found-here, missed-all, missed-here, new-parts}
use Rattle.graph_parts.proofs.GraphPartLemmas.{new-sees}
use Rattle.graph_parts.proofs.GraphPartLemmas.{same-commits, sees-then}
use Rattle.graph_parts.proofs.ZipLemmas.{get-set}
use Rattle.graph_parts.proofs.parts.GraphParts.position_of.Given.{Over}
use Rattle.graph_parts.proofs.parts.GraphParts.position_of.Goals.{After-position_of}
use Rattle.graph_parts.proofs.parts.GraphParts.position_of.Goals as goal

-- A layer was searched, of which more may be kept then.
module _ (g : Over) (c : After-position_of g) where
  abbrev new : GraphParts
  new = record { layers = with_item c.loop-layer.self.layers c.loop-layer.layer c.position_of.new.self }

  reads : ReadsAt (g.T.Folder.tree c.args.folder.now) c.loop-layer.self new c.loop-layer.layer c.index_mut.result.now
      c.position_of.new.self
  reads = record {
    right = c.loop-layer.invariant.right;
    here = slice_get_read c.loop-layer.self.layers.items (length c.loop-layer.self.layers.items) c.loop-layer.layer
        c.index_mut.result.now refl (omega (arith, c.loop-layer.invariant.long, c.loop-layer-test.true))
        c.index_mut.ensures.value;
    is = refl;
    sees = rw c.loop-layer.invariant.tree at c.position_of.ensures.sees;
    kept = c.position_of.ensures.parts;
  }

  right : AreGraphParts new
  right =
      new-parts (g.T.Folder.tree c.args.folder.now) c.loop-layer.self new c.loop-layer.layer c.index_mut.result.now
      c.position_of.new.self reads

  more : SeesMore (g.T.Folder.tree c.args.folder.now) c.loop-layer.self new
  more =
      new-sees (g.T.Folder.tree c.args.folder.now) c.loop-layer.self new c.loop-layer.layer c.index_mut.result.now
      c.position_of.new.self reads

  sees : SeesMore (g.T.Folder.tree c.args.folder.now) c.args.self.now new
  sees =
      sees-then (g.T.Folder.tree c.args.folder.now) c.args.self.now c.loop-layer.self new c.loop-layer.invariant.sees more

  given : PartsWereRead g.T.Folder.gives_part c.args.self.now → PartsWereRead g.T.Folder.gives_part new
  given were =
      given-set g.T.Folder.gives_part c.loop-layer.self c.loop-layer.layer c.index_mut.result.now c.position_of.new.self
      (omega (arith, c.loop-layer.invariant.long, c.loop-layer-test.true)) c.index_mut.ensures.value c.position_of.ensures.given
      (c.loop-layer.invariant.given were)

pub returns-in_err-pos-clause-given : goal.returns-in_err-pos-clause-given
returns-in_err-pos-clause-given g c = given g (goal.at.returns-in_err-pos-clause-given g c).After-position_of

pub returns-in-Found-clause-given : goal.returns-in-Found-clause-given
returns-in-Found-clause-given g c = given g (goal.at.returns-in-Found-clause-given g c).After-position_of

pub returns-in-NotByParts-clause-given : goal.returns-in-NotByParts-clause-given
returns-in-NotByParts-clause-given g c = given g (goal.at.returns-in-NotByParts-clause-given g c).After-position_of

pub returns-in_err-pos-clause-parts : goal.returns-in_err-pos-clause-parts
returns-in_err-pos-clause-parts g c = right g (goal.at.returns-in_err-pos-clause-parts g c).After-position_of

pub returns-in_err-pos-clause-sees : goal.returns-in_err-pos-clause-sees
returns-in_err-pos-clause-sees g c = sees g (goal.at.returns-in_err-pos-clause-sees g c).After-position_of

pub returns-in-Found-clause-parts : goal.returns-in-Found-clause-parts
returns-in-Found-clause-parts g c = right g (goal.at.returns-in-Found-clause-parts g c).After-position_of

pub returns-in-Found-clause-sees : goal.returns-in-Found-clause-sees
returns-in-Found-clause-sees g c = sees g (goal.at.returns-in-Found-clause-sees g c).After-position_of

pub returns-in-Found-clause-within : goal.returns-in-Found-clause-within
returns-in-Found-clause-within g c =
    let known = g.T.Folder.tree c.args.folder.now in
    let old = c.loop-layer.self in
    let l = c.loop-layer.layer in
    let part = c.index_mut.result.now in
    let here = (reads g (goal.at.returns-in-Found-clause-within g c).After-position_of).here in
    let found : c.in-Found.pos.0 < commits_in part.file = rw c.in-Found.is at c.in_ok-pos.ensures.within in
    let same : commits_in_all (take l (files_of old)) ≡ commits_in_all (take l (files_of c.args.self.now)) =
    ap (λ (files : List ChainLayer). commits_in_all (take l files)) c.loop-layer.invariant.sees.same in
    let all : commits_of_parts old ≡ commits_of_parts c.args.self.now = same-commits known c.args.self.now old
    c.loop-layer.invariant.sees in
    omega (arith, found, same, all, c.loop-layer.invariant.counted, files-fit old l part here)

pub returns-in-Found-clause-answers : goal.returns-in-Found-clause-answers
returns-in-Found-clause-answers g c =
    let known = g.T.Folder.tree c.args.folder.now in
    let l = c.loop-layer.layer in
    let after = (goal.at.returns-in-Found-clause-answers g c).After-position_of in
    let seen = more g after in
    let counted : c.loop-layer.start ≡ commits_in_all (take l (files_of (new g after))) =
    c.loop-layer.invariant.counted
    ∙ ap (λ (files : List ChainLayer). commits_in_all (take l files)) (sym (sees g after).same) in
    let found = rw (c.loop-layer.invariant.tree, c.in-Found.is) at c.in_ok-pos.ensures.answers in
    found-here known (new g after) (right g after) l c.position_of.new.self
    (get-set c.loop-layer.self.layers.items l c.index_mut.result.now c.position_of.new.self (reads g after).here)
    (oid_bytes c.args.id) c.in-Found.pos.0 c.loop-layer.start counted
    (λ layers shows. c.loop-layer.invariant.missed layers (seen.kept layers shows)) found

pub returns-in-NotByParts-clause-parts : goal.returns-in-NotByParts-clause-parts
returns-in-NotByParts-clause-parts g c = right g (goal.at.returns-in-NotByParts-clause-parts g c).After-position_of

pub returns-in-NotByParts-clause-sees : goal.returns-in-NotByParts-clause-sees
returns-in-NotByParts-clause-sees g c = sees g (goal.at.returns-in-NotByParts-clause-sees g c).After-position_of

pub loop-layer-preserved : goal.loop-layer-preserved
loop-layer-preserved g c =
    let known = g.T.Folder.tree c.args.folder.now in
    let old = c.loop-layer.self in
    let l = c.loop-layer.layer in
    let after = (goal.at.loop-layer-preserved g c).After-position_of in
    let seen = more g after in
    let same = (sees g after).same in
    let there = get-set old.layers.items l c.index_mut.result.now c.position_of.new.self (reads g after).here in
    let now : c.index.result.now ≡ c.position_of.new.self = search (rules, get_or-set_same) in
    let missed = rw (c.loop-layer.invariant.tree, c.in-Missing.is) at c.in_ok-pos.ensures.answers in
    record {
      tree = c.position_of.ensures.tree ∙ c.loop-layer.invariant.tree;
      failures = search rules;
      right = right g after;
      sees = sees g after;
      given = given g after;
      long = length-set old.layers.items l c.position_of.new.self ∙ c.loop-layer.invariant.long;
      counted =
          let one : commits_in c.index.result.now.file ≡ commits_in c.position_of.new.self.file =
          ap (λ (p : LayerParts). commits_in p.file) now in
          let files : commits_in_all (take (l + 1) (files_of (new g after)))
          ≡ commits_in_all (take (l + 1) (files_of c.args.self.now)) =
          ap (λ (fs : List ChainLayer). commits_in_all (take (l + 1) fs)) same in
          let before : commits_in_all (take l (files_of (new g after))) ≡ commits_in_all (take l (files_of c.args.self.now)) =
          ap (λ (fs : List ChainLayer). commits_in_all (take l fs)) same in
          omega (
            arith,
            c.loop-layer.invariant.counted,
            files-more (new g after) l c.position_of.new.self there,
            one,
            files,
            before,
          );
      missed = missed-here known (new g after) (right g after) l c.position_of.new.self there (oid_bytes c.args.id)
          (λ layers shows. c.loop-layer.invariant.missed layers (seen.kept layers shows)) missed;
    }

pub returns-clause-answers : goal.returns-clause-answers
returns-clause-answers g c =
    missed-all (g.T.Folder.tree c.args.folder.now) c.loop-layer.self c.loop-layer.layer (oid_bytes c.args.id)
    (omega (arith, c.loop-layer.invariant.long, c.loop-layer-test.false)) c.loop-layer.invariant.missed
