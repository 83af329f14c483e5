use Rattle.std.proofs.Common.{rules, subst, sym, List, inr}
use Rattle.std.proofs.lemmas.Result.{err_from_is_err_and}
use Rattle.graph_format.specs.Layer.{Layer}
use Rattle.c_opening.specs.Files.{AreLayersOf}
use Rattle.c_opening.proofs.Files.{next, all_of, no_room, refused_at}
use Rattle.c_opening.proofs.open.open_lent.Goals as goal

pub loop-file-preserved : goal.loop-file-preserved
loop-file-preserved c =
    next c.args.files.now c.loop-file.layers.items c.add.new.layers.items c.loop-file.file-index _
    c.in_ok-layer.layer c.loop-file-test.true c.loop-file.invariant c.in_ok-layer.ensures.layer c.in_ok-add.ensures.items

pub returns-in-Ok-clause-opened : goal.returns-in-Ok-clause-opened
returns-in-Ok-clause-opened c = (
  subst (λ (ls : List Layer). AreLayersOf c.args.files.now ls) (sym c.in-Ok.ensures.layers)
      (all_of c.args.files.now c.loop-file.layers.items c.loop-file.file-index c.loop-file-test.false c.loop-file.invariant),
  search rules,
)

pub returns-in_err-layer-clause-refused : goal.returns-in_err-layer-clause-refused
returns-in_err-layer-clause-refused c =
    let handed = err_from_is_err_and c.from_residual.result c.from_residual.ensures.1 in
    rw (handed.1, handed.2)
    (refused_at c.args.files.now c.loop-file.layers.items c.loop-file.file-index _ c.len-place.result _ c.loop-file-test.true
    c.loop-file.invariant (search rules) c.in_err-layer.ensures.refused)

pub returns-in_err-add-clause-refused : goal.returns-in_err-add-clause-refused
returns-in_err-add-clause-refused c =
    let handed = err_from_is_err_and c.from_residual-in_err-add.result c.from_residual-in_err-add.ensures.1 in
    rw (handed.1, handed.2)
    (no_room c.args.files.now c.loop-file.layers.items c.loop-file.file-index _ c.len-place.result _
    c.loop-file-test.true c.loop-file.invariant (search rules) c.in_ok-layer.ensures.text c.in_ok-layer.ensures.accepted
    c.in_err-add.ensures.error)

pub returns-in-Err-clause-refused : goal.returns-in-Err-clause-refused
returns-in-Err-clause-refused c =
    inr
    (record {
      layers = c.loop-file.layers.items;
      all =
          all_of c.args.files.now c.loop-file.layers.items c.loop-file.file-index c.loop-file-test.false c.loop-file.invariant;
      error = _;
      may = c.in-Err.ensures.refusal;
      told = c.graph_error.ensures.told;
    })
