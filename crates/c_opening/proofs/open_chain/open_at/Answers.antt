use Rattle.std.proofs.Common.{rules, subst, sym, List, inr}
use Rattle.std.proofs.lemmas.Result.{err_from_is_err_and}
use Rattle.graph_format.specs.Layer.{Layer}
use Rattle.c_opening.specs.Chain.{files_at}
use Rattle.c_opening.specs.Files.{AreLayersOf}
use Rattle.c_opening.proofs.Chain.{all_at, if_some, known_at, next_at, no_room_at, refused_place}
use Rattle.c_opening.proofs.open_chain.open_at.Goals as goal

pub open_known_layer-requires : goal.open_known_layer-requires
open_known_layer-requires c =
    if_some _ _ c.layer_at-known.result
    (λ layer at.
    known_at c.args.files.now c.args.places.now c.requires c.loop-place.layers.items _ c.loop-place.place-index _ _ layer.now
    c.loop-place.invariant c.deref.ensures.value (c.requires _ _ c.loop-place-test.true) at)
    c.layer_at-known.ensures

pub loop-place-preserved : goal.loop-place-preserved
loop-place-preserved c =
    next_at c.args.files.now c.args.places.now c.requires c.loop-place.layers.items c.add.new.layers.items
    c.loop-place.place-index _ _ c.in_ok-layer.layer c.loop-place-test.true c.loop-place.invariant c.in_ok-layer.ensures.layer
    c.in_ok-add.ensures.items

pub returns-in-Ok-clause-opened : goal.returns-in-Ok-clause-opened
returns-in-Ok-clause-opened c = (
  subst (λ (ls : List Layer). AreLayersOf (files_at c.args.files.now c.args.places.now) ls) (sym c.in-Ok.ensures.layers)
      (all_at c.args.files.now c.args.places.now c.requires c.loop-place.layers.items c.loop-place.place-index
      c.loop-place-test.false c.loop-place.invariant),
  search rules,
)

pub returns-in_err-layer-clause-refused : goal.returns-in_err-layer-clause-refused
returns-in_err-layer-clause-refused c =
    let handed = err_from_is_err_and c.from_residual.result c.from_residual.ensures.1 in
    rw (handed.1, handed.2)
    (refused_place c.args.files.now c.args.places.now c.requires c.loop-place.layers.items c.loop-place.place-index _ _
    c.len-number.result _ c.loop-place-test.true c.loop-place.invariant (search rules) c.in_err-layer.ensures.refused)

pub returns-in_err-add-clause-refused : goal.returns-in_err-add-clause-refused
returns-in_err-add-clause-refused c =
    let handed = err_from_is_err_and c.from_residual-in_err-add.result c.from_residual-in_err-add.ensures.1 in
    rw (handed.1, handed.2)
    (no_room_at c.args.files.now c.args.places.now c.requires c.loop-place.layers.items c.loop-place.place-index _ _
    c.len-number.result _ c.loop-place-test.true c.loop-place.invariant (search rules) c.in_ok-layer.ensures.text
    c.in_ok-layer.ensures.accepted c.in_err-add.ensures.error)

pub returns-then-is_err-clause-refused : goal.returns-then-is_err-clause-refused
returns-then-is_err-clause-refused c =
    no_room_at c.args.files.now c.args.places.now c.requires c.loop-place.layers.items c.loop-place.place-index _ _
    c.len-number.result _ c.loop-place-test.true c.loop-place.invariant (search rules) c.in_ok-layer.ensures.text
    c.in_ok-layer.ensures.accepted c.file_error.ensures.told

pub returns-clause-refused : goal.returns-clause-refused
returns-clause-refused c =
    inr
    (record {
      layers = c.loop-place.layers.items;
      all =
          all_at c.args.files.now c.args.places.now c.requires c.loop-place.layers.items c.loop-place.place-index
          c.loop-place-test.false c.loop-place.invariant;
      error = _;
      may = c.in-Err.ensures.refusal;
      told = c.graph_error.ensures.told;
    })
