use Rattle.std.proofs.Common.{◌≡◌, ℕ, ◌<◌, ◌≤◌, IsTrue, length, take, get_or, sym, ap, subst, ◌∙◌, arith, ⊎_elim}
use Rattle.std.specs.Prelude.{List}
use Rattle.std.proofs.lemmas.Bool.{cases_lt}
use Rattle.std.proofs.lemmas.Option.{slice_get_within, get_or_from_slice_get}
use Rattle.graph_format.specs.Layer.{Layer}
use Rattle.graph_history.proofs.shared.shared_layers.Goals as goal

pub returns-then-not-is_same-clause-shared : goal.returns-then-not-is_same-clause-shared
returns-then-not-is_same-clause-shared c =
    let at = c.loop-layer.layer in
    let one = c.index-old_files-layer.result in
    let other = c.index-new_files-layer.result in
    let lengths_old = ap length c.layers-old_files.ensures.same in
    let lengths_new = ap length c.layers-new_files.ensures.same in
    record {
      in_old = omega (arith, c.loop-layer-test.true, c.min-most.ensures, lengths_old);
      in_new = omega (arith, c.loop-layer-test.true, c.min-most.ensures, lengths_new);
      same = c.loop-layer.invariant;
      most = λ layer in_old in_new.
          let first : one ≡ layer =
          c.index-old_files-layer.is ∙ ap (λ (ls : List Layer). get_or ls at one) c.layers-old_files.ensures.same
          ∙ get_or_from_slice_get c.args.old.now at layer one in_old in
          let second : other ≡ layer =
          c.index-new_files-layer.is ∙ ap (λ (ls : List Layer). get_or ls at other) c.layers-new_files.ensures.same
          ∙ get_or_from_slice_get c.args.new.now at layer other in_new in
          let count = ap (λ (l : Layer). length l.ids) first in
          ⊎_elim
          (λ (some : 0 < length layer.ids).
          let yes : IsTrue c.is_same.result =
          c.is_same.ensures.told (first ∙ sym second) (omega (arith, some, count)) in
          absurd (cc))
          (λ (none : length layer.ids ≤ 0). omega (arith, none))
          (cases_lt 0 (length layer.ids));
    }

pub returns-clause-shared : goal.returns-clause-shared
returns-clause-shared c =
    let lengths_old = ap length c.layers-old_files.ensures.same in
    let lengths_new = ap length c.layers-new_files.ensures.same in
    let end : c.loop-layer.layer ≡ c.min-most.result =
    omega (arith, c.loop-layer-test.false, c.loop-layer.auto.layer-end) in
    record {
      in_old = omega (arith, c.min-most.ensures, lengths_old);
      in_new = omega (arith, c.min-most.ensures, lengths_new);
      same = subst (λ (n : ℕ). take n c.args.old.now ≡ take n c.args.new.now) end c.loop-layer.invariant;
      most = λ layer in_old in_new. absurd (omega (
        arith,
        c.min-most.ensures,
        lengths_old,
        lengths_new,
        slice_get_within c.args.old.now c.min-most.result layer in_old,
        slice_get_within c.args.new.now c.min-most.result layer in_new,
      ));
    }
