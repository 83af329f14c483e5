use Rattle.std.proofs.Common.{◌≡◌, ◌+◌, ◌*◌, ◌/◌, ◌++◌, length, map, max, take, drop, subst, sym, ap, ◌∙◌, arith, replicate}
use Rattle.std.proofs.Common.{rules}
use Rattle.std.proofs.lemmas.List.{length-map, length-replicate, take_at}
use Rattle.changed_paths.specs.Filter.{bit_hit}
use Rattle.path_filters.proofs.ListLemmas.{view_get}
use Rattle.path_filters.proofs.BitLemmas.{IsMadeOf, none_made, clear_hit, one_path_more, all_made}
use Rattle.path_filters.proofs.bits.filter_of.Goals as goal

pub loop-path-init : goal.loop-path-init
loop-path-init c =
    let n = c.size_of.result in
    let zeros : c.in_ok-filter.filter.items ≡ replicate n 0 = search rules in
    record {
      size = ap length zeros ∙ length-replicate n 0 ∙ c.size_of.ensures.size;
      made = none_made c.args.reading c.args.hashes c.in_ok-filter.filter.items
          (λ x set. clear_hit n x (subst (λ f. bit_hit f x ≡ 1) zeros set));
    }

pub loop-path-preserved : goal.loop-path-preserved
loop-path-preserved c =
    let new = c.set_bits.new.filter in
    let items = c.loop-path.filter.items in
    let paths = map (λ path. path.now) c.args.paths.now in
    let value : c.deref_mut.result.now ≡ items = c.deref_mut.ensures.value in
    let same : length new ≡ length items = c.set_bits.auto.filter ∙ ap length value in
    let whole : take c.loop-path.filter.len (new ++ drop (length new) items) ≡ new =
    take_at new (drop (length new) items) c.loop-path.filter.len (omega (arith, same, c.loop-path.filter.ok.0)) in
    record {
      size = ap length whole ∙ same ∙ c.loop-path.invariant.size;
      made =
          subst (λ f. IsMadeOf c.args.reading c.args.hashes (take (c.loop-path.path-index + 1) paths) f) (sym whole)
          (one_path_more c.args.reading c.args.hashes paths c.loop-path.path-index _ c.deref_mut.result.now new
          (omega (arith, c.loop-path-test.true, length-map c.args.paths.now (λ path. path.now)))
          (view_get (λ path. path.now) c.args.paths.now c.loop-path.path-index _ c.loop-path-test.true)
          (subst (λ f. IsMadeOf c.args.reading c.args.hashes (take c.loop-path.path-index paths) f) (sym value)
          c.loop-path.invariant.made)
          c.set_bits.auto.filter c.set_bits.ensures.hit c.set_bits.ensures.set);
    }

pub returns : goal.returns
returns c =
    let paths = map (λ path. path.now) c.args.paths.now in
    let count : length paths ≡ length c.args.paths.now = length-map c.args.paths.now (λ path. path.now) in
    all_made c.args.reading c.args.bits c.args.hashes paths c.loop-path.path-index c.loop-path.filter.items
    (omega (arith, count, c.loop-path-test.false))
    (subst (λ n. length c.loop-path.filter.items ≡ max 1 ((c.args.bits * n + 7) / 8)) (sym count) c.loop-path.invariant.size)
    c.loop-path.invariant.made
