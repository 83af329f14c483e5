use Rattle.std.proofs.Common.{rules, ◌≡◌, ◌+◌, ◌-◌, ◌++◌, ◌∷◌, [], option_map, length, take, drop, refl, ap, ◌∙◌, subst, arith}
use Rattle.tree_objects.specs.Entry.{entry_of}
use Rattle.tree_changes.specs.Stands.{item_of, item_id}
use Rattle.tree_changes.specs.Changes.{one_if_some}
use Rattle.tree_changes.specs.Walk.{IsFoundSoFar}
use Rattle.tree_changes.specs.Reads.{IsReadLevel, IsReadRefusal}
use Rattle.tree_changes.proofs.LevelLemmas.{one_mapped}
use Rattle.tree_changes.proofs.NextStep.{level_on, leaf_then, tree_on, too_deep, not_read, left_is, slice_is}
use Rattle.tree_changes.proofs.walk.Walk.next.Goals as goal

pub loop-level-preserved-in_default-next_difference : goal.loop-level-preserved-in_default-next_difference
loop-level-preserved-in_default-next_difference g c = record {
  kind = c.loop-level.invariant.kind;
  kept = c.loop-level.invariant.kept;
  names = c.loop-level.invariant.names;
  found = λ old new budget found h.
      level_on (g.S.TreeSource.kind_is c.args.source.now) c.kind-kind.result c.kind-kind.ensures
      (g.S.TreeSource.says c.loop-level.source) old new budget found c.loop-level.self.path.items c.loop-level.self.levels.items
      c.pop.new.self.items c.in-Some.level c.loop-level.self.trees (c.loop-level.invariant.found old new budget found h)
      c.in-Some.ensures.items
      (take (length c.deref.result.now - c.in-Some.level.old_at) (drop c.in-Some.level.old_at c.deref.result.now))
      (take (length c.deref-in-Some.result.now - c.in-Some.level.new_at) (drop c.in-Some.level.new_at c.deref-in-Some.result.now))
      (slice_is c.deref.result.now c.in-Some.level.old.items c.in-Some.level.old_at c.deref.ensures.value)
      (slice_is c.deref-in-Some.result.now c.in-Some.level.new.items c.in-Some.level.new_at c.deref-in-Some.ensures.value)
      c.in_default-next_difference.ensures.pair;
}

pub returns-then-not-pair-clause-found : goal.returns-then-not-pair-clause-found
returns-then-not-pair-clause-found g c = λ old new budget found h.
    let pair = c.in-Some-next_difference.pair in
    let level = c.in-Some.level in
    let path : c.extend_from_slice.new.self.items ≡ take level.prefix c.loop-level.self.path.items ++ pair.name.now = search
    rules in
    let levels : c.push.new.self.items ≡ c.pop.new.self.items ++ c.with_left-level.result ∷ [] = search rules in
    leaf_then (g.S.TreeSource.kind_is c.args.source.now) c.kind-kind.result c.kind-kind.ensures
    (g.S.TreeSource.says c.loop-level.source) old new budget found c.loop-level.self.path.items c.loop-level.self.levels.items
    c.pop.new.self.items c.in-Some.level c.loop-level.self.trees (c.loop-level.invariant.found old new budget found h)
    c.in-Some.ensures.items
    (take (length c.deref.result.now - c.in-Some.level.old_at) (drop c.in-Some.level.old_at c.deref.result.now))
    (take (length c.deref-in-Some.result.now - c.in-Some.level.new_at) (drop c.in-Some.level.new_at c.deref-in-Some.result.now))
    (slice_is c.deref.result.now c.in-Some.level.old.items c.in-Some.level.old_at c.deref.ensures.value)
    (slice_is c.deref-in-Some.result.now c.in-Some.level.new.items c.in-Some.level.new_at c.deref-in-Some.ensures.value)
    (option_map entry_of pair.old) (option_map entry_of pair.new) pair.old_rest.now pair.new_rest.now pair.name.now pair.directory
    c.in-Some-next_difference.ensures.pair c.with_left-level.result c.with_left-level.ensures.prefix
    (left_is level.old.items c.with_left-level.result.old.items
    (take (length c.deref.result.now - level.old_at) (drop level.old_at c.deref.result.now)) pair.old_rest.now level.old_at
    c.with_left-level.result.old_at (length pair.old_rest.now) c.with_left-level.ensures.old
    (slice_is c.deref.result.now level.old.items level.old_at c.deref.ensures.value) c.with_left-level.ensures.old_at refl
    c.in-Some-next_difference.ensures.old_end)
    (left_is level.new.items c.with_left-level.result.new.items
    (take (length c.deref-in-Some.result.now - level.new_at) (drop level.new_at c.deref-in-Some.result.now)) pair.new_rest.now
    level.new_at c.with_left-level.result.new_at (length pair.new_rest.now) c.with_left-level.ensures.new
    (slice_is c.deref-in-Some.result.now level.new.items level.new_at c.deref-in-Some.ensures.value)
    c.with_left-level.ensures.new_at refl
    c.in-Some-next_difference.ensures.new_end)
    c.extend_from_slice.new.self.items c.push.new.self.items c.if-not-pair.true path levels

pub returns-then-len-self-clause-refused : goal.returns-then-len-self-clause-refused
returns-then-len-self-clause-refused g c = λ old new budget found h.
    let pair = c.in-Some-next_difference.pair in
    too_deep (g.S.TreeSource.kind_is c.args.source.now) c.kind-kind.result c.kind-kind.ensures
    (g.S.TreeSource.says c.loop-level.source) old new budget found c.loop-level.self.path.items c.loop-level.self.levels.items
    c.pop.new.self.items c.in-Some.level c.loop-level.self.trees (c.loop-level.invariant.found old new budget found h)
    c.in-Some.ensures.items
    (take (length c.deref.result.now - c.in-Some.level.old_at) (drop c.in-Some.level.old_at c.deref.result.now))
    (take (length c.deref-in-Some.result.now - c.in-Some.level.new_at) (drop c.in-Some.level.new_at c.deref-in-Some.result.now))
    (slice_is c.deref.result.now c.in-Some.level.old.items c.in-Some.level.old_at c.deref.ensures.value)
    (slice_is c.deref-in-Some.result.now c.in-Some.level.new.items c.in-Some.level.new_at c.deref-in-Some.ensures.value)
    (option_map entry_of pair.old) (option_map entry_of pair.new) pair.old_rest.now pair.new_rest.now pair.name.now pair.directory
    c.in-Some-next_difference.ensures.pair c.args.self.now.names c.if-not-pair.false
    (omega (arith, c.if-len-self.true, c.loop-level.invariant.names, c.len.ensures))

pub loop-level-preserved : goal.loop-level-preserved
loop-level-preserved g c =
    let first = c.read_level.ensures in
    record {
      kind = first.kind ∙ c.loop-level.invariant.kind;
      kept = λ world w. c.loop-level.invariant.kept world (first.kept world w);
      names = c.loop-level.invariant.names;
      found = λ old new budget found h.
          let pair = c.in-Some-next_difference.pair in
          let level = c.in-Some.level in
          let path : c.extend_from_slice-in-Some.new.self.items
          ≡ (take level.prefix c.loop-level.self.path.items ++ pair.name.now) ++ 47 ∷ [] = search rules in
          let pushed : c.push-in-Some.new.self.items ≡ c.pop.new.self.items ++ c.with_left-level-in-Some.result ∷ [] = search
          rules in
          let levels : c.push-in-Some-2.new.self.items ≡ c.push-in-Some.new.self.items ++ c.in-Ok.below ∷ [] = search rules in
          let n : c.len-prefix.result ≡ length c.extend_from_slice-in-Some.new.self.items = search rules in
          let says = g.S.TreeSource.says c.read_level.new.source in
          let kind = g.S.TreeSource.kind_is c.args.source.now in
          let a = item_id (option_map item_of (option_map entry_of pair.old)) in
          let b = item_id (option_map item_of (option_map entry_of pair.new)) in
          let read : IsReadLevel kind says a b c.len-prefix.result c.in-Ok.below =
          subst (λ t. IsReadLevel t says a b c.len-prefix.result c.in-Ok.below) c.loop-level.invariant.kind
          (subst (λ t. IsReadLevel (g.S.TreeSource.kind_is c.loop-level.source) says a t c.len-prefix.result c.in-Ok.below)
          c.id_in-new.ensures
          (subst (λ t. IsReadLevel (g.S.TreeSource.kind_is c.loop-level.source) says t (option_map (λ i. i.now)
          c.id_in-new.result) c.len-prefix.result c.in-Ok.below)
          c.id_in-old.ensures c.in-Ok.ensures.read)) in
          let fewer : c.read_level.new.trees + one_if_some a + one_if_some b ≡ c.loop-level.self.trees =
          omega (
            arith,
            c.in-Ok.ensures.trees,
            one_mapped (λ i. i.now) c.id_in-old.result,
            one_mapped (λ i. i.now) c.id_in-new.result,
            ap one_if_some c.id_in-old.ensures,
            ap one_if_some c.id_in-new.ensures,
          ) in
          tree_on (g.S.TreeSource.kind_is c.args.source.now) c.kind-kind.result c.kind-kind.ensures
          (g.S.TreeSource.says c.loop-level.source) old new budget found c.loop-level.self.path.items
          c.loop-level.self.levels.items
          c.pop.new.self.items c.in-Some.level c.loop-level.self.trees (c.loop-level.invariant.found old new budget found h)
          c.in-Some.ensures.items
          (take (length c.deref.result.now - c.in-Some.level.old_at) (drop c.in-Some.level.old_at c.deref.result.now))
          (take (length c.deref-in-Some.result.now - c.in-Some.level.new_at) (drop c.in-Some.level.new_at
          c.deref-in-Some.result.now))
          (slice_is c.deref.result.now c.in-Some.level.old.items c.in-Some.level.old_at c.deref.ensures.value)
          (slice_is c.deref-in-Some.result.now c.in-Some.level.new.items c.in-Some.level.new_at c.deref-in-Some.ensures.value)
          (option_map entry_of pair.old) (option_map entry_of pair.new) pair.old_rest.now pair.new_rest.now pair.name.now
          pair.directory
          c.in-Some-next_difference.ensures.pair c.with_left-level-in-Some.result c.with_left-level-in-Some.ensures.prefix
          (left_is level.old.items c.with_left-level-in-Some.result.old.items
          (take (length c.deref.result.now - level.old_at) (drop level.old_at c.deref.result.now)) pair.old_rest.now level.old_at
          c.with_left-level-in-Some.result.old_at (length pair.old_rest.now) c.with_left-level-in-Some.ensures.old
          (slice_is c.deref.result.now level.old.items level.old_at c.deref.ensures.value)
          c.with_left-level-in-Some.ensures.old_at refl
          c.in-Some-next_difference.ensures.old_end)
          (left_is level.new.items c.with_left-level-in-Some.result.new.items
          (take (length c.deref-in-Some.result.now - level.new_at) (drop level.new_at c.deref-in-Some.result.now))
          pair.new_rest.now
          level.new_at c.with_left-level-in-Some.result.new_at (length pair.new_rest.now) c.with_left-level-in-Some.ensures.new
          (slice_is c.deref-in-Some.result.now level.new.items level.new_at c.deref-in-Some.ensures.value)
          c.with_left-level-in-Some.ensures.new_at refl
          c.in-Some-next_difference.ensures.new_end)
          (g.S.TreeSource.says c.read_level.new.source) first.kept c.read_level.new.trees c.in-Ok.below
          c.extend_from_slice-in-Some.new.self.items c.push-in-Some-2.new.self.items c.len-prefix.result c.if-not-pair.false path
          n
          (levels ∙ ap (λ t. t ++ c.in-Ok.below ∷ []) pushed) read fewer;
    }

pub returns-in-Err-clause-refused : goal.returns-in-Err-clause-refused
returns-in-Err-clause-refused g c = λ old new budget found h world w.
    let pair = c.in-Some-next_difference.pair in
    let first = c.read_level.ensures in
    let less = first.kept world w in
    let has = g.S.TreeSource.has_refused c.read_level.new.source in
    let a = item_id (option_map item_of (option_map entry_of pair.old)) in
    let b = item_id (option_map item_of (option_map entry_of pair.new)) in
    let refused : IsReadRefusal has a b c.loop-level.self.trees c.in-Err.refusal =
    subst (λ t. IsReadRefusal has a t c.loop-level.self.trees c.in-Err.refusal) c.id_in-new.ensures
    (subst (λ t. IsReadRefusal has t (option_map (λ i. i.now) c.id_in-new.result) c.loop-level.self.trees c.in-Err.refusal)
    c.id_in-old.ensures c.in-Err.ensures.refused) in
    not_read (g.S.TreeSource.kind_is c.args.source.now) c.kind-kind.result c.kind-kind.ensures
    (g.S.TreeSource.says c.loop-level.source) old new budget found c.loop-level.self.path.items c.loop-level.self.levels.items
    c.pop.new.self.items c.in-Some.level c.loop-level.self.trees (c.loop-level.invariant.found old new budget found h)
    c.in-Some.ensures.items
    (take (length c.deref.result.now - c.in-Some.level.old_at) (drop c.in-Some.level.old_at c.deref.result.now))
    (take (length c.deref-in-Some.result.now - c.in-Some.level.new_at) (drop c.in-Some.level.new_at c.deref-in-Some.result.now))
    (slice_is c.deref.result.now c.in-Some.level.old.items c.in-Some.level.old_at c.deref.ensures.value)
    (slice_is c.deref-in-Some.result.now c.in-Some.level.new.items c.in-Some.level.new_at c.deref-in-Some.ensures.value)
    (option_map entry_of pair.old) (option_map entry_of pair.new) pair.old_rest.now pair.new_rest.now pair.name.now pair.directory
    c.in-Some-next_difference.ensures.pair (g.S.TreeSource.has_refused c.read_level.new.source) c.args.self.now.names
    c.in-Err.refusal c.if-not-pair.false refused world less

pub returns-clause-found : goal.returns-clause-found
returns-clause-found g c = λ old new budget found h.
    let items : c.loop-level.self.levels.items ≡ c.pop.new.self.items = search rules in
    let none : c.pop.new.self.items ≡ [] = search rules in
    let gone = c.loop-level.invariant.found old new budget found h in
    record {
      found_then = gone.found_then;
      so_far =
          subst (λ t. IsFoundSoFar (g.S.TreeSource.kind_is c.args.source.now) (g.S.TreeSource.says c.loop-level.source) old new
          budget
          gone.found_then c.loop-level.self.path.items t c.loop-level.self.trees) items gone.so_far;
      texts_more = λ f. absurd (let g = f in cc);
      texts_all = λ f. (gone.texts, none);
    }
