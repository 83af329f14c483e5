use Rattle.std.proofs.Common.{length, length-append, ◌+◌}
use Rattle.std.proofs.Common.{rules, ◌≡◌, ◌++◌, ◌∷◌, ℕ, List, [], Some, map, option_map, sym, ap, ◌∙◌, subst, arith}
use Rattle.std.proofs.lemmas.List.{length-map, map-append}
use Rattle.gix_hash_core.specs.Oid.{oid_bytes}
use Rattle.tree_changes.specs.Walk.{IsFoundSoFar}
use Rattle.tree_changes.specs.Reads.{IsStopped}
use Rattle.tree_changes.proofs.FinalLemmas.{by_kind, all_found, too_many, stopped}
use Rattle.tree_changes.proofs.changes.changed_paths.Goals as goal

pub returns-in-Ok-false-clause-changed : goal.returns-in-Ok-false-clause-changed
returns-in-Ok-false-clause-changed g c = λ world w.
    let k = g.S.TreeSource.kind_is c.args.source.now in
    let old = option_map oid_bytes c.args.old in
    let new = Some (oid_bytes c.args.new) in
    let then =
    by_kind k (g.S.TreeSource.kind_is c.loop-found.source) (g.S.TreeSource.says c.loop-found.source)
    (g.S.TreeSource.says c.next.new.source) old new c.args.limits.trees c.loop-found.invariant.done c.loop-found.walk.path.items
    c.next.new.self.path.items c.loop-found.walk.levels.items c.next.new.self.levels.items c.loop-found.walk.trees
    c.next.new.self.trees c.in-Ok-false.field-0 c.loop-found.invariant.kind c.loop-found.invariant.so_far
    c.in-Ok-false.ensures.found in
    all_found k (g.S.TreeSource.says c.next.new.source) old new c.args.limits.trees c.loop-found.invariant.done
    c.in-Ok-false.field-0
    c.next.new.self.path.items c.next.new.self.levels.items c.next.new.self.trees (map (λ path. path.items)
    c.loop-found.found.items)
    then c.in-Ok-false.field-0-test c.loop-found.invariant.texts world w

pub returns-in-Err-clause-refused : goal.returns-in-Err-clause-refused
returns-in-Err-clause-refused g c = λ world w.
    let k = g.S.TreeSource.kind_is c.args.source.now in
    let says = g.S.TreeSource.says c.loop-found.source in
    let old = option_map oid_bytes c.args.old in
    let new = Some (oid_bytes c.args.new) in
    let so_far =
    subst (λ t. IsFoundSoFar t says old new c.args.limits.trees c.loop-found.invariant.done c.loop-found.walk.path.items
    c.loop-found.walk.levels.items c.loop-found.walk.trees) (sym c.loop-found.invariant.kind) c.loop-found.invariant.so_far in
    stopped (g.S.TreeSource.has_refused c.next.new.source) c.args.limits.paths c.args.limits.names c.args.limits.trees world old
    new
    c.in-Err.refusal
    (subst (λ n. IsStopped (g.S.TreeSource.has_refused c.next.new.source) n c.args.limits.trees world old new c.in-Err.refusal)
    c.loop-found.invariant.names
    (c.in-Err.ensures.refused old new c.args.limits.trees c.loop-found.invariant.done so_far world w))

pub returns-then-len-limits-clause-refused : goal.returns-then-len-limits-clause-refused
returns-then-len-limits-clause-refused g c = λ world w.
    let k = g.S.TreeSource.kind_is c.args.source.now in
    let old = option_map oid_bytes c.args.old in
    let new = Some (oid_bytes c.args.new) in
    let then =
    by_kind k (g.S.TreeSource.kind_is c.loop-found.source) (g.S.TreeSource.says c.loop-found.source)
    (g.S.TreeSource.says c.next.new.source) old new c.args.limits.trees c.loop-found.invariant.done c.loop-found.walk.path.items
    c.next.new.self.path.items c.loop-found.walk.levels.items c.next.new.self.levels.items c.loop-found.walk.trees
    c.next.new.self.trees c.in-Ok-true.field-0 c.loop-found.invariant.kind c.loop-found.invariant.so_far
    c.in-Ok-true.ensures.found in
    too_many k (g.S.TreeSource.says c.next.new.source) old new c.args.limits.trees c.loop-found.invariant.done
    c.in-Ok-true.field-0
    c.next.new.self.path.items c.next.new.self.levels.items c.next.new.self.trees (map (λ path. path.items)
    c.loop-found.found.items)
    c.args.limits.paths then c.in-Ok-true.field-0-test c.loop-found.invariant.texts
    (omega (arith, c.if-len-limits.true, c.len.ensures, length-map {B = List ℕ} c.loop-found.found.items (λ path. path.items)))
    world w

pub loop-found-preserved : goal.loop-found-preserved
loop-found-preserved g c =
    let k = g.S.TreeSource.kind_is c.args.source.now in
    let old = option_map oid_bytes c.args.old in
    let new = Some (oid_bytes c.args.new) in
    let then =
    by_kind k (g.S.TreeSource.kind_is c.loop-found.source) (g.S.TreeSource.says c.loop-found.source)
    (g.S.TreeSource.says c.next.new.source) old new c.args.limits.trees c.loop-found.invariant.done c.loop-found.walk.path.items
    c.next.new.self.path.items c.loop-found.walk.levels.items c.next.new.self.levels.items c.loop-found.walk.trees
    c.next.new.self.trees c.in-Ok-true.field-0 c.loop-found.invariant.kind c.loop-found.invariant.so_far
    c.in-Ok-true.ensures.found in
    let pushed : c.push.new.self.items ≡ c.loop-found.found.items ++ c.extend_from_slice.new.self ∷ [] = search rules in
    let room = c.if-len-limits.false in
    let path : c.extend_from_slice.new.self.items ≡ c.next.new.self.path.items = search rules in
    let count : length c.push.new.self.items ≡ length c.loop-found.found.items + 1 =
    omega (arith, ap length pushed, length-append c.loop-found.found.items (c.extend_from_slice.new.self ∷ [])) in
    record {
      few = omega (arith, room, count, c.len.ensures);
      kind = c.in-Ok-true.ensures.kind ∙ c.loop-found.invariant.kind;
      kept = λ world w. c.loop-found.invariant.kept world (c.in-Ok-true.ensures.kept world w);
      names = c.in-Ok-true.ensures.names ∙ c.loop-found.invariant.names;
      done = then.found_then;
      so_far = then.so_far;
      texts =
          then.texts_more c.in-Ok-true.field-0-test
          ∙ ap (λ t. t ++ c.next.new.self.path.items ∷ []) c.loop-found.invariant.texts
          ∙ ap (λ t. map (λ path. path.items) c.loop-found.found.items ++ t ∷ []) (sym path)
          ∙ sym (map-append (λ path. path.items) c.loop-found.found.items (c.extend_from_slice.new.self ∷ []))
          ∙ ap (λ t. map (λ path. path.items) t) (sym pushed);
    }
