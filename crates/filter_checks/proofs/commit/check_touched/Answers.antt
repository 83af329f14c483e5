use Rattle.std.proofs.Common.{◌++◌, ◌∷◌, [], Some, option_map, take, refl, ◌∙◌, subst, arith, length-append}
use Rattle.std.proofs.lemmas.List.Elements.{All-nil, All-push}
use Rattle.gix_hash_core.specs.Oid.{oid_bytes}
use Rattle.tree_changes.specs.InTurn.{GoesOn, last_told}
use Rattle.tree_changes.proofs.FinalLemmas.{stopped}
use Rattle.filter_checks.specs.Refused.{ArePossibleAlong, IsFirstAbsent}
use Rattle.filter_checks.proofs.TouchedLemmas.{all_touched, first_lack, one_more, lack_is}
use Rattle.filter_checks.proofs.commit.check_touched.Goals as goal

pub loop-changes-init : goal.loop-changes-init
loop-changes-init g c = record {
  kind = c.new.ensures.kind;
  kept = c.new.ensures.kept;
  texts = [];
  told = c.in-Ok.ensures.none;
  counted = refl;
  possible = All-nil (ArePossibleAlong c.args.filters.now c.args.pos.0);
  few = omega arith;
}

pub returns-in-Ok-false-clause-right : goal.returns-in-Ok-false-clause-right
returns-in-Ok-false-clause-right g c = λ world w.
    let old = option_map oid_bytes c.args.old in
    let new = Some (oid_bytes c.args.new) in
    let kind = g.S.TreeSource.kind_is c.next.new.source in
    let says = g.S.TreeSource.says c.next.new.source in
    let inv = c.loop-changes.invariant in
    let on =
    subst (λ more. GoesOn kind says old new c.args.limits.names c.args.limits.trees inv.texts more c.next.new.self)
    c.in-Ok-false.field-0-test
    (c.in-Ok-false.ensures.next old new c.args.limits.names c.args.limits.trees inv.texts inv.told) in
    all_touched c.args.filters.now c.args.pos.0 world old new inv.texts (on world w) inv.possible

pub returns-in-Err-next-clause-refused : goal.returns-in-Err-next-clause-refused
returns-in-Err-next-clause-refused g c = λ world w.
    let old = option_map oid_bytes c.args.old in
    let new = Some (oid_bytes c.args.new) in
    let inv = c.loop-changes.invariant in
    stopped (g.S.TreeSource.has_refused c.next.new.source) c.args.limits.paths c.args.limits.names c.args.limits.trees world old
    new c.in-Err-next.refusal
    (c.in-Err-next.ensures.refused old new c.args.limits.names c.args.limits.trees inv.texts inv.told world w)

pub returns-then-count-limits-clause-refused : goal.returns-then-count-limits-clause-refused
returns-then-count-limits-clause-refused g c = λ world w.
    let old = option_map oid_bytes c.args.old in
    let new = Some (oid_bytes c.args.new) in
    let kind = g.S.TreeSource.kind_is c.next.new.source in
    let says = g.S.TreeSource.says c.next.new.source in
    let inv = c.loop-changes.invariant in
    let on =
    subst (λ more. GoesOn kind says old new c.args.limits.names c.args.limits.trees inv.texts more c.next.new.self)
    c.in-Ok-true.field-0-test
    (c.in-Ok-true.ensures.next old new c.args.limits.names c.args.limits.trees inv.texts inv.told) in
    one_more c.args.filters.now c.args.pos.0 world old new inv.texts (last_told c.next.new.self) c.args.limits.paths
    (on.1 world w) (omega (arith, c.if-count-limits.true, inv.counted))

pub returns-in-Some-clause-refused : goal.returns-in-Some-clause-refused
returns-in-Some-clause-refused g c = λ world w.
    let old = option_map oid_bytes c.args.old in
    let new = Some (oid_bytes c.args.new) in
    let all = c.args.filters.now in
    let p = c.args.pos.0 in
    let kind = g.S.TreeSource.kind_is c.next.new.source in
    let says = g.S.TreeSource.says c.next.new.source in
    let inv = c.loop-changes.invariant in
    let on =
    subst (λ more. GoesOn kind says old new c.args.limits.names c.args.limits.trees inv.texts more c.next.new.self)
    c.in-Ok-true.field-0-test
    (c.in-Ok-true.ensures.next old new c.args.limits.names c.args.limits.trees inv.texts inv.told) in
    let text = take c.in-Some.len c.path-path.result.now in
    let absent : IsFirstAbsent all p (last_told c.next.new.self) text =
    subst (λ t. IsFirstAbsent all p t text) c.path-path.ensures c.in-Some.ensures.1 in
    lack_is (g.S.TreeSource.has_refused c.next.new.source) c.args.limits world old new all p text c.lack.result c.lack.ensures
    (first_lack all p world old new inv.texts (last_told c.next.new.self) text (on.1 world w) inv.possible absent)

pub loop-changes-preserved : goal.loop-changes-preserved
loop-changes-preserved g c =
    let old = option_map oid_bytes c.args.old in
    let new = Some (oid_bytes c.args.new) in
    let all = c.args.filters.now in
    let p = c.args.pos.0 in
    let kind = g.S.TreeSource.kind_is c.next.new.source in
    let says = g.S.TreeSource.says c.next.new.source in
    let inv = c.loop-changes.invariant in
    let on =
    subst (λ more. GoesOn kind says old new c.args.limits.names c.args.limits.trees inv.texts more c.next.new.self)
    c.in-Ok-true.field-0-test
    (c.in-Ok-true.ensures.next old new c.args.limits.names c.args.limits.trees inv.texts inv.told) in
    let last = last_told c.next.new.self in
    let here : ArePossibleAlong all p last = subst (ArePossibleAlong all p) c.path-path.ensures c.in_default.ensures in
    record {
      kind = c.next.ensures.kind ∙ inv.kind;
      kept = λ world w. inv.kept world (c.next.ensures.kept world w);
      texts = inv.texts ++ last ∷ [];
      told = on.0;
      counted = omega (arith, length-append inv.texts (last ∷ []), inv.counted);
      possible = All-push (ArePossibleAlong all p) inv.texts last inv.possible here;
      few = omega (arith, c.if-count-limits.false);
    }
