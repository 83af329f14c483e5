use Rattle.std.proofs.Common.{rules, ◌≡◌, ◌+◌, ◌∷◌, [], Some, option_map, refl, sym, ap, subst, arith}
use Rattle.gix_hash_core.specs.Oid.{oid_bytes}
use Rattle.tree_changes.specs.Changes.{one_if_some}
use Rattle.tree_changes.specs.Walk.{IsFoundSoFar}
use Rattle.tree_changes.specs.Reads.{IsReadLevel}
use Rattle.tree_changes.proofs.LevelLemmas.{begun, one_mapped}
use Rattle.tree_changes.proofs.walk.Walk.begin.Goals as goal

pub returns-2-clause-found : goal.returns-2-clause-found
returns-2-clause-found g c =
    let kind = g.S.TreeSource.kind_is c.args.source.now in
    let says = g.S.TreeSource.says c.read_level.new.source in
    let old = option_map oid_bytes c.args.old in
    let new = oid_bytes c.args.new in
    let level = c.in_ok-level.level in
    let items : c.push.new.self.items ≡ level ∷ [] = search rules in
    let nothing : c.new.result.items ≡ [] = c.new.ensures.items in
    let read : IsReadLevel kind says old (Some new) 0 level =
    subst (λ t. IsReadLevel kind says old (Some t) 0 level) c.as_bytes-new.ensures.bytes
    (subst (λ t. IsReadLevel kind says t (Some c.as_bytes-new.result.now) 0 level) c.bytes_of-old.ensures
    c.in_ok-level.ensures.read) in
    let spent : c.read_level.new.trees + one_if_some old + 1 ≡ c.args.limits.trees =
    omega (
      arith,
      c.in_ok-level.ensures.trees,
      one_mapped (λ b. b.now) c.bytes_of-old.result,
      ap one_if_some
          c.bytes_of-old.ensures,
    ) in
    let is : IsFoundSoFar kind says old (Some new) c.args.limits.trees [] [] (level ∷ []) c.read_level.new.trees =
    begun kind says old (Some new) c.args.limits.trees level c.read_level.new.trees read spent in (
      subst (λ t. IsFoundSoFar kind says old (Some new) c.args.limits.trees [] t c.push.new.self.items c.read_level.new.trees)
          (sym nothing)
          (subst (λ t. IsFoundSoFar kind says old (Some new) c.args.limits.trees [] [] t c.read_level.new.trees) (sym items) is),
      refl,
    )
