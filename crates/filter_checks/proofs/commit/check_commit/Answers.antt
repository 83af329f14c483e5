use Rattle.std.proofs.Common.{option_map, sym, subst}
use Rattle.std.proofs.lemmas.Result.{on_ok_weaker}
use Rattle.gix_hash_core.specs.Oid.{oid_bytes}
use Rattle.filter_checks.specs.RightFilters.{HasAllTouched, root_tree_at}
use Rattle.filter_checks.proofs.commit.check_commit.Goals as goal

pub returns-clause-right : goal.returns-clause-right
returns-clause-right g c =
    let all = c.args.filters.now in
    let p = c.args.pos.0 in
    on_ok_weaker c.check_touched.result
    (λ right world w computed.
    subst (λ old. HasAllTouched world old (root_tree_at c.args.graph.now p) all p) (sym c.parent_tree-old.ensures)
    (subst (λ new. HasAllTouched world (option_map oid_bytes c.parent_tree-old.result) new all p)
    (sym c.root_tree-new.ensures) (right world w)))
    c.check_touched.ensures.right
