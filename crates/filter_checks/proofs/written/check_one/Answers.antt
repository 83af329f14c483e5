use Rattle.std.proofs.Common.{Some, option_map, sym, ◌∙◌, subst, arith}
use Rattle.std.proofs.lemmas.List.{get_or_default}
use Rattle.gix_hash_core.specs.Oid.{oid_bytes}
use Rattle.tree_changes.specs.Changes.{IsChangedText}
use Rattle.path_filters.specs.Made.{IsWritten}
use Rattle.filter_checks.specs.RightFilters.{root_tree_at, parent_tree_at}
use Rattle.filter_checks.proofs.WrittenLemmas.{differs}
use Rattle.filter_checks.proofs.written.check_one.Goals as goal

pub are_same-requires-clause-one : goal.are_same-requires-clause-one
are_same-requires-clause-one g c = λ k d i.
    omega (arith, get_or_default c.as_slice-written.result.now k d 0 i, c.type_inv.written k)

pub are_same-requires-clause-other : goal.are_same-requires-clause-other
are_same-requires-clause-other g c = λ k d i.
    omega (arith, get_or_default c.filter_at-filter.result.now k d 0 i, c.type_inv.filter k)

pub returns-clause-refused : goal.returns-clause-refused
returns-clause-refused g c = λ world w.
    let old = option_map oid_bytes c.parent_tree-old.result in
    let new = Some (oid_bytes c.root_tree-new.result) in
    let made =
    subst (IsWritten c.args.settings (IsChangedText world old new)) (sym c.as_slice-written.ensures.value)
    (c.in-Ok.ensures.written world w) in
    differs c.args.settings world old new (parent_tree_at c.args.graph.now c.args.pos.0)
    (root_tree_at c.args.graph.now c.args.pos.0) c.args.filters.now c.args.pos.0 c.filter_at-filter.result.now
    c.as_slice-written.result.now c.filter_at-filter.ensures c.are_same.ensures.other c.are_same.ensures.one
    (λ e. let h = sym (c.are_same.ensures.same.1 e) ∙ c.if-are_same.false in cc) c.parent_tree-old.ensures
    c.root_tree-new.ensures made
