use Rattle.std.proofs.Common.{Some, map, option_map, subst, Contains}
use Rattle.gix_hash_core.specs.Oid.{oid_bytes}
use Rattle.path_filters.specs.Made.{IsWritten}
use Rattle.path_filters.proofs.MadeLemmas.{written_for_trees}
use Rattle.path_filters.proofs.filter.path_filter.Goals as goal

pub returns-in_ok-filter_of_paths-in-Ok-clause-written : goal.returns-in_ok-filter_of_paths-in-Ok-clause-written
returns-in_ok-filter_of_paths-in-Ok-clause-written g c = λ world w.
    let filter = c.in_ok-filter_of_paths-in-Ok.field-0.items in
    written_for_trees c.args.settings world (option_map oid_bytes c.args.old) (Some (oid_bytes c.args.new))
    (map (λ path. path.items) c.in-Ok.changed.items) filter (c.in-Ok.ensures.changed world w)
    (subst (λ t. IsWritten c.args.settings (Contains (map (λ path. path.items) t)) filter) c.deref.ensures.value
    c.in_ok-filter_of_paths-in-Ok.ensures)
