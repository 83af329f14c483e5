use Rattle.std.proofs.Common.{rules, nat_eq, nat_cmp, sym, ap, ◌∙◌, ◌≡◌, ℕ, OnOk, map-id}
use Rattle.std.specs.Map.{lookup, update_all}
use Rattle.std.specs.HashMap as hash
use Rattle.std.specs.BTreeMap as tree
use Rattle.std.specs.Cmp.{unsigned_tied}
use Rattle.std.proofs.lemmas.Cmp.{nat_cmp_total, eq_by_cmp_equiv}
use Rattle.std.proofs.lemmas.Map.Keys.{IsDistinct-from_sorted}
use Rattle.std.proofs.lemmas.Map.Made.{update_all_none}
use Rattle.std.proofs.lemmas.Iterator.Adapters.{fact_from_extend}
use Rattle.std.proofs.lemmas.Iterator.Consumers.{YieldsList-from_rest}
use Rattle.graph_layer.proofs.file.verify.statistics.hashed.Goals as goal

-- the pairs of the one map go into the other, which is empty before
pub returns : goal.returns
returns c =
    let entries = c.args.map.entries in
    let empty = c.in_ok-hashed.hashed in
    let all : OnOk c.extend.result ((k : ℕ) → hash.get nat_eq c.extend.new.self k ≡ tree.get nat_cmp c.args.map k) =
    fact_from_extend (λ p. p) c.extend.result c.extend.ensures.ran (λ it b. YieldsList-from_rest entries (search rules))
    (λ xs e h k. h.0 k ∙ ap (λ pairs. update_all nat_eq (hash.get nat_eq empty) pairs k) (sym (map-id xs) ∙ e)
    ∙ ap (λ pairs. update_all nat_eq (λ other. lookup (nat_eq other) pairs) entries k) c.in_ok-hashed.ensures.empty
    ∙ update_all_none (eq_by_cmp_equiv nat_cmp_total) nat_eq (λ x y. sym (unsigned_tied x y)) entries k
    (IsDistinct-from_sorted nat_cmp (tree.keys c.args.map) c.len.ensures.ordered))
    in search rules
