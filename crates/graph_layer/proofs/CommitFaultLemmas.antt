-- laws of what is wrong with the ids of a commit
use Rattle.std.proofs.Common.{◌≡◌, ◌==◌, ◌-◌, ◌<◌, ℕ, Bool, true, false, not, List, Option, Some, slice_get, refl, sym, arith}
use Rattle.std.specs.Prelude.{All, nat_lt}
use Rattle.std.specs.List.{list_all}
use Rattle.std.specs.Ordering.{nat_cmp, is_ge}
use Rattle.std.specs.Cmp.Lexicographic.{slice_cmp}
use Rattle.std.specs.declared.cmp.Ordering.TheVariants.{Less, Equal, Greater}
use Rattle.std.specs.Bool.{Decides}
use Rattle.std.proofs.lemmas.Bool.Decides.{nat_tests, same_from_decides, Decides-by_and, Decides-eqb}
use Rattle.gix_chunk_core.specs.FirstFault.{◌when◌, ◌otherwise◌}
use Rattle.graph_format.specs.Layer.{Layer, record_at}
use Rattle.graph_format.specs.declared.fault.CommitFault.{CommitFault}
use Rattle.graph_format.specs.declared.fault.CommitFault.TheVariants.{NullId, Order}
use Rattle.graph_format.specs.Faults.{is_null, id_at, is_out_of_order, id_fault, tree_fault, commit_fault}

-- whether an id is not above the one before it
pub out_of_order-at : (layer : Layer) (pos : ℕ) (before id : List ℕ)
    → 0 < pos → slice_get layer.ids (pos - 1) ≡ Some before → slice_get layer.ids pos ≡ Some id
    → is_ge (slice_cmp nat_cmp before id) ≡ is_out_of_order layer pos
out_of_order-at layer pos before id above at_before at =
    let first : nat_lt 0 pos ≡ true = grind (arith, nat_tests) in
    rw (first, at_before, at)
    (elim (slice_cmp nat_cmp before id) as (λ o. is_ge o
    ≡ not (elim o as (λ x. Bool) [ Less ↦ true | Equal ↦ false | Greater ↦ false ])) [
      | Less ↦ refl
      | Equal ↦ refl
      | Greater ↦ refl
    ])

is_null-decides : (id : List ℕ) → Decides (is_null id) (All (λ byte. byte ≡ 0) id)
is_null-decides =
    Decides-by_and (λ byte. byte == 0) (λ byte. byte ≡ 0) (list_all (λ byte. byte == 0)) (λ byte. Decides-eqb byte 0) refl (λ _ _.
    refl)

-- whether the id at a position is null
pub null_id-at : (layer : Layer) (pos : ℕ) (id : List ℕ) (b : Bool)
    → slice_get layer.ids pos ≡ Some id → Decides b (All (λ byte. byte ≡ 0) id) → is_null (id_at layer pos) ≡ b
null_id-at layer pos id b at h = rw at (sym (same_from_decides b (is_null id) h (is_null-decides id)))

-- whether the id of the root tree there is
pub null_tree-at : (layer : Layer) (pos : ℕ) (tree : List ℕ) (b : Bool)
    → tree ≡ (record_at layer pos).tree → Decides b (All (λ byte. byte ≡ 0) tree) → is_null (record_at layer pos).tree ≡ b
null_tree-at layer pos tree b at h = rw (← at) (sym (same_from_decides b (is_null tree) h (is_null-decides tree)))

-- the first fault of its own id, by what the tests say
pub id_fault-by : (layer : Layer) (pos : ℕ) (null disordered : Bool)
    → is_null (id_at layer pos) ≡ null → is_out_of_order layer pos ≡ disordered
    → (NullId when null otherwise Order when disordered) ≡ id_fault layer pos
id_fault-by layer pos null disordered h k = rw (h, k) refl

-- the first fault, by those of its own id and of the tree's
pub commit_fault-by : (layer : Layer) (pos : ℕ) (id tree : Option CommitFault)
    → id ≡ id_fault layer pos → tree ≡ tree_fault layer pos → (id otherwise tree) ≡ commit_fault layer pos
unfolding commit_fault
commit_fault-by layer pos id tree h k = rw (h, k) refl
