-- What holds of a source that asks for trees, whether it goes on or not.
use Rattle.std.proofs.Common.{◌≡◌, ◌≢◌, ◌++◌, ◌∷◌, [], ℕ, List, Option, Some, None, ap, arith, length, refl, slice_get, Contains}
use Rattle.object_requests.specs.Asked.{Asked}
use Rattle.object_requests.specs.declared.error.RequestError.{RequestError}
use Rattle.object_requests.specs.declared.error.RequestError.TheVariants.{WriteFailed}
use Rattle.tree_requests.specs.Asking.{IsAsking}
use Rattle.tree_requests.specs.TakenTree.{AreRequestLines, IsBehind}
use Rattle.tree_requests.specs.StoredTrees.{AreStored}
use Rattle.tree_requests.specs.TreeRefusal.{IsStreamFault}
use Rattle.tree_requests.specs.declared.store.TreeStore.{TreeStore}

module _ (stream written : Option (List ℕ)) (r : Asked) (store : TreeStore) (remaining contents : Option (List ℕ))
    (stored : AreStored r.kind stream store.bytes.items store.spans) where
  -- it goes on
  pub asking : IsBehind stream r remaining → AreRequestLines written contents
      → IsAsking stream written r store None remaining contents
  asking behind lines = record { behind = λ _. behind; lines = λ _. lines; stored = stored; fault = tt }

  -- it has ended, for this reason
  pub ended : (error : RequestError) → IsStreamFault r.kind stream error
      → (error ≢ WriteFailed → AreRequestLines written contents)
      → IsAsking stream written r store (Some error) remaining contents
  ended error fault lines = record {
    behind = λ (none : Some error ≡ None). absurd (cc);
    lines = λ (other : Some error ≢ Some WriteFailed).
        lines (λ (same : error ≡ WriteFailed). other (ap (λ (e : RequestError). Some e) same));
    stored = stored;
    fault = fault;
  }

-- the last of some ids
pub get_pushed : {X : Type 0} (xs : List X) (x : X) → slice_get (xs ++ x ∷ []) (length xs) ≡ Some x
get_pushed [] x = refl
get_pushed (y ∷ xs) x = get_pushed xs x

-- none is among none
pub none_among : (id : List ℕ) → ¬ Contains [] id
none_among id contains = absurd (omega (arith, contains.1))
