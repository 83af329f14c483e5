-- What holds of a source that asks for trees. For private contracts.
use Rattle.std.specs.Prelude.{◌≡◌, ◌≢◌, ℕ, List, Option, Some, None, IfSome}
use Rattle.object_requests.specs.Asked.{Asked}
use Rattle.object_requests.specs.declared.error.RequestError.{RequestError}
use Rattle.object_requests.specs.declared.error.RequestError.TheVariants.{WriteFailed}
use Rattle.tree_requests.specs.TakenTree.{IsBehind, AreRequestLines}
use Rattle.tree_requests.specs.StoredTrees.{AreStored}
use Rattle.tree_requests.specs.TreeRefusal.{IsStreamFault}
use Rattle.tree_requests.specs.declared.store.TreeStore.{TreeStore}

pub record IsAsking (stream written : Option (List ℕ)) (r : Asked) (store : TreeStore) (broken : Option RequestError)
    (remaining contents : Option (List ℕ)) : Type 0 where
  pub behind : broken ≡ None → IsBehind stream r remaining
  pub lines : broken ≢ Some WriteFailed → AreRequestLines written contents
  pub stored : AreStored r.kind stream store.bytes.items store.spans
  pub fault : IfSome broken (IsStreamFault r.kind stream)
