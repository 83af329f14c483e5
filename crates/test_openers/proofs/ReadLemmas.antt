-- What a read of a folder in memory says of its tree.
use Rattle.std.proofs.Common.{◌≡◌, ℕ, Bool, true, false, List, Option, Some, None, Result, Ok, Err, Vec, IfOk, ap}
use Rattle.std.specs.Prelude.{if◌then◌else◌}
use Rattle.std.specs.Option.{ok_or}
use Rattle.graph_folder.specs.Memory.{AnswersRead, Contents, read_of, will_fail}
use Rattle.graph_folder.specs.Tree.{Tree, file_at}
use Rattle.graph_folder.specs.declared.folder.ReadError.{ReadError}
use Rattle.graph_folder.specs.declared.folder.ReadError.TheVariants.{Device, NotOpened}

from_read : (fails : Bool) (file : Option (List ℕ)) (bytes : List ℕ)
    → (if fails then Err Device else ok_or file NotOpened) ≡ Ok bytes → file ≡ Some bytes
from_read true file bytes is = let not : Err Device ≡ Ok bytes = is in cc
from_read false None bytes is = let not : Err NotOpened ≡ Ok bytes = is in cc
from_read false (Some there) bytes is = let same : there ≡ bytes = cc in ap Some same

-- the bytes that it answers are those of a file of that tree
pub held_by_read : {A : Type 0} (contents : Contents) (path : List ℕ) (answer : Result (Vec ℕ A) ReadError)
    → AnswersRead answer (read_of contents path)
    → IfOk answer (λ bytes. (tree : Tree) × (file_at tree path ≡ Some bytes.items))
held_by_read contents path (Ok bytes) is =
    (contents.tree, from_read (will_fail contents) (file_at contents.tree path) bytes.items is)
held_by_read contents path (Err e) is = tt
