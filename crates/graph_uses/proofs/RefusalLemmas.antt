-- What an error of a question at a path stands for, and where the graph comes from.
use Rattle.std.proofs.Common.{◌≡◌, List, ℕ, Result, Ok, Err, IfErr, IfOk, sym, subst}
use Rattle.gix_hash_core.specs.Hexadecimal.{SpellsNone}
use Rattle.gix_hash_core.specs.declared.object_id.IdError.{IdError}
use Rattle.gix_commitgraph.specs.Layer.{Layer}
use Rattle.gix_commitgraph.specs.OpenAnswer.{result_map_err}
use Rattle.gix_commitgraph.specs.OpenAlways.{IsFromPath}
use Rattle.gix_commitgraph.specs.Sound.{Sound}
use Rattle.graph_ancestors.specs.declared.checking.NoFault.{NoFault}
use Rattle.gix_commitgraph.specs.declared.verify.VerifyError.{VerifyError}
use Rattle.graph_history.specs.RightGraph.{CheckedLayers}
use Rattle.graph_uses.specs.PathRefusals.{MayRefuseParents}
use Rattle.graph_uses.specs.declared.error.QueryError.{QueryError}
use Rattle.graph_uses.specs.declared.error.QueryError.TheVariants.{Check, Id}

pub misspelled : {A : Type 0} (path text : List ℕ) (layers : List Layer) (read : Result A IdError) (told : QueryError)
    → IsFromPath path layers → Sound layers → IfErr read (SpellsNone text)
    → result_map_err (λ (e : IdError). Id e) read ≡ Err told → MayRefuseParents path text told
misspelled path text layers (Ok id) told from sound none is = absurd cc
misspelled path text layers (Err error) told from sound none is =
    let same : Id error ≡ told = cc in subst (MayRefuseParents path text) same (layers, from, sound, none)

pub from_checked : (path : List ℕ) (layers : List Layer) (checked : Result CheckedLayers (VerifyError NoFault))
    → IsFromPath path layers → IfOk checked (λ graph. graph.layers ≡ layers)
    → IfOk (result_map_err (λ (e : VerifyError NoFault). Check e) checked) (λ graph. IsFromPath path graph.layers)
from_checked path layers (Ok graph) from same = subst (IsFromPath path) (sym same) from
from_checked path layers (Err error) from same = tt
