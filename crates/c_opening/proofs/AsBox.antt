-- What a value that C owns comes with is what a box of it owns, and what std's calls on boxes are passed for it: of a graph, of
-- bytes that are kept, and of a flag.
use mathlib.Core.List.{[], ◌∷◌}
use mir.Raw.{raw}
use mir.Syntax.{Dict, Ty, impl, tnil, tcons, dnil}
use denote.Exit.{no}
use denote.Param.{arg, layout}
use denote.Param.Laws.{Laws, arg_laws}
use denote.RattleType.{RattleType}
use Rattle.std.proofs.Common.{◌≡◌, refl, Option, Some, None, IsSome, sym, true≢false}
use Rattle.std.proofs.BoxSteps.Form.{Bx}
use Rattle.std.specs.contracts.alloc.Global as Heap
use Rattle.std.specs.contracts.impls.GlobalAllocator.TheImpl.{ghosts, dict}
use Rattle.std.proofs.alloc.Global.TheLaws as heap
use Rattle.c_opening.specs.contracts.opened.Opened as Graph
use Rattle.c_opening.proofs.opened.Opened.TheLaws as graph
use Rattle.c_opening.specs.contracts.kept.Kept as Kept
use Rattle.c_opening.proofs.kept.Kept.TheLaws as kept
use Rattle.c_opening.specs.contracts.flag.KeptFlag as KeptFlag
use Rattle.c_opening.proofs.flag.KeptFlag.TheLaws as flag

-- the layout that a call is passed for the allocator
abbrev pub heap_layout : Ty
heap_layout = raw (layout Heap.the_row)

-- how the allocator is let go: nothing is done
abbrev pub heap_drop : Dict
heap_drop = impl ("c_opening::Destruct++none::drop" ∷ []) (tcons heap_layout tnil) dnil

-- a box of a value of this type
abbrev pub boxed : (R : RattleType) → Laws R → raw (raw (layout R)) ≡ raw (layout R) → Bx
boxed R laws same =
    record {
      row = arg (raw (layout R)) no R;
      laws = arg_laws (raw (layout R)) no R laws same;
      al =
          record {
            row = arg heap_layout no Heap.the_row;
            laws = arg_laws heap_layout no Heap.the_row heap.the_row_laws refl;
            g = ghosts;
            d = dict;
            drops = heap_drop;
          };
    }

-- a box of a graph, and how the graph is let go
abbrev pub graph_box : Bx
graph_box = boxed Graph.the_row graph.the_row_laws refl

abbrev pub graph_drop : Dict
graph_drop = impl ("c_opening::c_opening++opened++Opened+Destruct::drop" ∷ []) tnil dnil

-- a box of bytes, and how they are let go
abbrev pub bytes_box : Bx
bytes_box = boxed Kept.the_row kept.the_row_laws refl

abbrev pub bytes_drop : Dict
bytes_drop = impl ("c_opening::c_opening++kept++Kept+Destruct::drop" ∷ []) tnil dnil

-- a box of a flag, and how it is let go
abbrev pub flag_box : Bx
flag_box = boxed KeptFlag.the_row flag.the_row_laws refl

abbrev pub flag_drop : Dict
flag_drop = impl ("c_opening::c_opening++flag++KeptFlag+Destruct::drop" ∷ []) tnil dnil

-- what is there
pub there : {T : Type 0} (m : Option T) → IsSome m → (x : T) × (m ≡ Some x)
there (Some x) i = (x, refl)
there None i = absurd (true≢false (sym i))
