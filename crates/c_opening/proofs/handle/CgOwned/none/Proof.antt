-- `none` puts the null address beside the allocator: nothing goes with it.
use Rattle.std.proofs.Common.{List, [], ◌∷◌, ◌++◌, refl, sym, subst, None, lit<}
use mir.Val.{Val, has_ty, vstruct, vcons, vnil}
use base.Logic.{SProp, ent, emp, id⊢}
use base.Fml.{ftrue, fsep}
use prog.Wp.{WpFn}
use types.Kit.{‵, raw, ◌⊛◌, ◌$◌, ◌∵◌, !, qed, drop, keep, move, use1, split, join, fsplit, fjoin, fpack, feq_i, suffices, done}
use types.Part.{agg}
use types.Run.{lit, no_more, and_then, returns, enter}
use types.ByLocal.{alloc_all, pass_all, free_all, look_at, get, sets}
use contract.Running.{tables}
use denote.Builtin.{RawPtr}
use denote.Exit.{yes}
use denote.RattleType.{Valss}
use denote.RawPtr.{null_ptr, ptr_val}
use denote.Signature.{plain, type_at}
use denote.Steps.{nothing}
use denote.Struct.Struct.{within}
use denote.Struct.Owning.{shape}
use denote.Triple.Walked.{says, Stays, stay_dropped, walk_of, ends_at, Goes-dropped}
use Rattle.std.proofs.BoxSteps.Form.{P, owning}
use Rattle.std.proofs.ResultValues.{and_tt}
use Rattle.std.proofs.alloc.Calls.{α, handle_tells}
use Rattle.std.proofs.raw_atomic.Walks.{proved_at}
use Rattle.std.specs.contracts.alloc.Global as Heap
use Rattle.c_opening.proofs.AsBox.{graph_box as E}
use Rattle.c_opening.specs.contracts.handle.CgOwned.none as F
use Rattle.c_opening.specs.contracts.handle.CgOwned.none.Key.{name as #self}
use Rattle.c_opening.proofs.handle.CgOwned.none.Statement.{statement}
use Rattle.c_opening.proofs.handle.CgOwned.none.Code as code

abbrev stayed : Stays (F.ended).signature.params (F.ended).kept
stayed = (stay_dropped (plain (λ _. Heap.the_row)) yes, tt)

pub none_spec : {M : Type 1} → statement M
none_spec 𝓤 𝓛 𝓜 𝓡 wired =
    let H = 𝓛.H in let 𝓣 = tables 𝓤 H 𝓜 𝓡 𝓡.env in let c = F.clauses 𝓛 𝓜.mem 𝓡.returns in let fn = code.function in
    proved_at 𝓛 F.ended stayed c 𝓜 𝓡 (Goes-dropped 𝓛 0 (plain (λ _. Heap.the_row)) yes (λ κs x w. refl), tt) #self fn
    (code.unfolded 𝓤 H 𝓜 𝓡 wired) (λ z are.
    let a = z.0.3.0 in let To = type_at (F.signature).result tt in
    let Post : Val → SProp 𝓤 = (walk_of 𝓛 F.ended stayed c).post z in
    let Run : List Val → SProp 𝓤 = λ ws. WpFn 𝓤 H 𝓣.C 𝓣.Λ fn ws Post in
    qed 𝓛 ((‵ ftrue ⊛ ‵ (fsep (Heap.the_row.own_val a z.0.4.0) ftrue)) ∷ raw (emp 𝓤) ∷ []) ∵ split ! $ drop ! $ fsplit ! $
    handle_tells E.al ! a z.0.4.0 (λ hv ws fits.
    let w : Val = vstruct (vcons (ptr_val null_ptr) (vcons hv vnil)) in
    suffices ! (Run (hv ∷ [])) (subst (λ (us : List Val). ent 𝓤 (Run (hv ∷ [])) (Run us)) (sym (λ i. ws i ++ [])) (id⊢ 𝓤 (Run
    (hv ∷ [])))) $
    enter ! 𝓣.C 𝓣.Λ fn (hv ∷ []) Post $ alloc_all ! (λ l. pass_all ! refl (fits, tt) $
    sets ! (agg ! (and_then ! (lit ! tt) (and_then ! (get ! refl) (no_more !)))) refl
    (and_tt (has_ty (α E.al) hv) fits.0, (record { fits = lit< tt }, (fits.1, tt))) $
    returns ! (look_at ! 0 refl) $ free_all ! refl $
    -- [the handle; nothing; nothing]
    let made : To.Denot = record { at = null_ptr; alloc = a; held = None } in
    keep ! (0 ∷ []) $ nothing ! $ move ! (1 ∷ 0 ∷ []) $ fjoin ! $
    feq_i ! (List Val) (ptr_val null_ptr ∷ []) (ptr_val null_ptr ∷ []) refl $ fjoin ! $
    feq_i ! (List Val) (w ∷ []) (w ∷ []) refl $ fjoin ! $
    fpack ! (Valss (RawPtr ∷ P E ∷ [])) (within (shape (owning E)) (null_ptr, (a, tt)) (w ∷ []))
    (ptr_val null_ptr ∷ [], (hv ∷ [], tt)) $
    nothing ! $ move ! (1 ∷ 0 ∷ []) $ fjoin ! $
    use1 𝓛 (‵ (To.own_val made (w ∷ []))) (id⊢ 𝓤 _) $
    suffices ! _ (ends_at 𝓛 F.ended stayed c z w made (tt, tt) (tt, tt)) $ says ! refl $
    nothing ! $ nothing ! $ fjoin ! $ join ! $ nothing ! $ join ! $ done !)))
