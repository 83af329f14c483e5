-- `graph` lends what C lends: what the struct owns is what a `&'static` to the graph holds. A walk of its MIR, by hand.
use Rattle.std.proofs.Common.{◌≡◌, List, [], ◌∷◌, ◌++◌, refl, sym, ap, ◌∙◌, subst}
use mir.Val.{Val, vptr, vstruct, vcons, vnil}
use base.Logic.{SProp, ent, id⊢}
use base.Fml.{ftrue, fsep}
use prog.Wp.{WpFn}
use types.Kit.{Item, ‵, raw, rewrite, move, ◌⊛◌, at_ret, ◌$◌, ◌∵◌, !, qed, keep, drop, use1, split, join, fsplit, fjoin, feq_i}
use types.Kit.{suffices, done}
use types.Run.{stop, fld, addr, of_opd, first, blocks, exec, returns, enter}
use types.Part.{sub, whole}
use types.ByLocal.{alloc_all, pass_all, free_all, look_at, get, get_in, through, sets, sets_last, env}
use contract.Monad.{fact}
use contract.Running.{tables}
use denote.Exit.{yes}
use denote.RawPtr.{Ptr, ptr_val, InBlock, block_of, count_of, at_block}
use denote.Struct.Lending.{in_block_says}
use denote.Opens.{hide}
use denote.Signature.{plain}
use denote.Steps.{nothing, heard}
use denote.Triple.Walked.{says, Stays, stay_dropped, walk_of, ends_at, Goes-dropped}
use Rattle.std.proofs.Common.{Some, Option, IsSome, Bool}
use Rattle.graph_format.specs.Layer.{Layer}
use Rattle.std.proofs.raw_atomic.Walks.{proved_at}
use Rattle.c_opening.proofs.AsBox.{there}
use Rattle.c_opening.specs.contracts.handle.CgAddress.{the_row as R}
use Rattle.c_opening.proofs.handle.CgAddress.TheLaws.{lowers}
use Rattle.c_opening.specs.contracts.handle.CgAddress.opened as f
use Rattle.c_opening.specs.contracts.handle.CgAddress.opened.Key.{name as #self}
use Rattle.c_opening.proofs.handle.CgAddress.opened.Statement.{statement}
use Rattle.c_opening.proofs.handle.CgAddress.opened.Code as code

abbrev stayed : Stays f.ended.signature.params f.ended.kept
stayed = (stay_dropped (plain (λ _. R)) yes, tt)

pub opened_spec : {M : Type 1} → statement M
opened_spec 𝓤 𝓛 𝓜 𝓡 wired =
    let H = 𝓛.H in let 𝓣 = tables 𝓤 H 𝓜 𝓡 𝓡.env in let c = f.clauses 𝓛 𝓜.mem 𝓡.returns in let fn = code.function in
    proved_at 𝓛 f.ended stayed c 𝓜 𝓡 (Goes-dropped 𝓛 0 (plain (λ _. R)) yes (λ κs x w. refl), tt) #self fn
    (code.unfolded 𝓤 H 𝓜 𝓡 wired) (λ z are.
    let d = z.0.3.0 in let p : Ptr = d.at in let b = block_of p in let o = count_of p in
    let w : Val = vstruct (vcons (vptr b o) vnil) in
    let Post : Val → SProp 𝓤 = (walk_of 𝓛 f.ended stayed c).post z in
    let Run : List Val → SProp 𝓤 = λ ws. WpFn 𝓤 H 𝓣.C 𝓣.Λ fn ws Post in
    let Held : Option (List Layer × Bool) → Item 𝓤 = λ m. ‵ (fsep (R.own_val (record { at = p; held = m }) z.0.4.0) ftrue) in
    qed 𝓛 ((‵ ftrue ⊛ Held d.held) ∷ raw (fact 𝓤 (IsSome d.held)) ∷ []) ∵ split ! $ drop ! $ move ! (1 ∷ []) $
    heard ! (IsSome d.held) (λ some. let x = (there d.held some).0 in
    rewrite ! 0 Held (there d.held some).1 refl $
    use1 𝓛 (‵ (R.own_val (record { at = p; held = Some x }) z.0.4.0) ⊛ ‵ ftrue) (id⊢ 𝓤 _) $ split ! $ fsplit ! $ drop ! $
    fsplit ! $
    use1 𝓛 (raw (fact 𝓤 (InBlock p))) (in_block_says 𝓛 p) $ heard ! (InBlock p) (λ inb. hide ! $ keep ! (0 ∷ []) $
    let is : z.0.4.0 ≡ w ∷ [] = lowers.val_is d z.0.4.0 are.0 ∙ ap (λ (q : Ptr). vstruct (vcons (ptr_val q) vnil) ∷ [])
    (at_block p inb) in
    suffices ! (Run (w ∷ [])) (subst (λ (us : List Val). ent 𝓤 (Run (w ∷ [])) (Run us)) (sym (λ i. is i ++ [])) (id⊢ 𝓤 (Run
    (w ∷ [])))) $
    enter ! 𝓣.C 𝓣.Λ fn (w ∷ []) Post $ alloc_all ! (λ l. pass_all ! refl ((tt, (tt, tt)), tt) $
    sets ! (of_opd ! (get_in ! (fld ! refl (stop !)) (sub ! 0 refl (whole !)))) refl (tt, tt) $
    first ! $ blocks ! $ sets ! (of_opd ! (get ! refl)) refl (tt, tt) $
    sets_last ! (addr ! (through ! refl (stop !))) refl (tt, tt) $
    exec ! 𝓣.C 𝓣.Λ (env fn.locals l) code.Mir.t-3 (at_ret (env fn.locals l) Post) $
    sets ! (of_opd ! (get ! refl)) refl (tt, tt) $
    returns ! (look_at ! 0 refl) $ free_all ! refl $
    suffices ! _ (ends_at 𝓛 f.ended stayed c z (vptr b o) (record { ref_ptr = (b, o); now = x }) (tt, tt) (tt, tt)) $
    says ! (there d.held some).1 $
    feq_i ! (List Val) (vptr b o ∷ []) (vptr b o ∷ []) refl $ fjoin ! $ nothing ! $ nothing ! $ fjoin ! $ join ! $ nothing ! $
    join ! $ done !))))
