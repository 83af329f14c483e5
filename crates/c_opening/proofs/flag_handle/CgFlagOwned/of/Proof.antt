-- `of` passes the box to `into_raw_with_allocator`, and what that hands out goes with the two fields.
use mathlib.Core.Path.{◌≡◌, refl, sym, ap, subst, ◌∙◌}
use mathlib.Core.List.{List, [], ◌∷◌, ◌++◌}
use seplogic.Ra.Ura.{Ura}
use base.Fraction.{full_share}
use base.Logic.{SProp, ent, emp, id⊢, never, fst∗}
use base.Fml.{ftrue, fsep, flft}
use mir.Raw.{raw as bare}
use mir.Val.{Val, vstruct, of_list}
use mir.Syntax.{Callee, a_type, dcons, dnil, method, no_args}
use prog.Memory.{Memory}
use prog.Routine.{Routine}
use prog.Wp.{WpFn, Tables}
use types.Logic.{Logic, sem}
use contract.BorrowLft.{◌⊑◌, ⊑_static}
use contract.Monad.{Fun, fact, fact_i}
use contract.Running.{tables, tables_of}
use sound.WpLaws.{WpFn-mono, fm_of}
use types.Kit.{Item, ‵, raw, some, later, ◌⊛◌, ◌$◌, ◌∵◌, !, qed, by, move, drop, rewrite, use0, use1, await, pick, join, split}
use types.Kit.{split3, fsplit, fjoin, fpick, feq_l, suffices, done}
use types.Part.{whole, sub, agg}
use types.Run.{stop, fld, no_more, and_then, of_opd, returns, enter}
use types.ByLocal.{alloc_all, pass_all, free_all, look_at, get, get_in, lands_as, sets}
use types.Tokens.{lft_new}
use denote.Builtin.{RawPtr}
use denote.Exit.{yes}
use denote.Param.{bounded, param}
use denote.Param.Glue as glue
use denote.Param.NoDrop.{glues}
use denote.RawPtr.{Ptr, null_ptr, ptr_val, in_a_block}
use denote.Signature.{plain, type_at}
use denote.Steps.{nothing, heard, only}
use denote.Struct.Tuple.{Tuple}
use denote.Triple.Call.{calls_at}
use denote.Triple.Carry.{spared}
use denote.Triple.Clauses.{Ended, Lasts, lasts}
use denote.Triple.Spec.{triple_of}
use denote.Triple.Statement.{Triple, Contract}
use denote.Triple.Table.{entered, run_framed, widened}
use denote.Triple.Walked.{says, Stays, stay_dropped, walk_of, ends_at, Goes-dropped, walk_Meets}
use Rattle.std.specs.Box.Ownership.{box_owns}
use Rattle.std.proofs.BoxSteps.Form.{D, R, B, τ, word, box_typed}
use Rattle.std.proofs.BoxSteps.Steps.{box_out, box_in}
use Rattle.std.proofs.alloc.Calls.{token, handle_tells}
use Rattle.std.proofs.Common.{Some}
use Rattle.std.proofs.impls.GlobalAllocator.TheImpl.Met as heap
use Rattle.std.specs.contracts.alloc.Global as Heap
use Rattle.std.specs.contracts.boxed.Box as Box
use Rattle.std.specs.contracts.boxed.Box.into_raw_with_allocator as g
use Rattle.std.specs.contracts.impls.GlobalAllocator.TheImpl.{ghosts}
use Rattle.std.proofs.boxed.Box.into_raw_with_allocator.Met as g-thm
use Rattle.std.proofs.boxed.Box.into_raw_with_allocator.Symbol as g-key
use Rattle.c_opening.specs.contracts.flag.KeptFlag as KeptFlag
use Rattle.c_opening.proofs.Destruct++none.drop.Code as Nothing
use Rattle.c_opening.proofs.c_opening++flag++KeptFlag+Destruct.drop.Symbol as Drop
use Rattle.c_opening.specs.contracts.c_opening++flag++KeptFlag+Destruct.drop as drops
use Rattle.c_opening.proofs.AsBox.{flag_box as E, heap_drop, flag_drop}
use Rattle.c_opening.proofs.c_opening++flag++KeptFlag+Destruct.drop.Met as dropped
use Rattle.c_opening.specs.contracts.flag_handle.CgFlagOwned.of as F
use Rattle.c_opening.specs.contracts.flag_handle.CgFlagOwned.of.Key.{name as #self}
use Rattle.c_opening.proofs.flag_handle.CgFlagOwned.of.Statement as stated
use Rattle.c_opening.proofs.flag_handle.CgFlagOwned.of.Code as code

abbrev stayed : Stays (F.ended).signature.params (F.ended).kept
stayed = (stay_dropped (plain (λ _. Box.the_row KeptFlag.the_row Heap.the_row ghosts)) yes, tt)

module _ {M : Type 1} {𝓤 : Ura M} (𝓛 : Logic 𝓤) (at_mem : Memory → SProp 𝓤) (run : Routine → Fun 𝓤) (𝓣 : Tables 𝓤 𝓛.H) where
  open 𝓛 use {H}

  abbrev callee : Ended
  callee = g.ended E.row E.al.row E.al.g E.al.d heap_drop flag_drop

  abbrev Parts : Contract 𝓤
  Parts = triple_of 𝓛 (g.signature E.row E.al.row E.al.g E.al.d heap_drop flag_drop)
      (g.spec E.row E.al.row E.al.g E.al.d heap_drop flag_drop 𝓛 at_mem run)

  abbrev key : Callee
  key = g-key.name (bounded (a_type ∷ a_type ∷ []) (E.row, (E.al.row, tt)) (dcons E.al.d (dcons heap_drop
      (dcons flag_drop dnil))))

  walk : Triple 𝓤 (𝓣.C key) Parts → (z : (walk_of 𝓛 F.ended stayed (F.clauses 𝓛 at_mem run)).Ghost)
      → ent 𝓤 ((walk_of 𝓛 F.ended stayed (F.clauses 𝓛 at_mem run)).pre z) (WpFn 𝓤 H 𝓣.C 𝓣.Λ code.function (z.0.4.0 ++ [])
      ((walk_of 𝓛 F.ended stayed (F.clauses 𝓛 at_mem run)).post z))
  walk kn z =
      let Post = (walk_of 𝓛 F.ended stayed (F.clauses 𝓛 at_mem run)).post z in
      let d : D E = record { ptr = z.0.3.0.ptr; alloc = z.0.3.0.alloc; value = z.0.3.0.value } in let a = d.alloc in
      let To = type_at (F.signature).result tt in
      qed 𝓛 ((‵ ftrue ⊛ ‵ (fsep ((B E).own_val d z.0.4.0) ftrue)) ∷ raw (emp 𝓤) ∷ []) ∵ split ! $ drop ! $ fsplit ! $
      box_out E ! d z.0.4.0 (λ b o hv e ws fa. box_in E ! d b o d.value e refl $ move ! (1 ∷ 2 ∷ []) $ drop ! $ drop ! $
      let w = word E hv b o in
      let Γ : List (Item 𝓤) = ‵ ((B E).own_val d (w ∷ [])) ∷ [] in
      by ! (subst (λ (us : List Val). ent 𝓤 (types.Kit.⋆ 𝓛 Γ) (WpFn 𝓤 H 𝓣.C 𝓣.Λ code.function (us ++ []) Post)) (sym ws)
      (qed 𝓛 Γ ∵ enter ! 𝓣.C 𝓣.Λ code.function (w ∷ []) _ $ alloc_all ! (λ ls. pass_all ! refl (box_typed E hv b o fa, tt) $
      sets ! (of_opd ! (get ! refl)) refl (box_typed E hv b o fa) $
      lft_new ! tt (λ α. move ! (1 ∷ 0 ∷ []) $ lft_new ! tt (λ β.
      let inX = (α ∷ []) ⊑ E.row.lives in let in_a = (β ∷ []) ⊑ E.al.row.lives in
      let t₁ = ‵ (flft (α ∷ []) full_share) in let t₂ = ‵ (flft (β ∷ []) full_share) in
      let y : Parts.Ghost = (((α ∷ [], (β ∷ [], tt)), (full_share, (full_share, tt)), tt, (d, tt), (w ∷ [], tt)), tt) in
      -- [the token of β; the box; the token of α]
      move ! (0 ∷ 2 ∷ 1 ∷ []) $ nothing ! $ move ! (1 ∷ 0 ∷ []) $ join ! $ move ! (1 ∷ 0 ∷ []) $ join ! $
      move ! (1 ∷ []) $ nothing ! $ move ! (1 ∷ 0 ∷ []) $ fjoin ! $ move ! (1 ∷ 0 ∷ []) $ join ! $
      nothing ! $ use0 𝓛 (raw (fact 𝓤 in_a)) (fact_i 𝓤 in_a (emp 𝓤) (⊑_static (β ∷ []))) $ join ! $
      use0 𝓛 (raw (fact 𝓤 inX)) (fact_i 𝓤 inX (emp 𝓤) (⊑_static (α ∷ []))) $ join ! $ move ! (1 ∷ 0 ∷ []) $ join ! $
      use1 𝓛 (raw (Parts.pre y)) (id⊢ 𝓤 _) $
      calls_at ! (fm_of 𝓤 H 𝓛.laws 𝓣) Parts kn y (and_then ! (get ! refl) (no_more !)) (λ u.
      use1 𝓛 (later (some (λ (r : Ptr × E.al.row.Denot). ((t₁ ⊛ t₂ ⊛ ‵ ftrue) ⊛ ‵ ((Tuple
      (RawPtr ∷ param 1 E.al.row ∷ [])).own_val r (u ∷ [])))
      ⊛ some (λ (ends : Lasts callee (α ∷ [], (β ∷ [], tt)) (d, tt)). ‵ (lasts callee (α ∷ [], (β ∷ [], tt)) (d, tt) ends)
      ⊛ (raw (fact 𝓤 (r.1 ≡ a)) ⊛ ‵ (box_owns (token E.al a) (R E) r.0 d.value)))))) (id⊢ 𝓤 _) $
      await ! tt $ pick ! (λ r. split ! $ move ! (1 ∷ []) $ pick ! (λ ends. split3 ! $ drop ! $ heard ! (r.1 ≡ a) (λ same.
      in_a_block ! r.0 (λ p. box_owns (token E.al a) (R E) p d.value) (fst∗ 𝓤 (never 𝓤) (sem 𝓛 (token E.al a (bare
      (τ E)) null_ptr))) (λ b' o' e'.
      move ! (1 ∷ []) $ split ! $ move ! (1 ∷ []) $ fpick ! (λ vss. fsplit ! $ feq_l ! (λ eu. fsplit ! $ feq_l ! (λ ep. fsplit ! $
      rewrite ! 0 (λ (s : E.al.row.Denot). ‵ (E.al.row.own_val s vss.1.0)) same refl $ handle_tells E.al ! a vss.1.0 (λ hw eh fw.
      let made : To.Denot = record { at = r.0; alloc = a; held = Some d.value } in
      let d' : D E = record { ptr = r.0; alloc = a; value = d.value } in
      lands_as ! (ap only (eu ∙ (λ j. vstruct (of_list ((ep ∙ ap (λ (p : Ptr). ptr_val p ∷ []) e') j ++
      (eh j ++ []))) ∷ []))) refl (box_typed E hw b' o' fw) $
      sets ! (of_opd ! (get_in ! (fld ! refl (stop !)) (sub ! 0 refl (whole !)))) refl (tt, tt) $
      sets ! (of_opd ! (get_in ! (fld ! refl (stop !)) (sub ! 1 refl (whole !)))) refl fw $
      sets ! (of_opd ! (get ! refl)) refl (tt, tt) $
      sets ! (agg ! (and_then ! (get ! refl) (and_then ! (get ! refl) (no_more !)))) refl (box_typed E hw b' o' fw) $
      returns ! (look_at ! 0 refl) $ free_all ! refl $
      -- [the handle; nothing; the tokens; the block]
      move ! (3 ∷ []) $ fsplit ! $ box_in E ! d' b' o' d.value e' refl $ move ! (1 ∷ 2 ∷ []) $ drop ! $ drop ! $
      use1 𝓛 (‵ (To.own_val made (word E hw b' o' ∷ []))) (id⊢ 𝓤 _) $
      suffices ! _ (ends_at 𝓛 F.ended stayed (F.clauses 𝓛 at_mem run) z (word E hw b' o') made (tt, tt) (tt, tt)) $ says ! refl $
      nothing ! $ nothing ! $ fjoin ! $ join ! $ nothing ! $ join ! $ done !)))))))))))))))

pub of_spec : {M : Type 1} → stated.statement M
unfolding tables_of Nothing.code
of_spec {M} 𝓤 𝓛 𝓜 𝓡 w =
    let k : Callee = method flag_drop 0 no_args in
    let run = 𝓡.run (𝓡.env k) in
    let wd = code.calls-c_opening::c_opening++flag++KeptFlag+Destruct::drop 𝓡.env w in
    let goes : glue.Met 𝓛 𝓜 𝓡 𝓡.env E.row flag_drop =
    λ y. spared 𝓛 drops.signature run (run_framed 𝓤 𝓛.H 𝓜 𝓡 (𝓡.env k)) 1 (E.row.lives, tt) (drops.spec 𝓛 𝓜.mem 𝓡.returns)
    (widened 𝓤 𝓛.H (triple_of 𝓛 drops.signature (drops.spec 𝓛 𝓜.mem 𝓡.returns)) 𝓜 𝓡 𝓡.env (𝓡.env drops.Key.name)
    (𝓡.env k) (Drop.as_method 𝓡.env wd k refl) (dropped.met 𝓤 𝓛 𝓜 𝓡 wd)) ((y.0.0, y.0.1, tt, y.0.3, y.0.4), y.1) in
    let thm = g-thm.met 𝓤 𝓛 𝓜 𝓡
    (code.calls-std::boxed::Box::into_raw_with_allocator 𝓡.env w) E.row E.al.row E.laws E.al.laws E.al.g E.al.d heap_drop
    flag_drop
    (heap.passed 𝓡.env (code.calls-std_heap::GlobalAllocator::allocate 𝓡.env w)
    (code.calls-std_heap::GlobalAllocator::deallocate 𝓡.env w) (code.calls-std_heap::GlobalAllocator::grow 𝓡.env w)
    (code.calls-std_heap::GlobalAllocator::shrink 𝓡.env w) M 𝓤 𝓛 𝓜 𝓡)
    (glues "c_opening::Destruct++none::drop" 𝓡.env
    (code.calls-c_opening::Destruct++none::drop 𝓡.env w) E.al.row E.al.laws M 𝓤 𝓛 𝓜 𝓡) goes in
    let 𝓣 : Tables 𝓤 𝓛.H = tables_of 𝓤 𝓛.H 𝓜 (tables 𝓤 𝓛.H 𝓜 𝓡 𝓡.env) in
    entered 𝓤 𝓛.H (triple_of 𝓛 F.signature (F.spec 𝓛 𝓜.mem 𝓡.returns)) 𝓣.C 𝓣.Λ #self code.function (code.unfolded 𝓤 𝓛.H 𝓜 𝓡 w)
    (walk_Meets 𝓛 F.ended stayed (
      Goes-dropped 𝓛 0 (plain (λ _. Box.the_row KeptFlag.the_row Heap.the_row ghosts)) yes
          (λ κs x f. refl),
      tt,
    ) (F.clauses 𝓛 𝓜.mem 𝓡.returns) (WpFn 𝓤 𝓛.H 𝓣.C 𝓣.Λ code.function)
    (WpFn-mono 𝓤 𝓛.H 𝓛.laws 𝓣 code.function)
    (walk 𝓛 𝓜.mem 𝓡.returns 𝓣 thm))
