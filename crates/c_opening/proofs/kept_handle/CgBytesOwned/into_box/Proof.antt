-- `into_box` passes the two fields, with what goes with them, to `from_raw`.
use mathlib.Core.Path.{◌≡◌, refl, sym, ap, subst, ◌∙◌}
use mathlib.Core.List.{List, [], ◌∷◌, ◌++◌}
use seplogic.Ra.Ura.{Ura}
use base.Fraction.{full_share}
use base.Logic.{SProp, ent, emp, id⊢}
use base.Fml.{ftrue, fsep, flft}
use mir.Raw.{raw as bare}
use mir.Val.{Val, vptr}
use mir.Syntax.{Callee, a_type, dcons, dnil}
use prog.Memory.{Memory}
use prog.Routine.{Routine}
use prog.Wp.{WpFn, Tables}
use types.Logic.{Logic}
use contract.BorrowLft.{◌⊑◌, ⊑_static}
use contract.Monad.{Fun, fact, fact_i}
use contract.Running.{tables, tables_of}
use sound.WpLaws.{WpFn-mono, fm_of}
use types.Kit.{Item, ‵, raw, some, later, ◌⊛◌, ◌$◌, ◌∵◌, !, qed, by, move, drop, rewrite, use0, use1, await, pick, join, split}
use types.Kit.{split3, fsplit, fjoin, feq_i, suffices, done}
use types.Part.{whole, sub}
use types.Run.{stop, fld, no_more, and_then, of_opd, returns, enter}
use types.ByLocal.{alloc_all, pass_all, free_all, look_at, get, get_in, lands_as, sets}
use types.Tokens.{lft_new}
use denote.Exit.{yes}
use denote.Param.{bounded}
use denote.Param.NoDrop.{glues}
use denote.RawPtr.{block_ptr}
use denote.Signature.{plain, type_at}
use denote.Memory.{part_at}
use denote.Steps.{nothing, heard, only}
use denote.Triple.Call.{calls_at}
use denote.Triple.Clauses.{Ended, Lasts, lasts}
use denote.Triple.Spec.{triple_of}
use denote.Triple.Statement.{Triple, Contract}
use denote.Triple.Table.{entered}
use denote.Triple.Walked.{says, Stays, stay_dropped, walk_of, ends_at, Goes-dropped, walk_Meets}
use Rattle.std.proofs.BoxSteps.Form.{D, R, B, τ, word, handle, box_typed}
use Rattle.std.proofs.BoxSteps.Steps.{box_out, box_in}
use Rattle.std.proofs.alloc.Calls.{token}
use Rattle.std.proofs.Common.{Option, Some, IsSome, ℕ}
use Rattle.std.proofs.impls.GlobalAllocator.TheImpl.Met as heap
use Rattle.std.specs.contracts.boxed.Box.from_raw as g
use Rattle.std.proofs.boxed.Box.from_raw.Met as g-thm
use Rattle.std.proofs.boxed.Box.from_raw.Symbol as g-key
use Rattle.c_opening.proofs.Destruct++none.drop.Code as Nothing
use Rattle.c_opening.proofs.AsBox.{bytes_box as E, heap_drop, there}
use Rattle.c_opening.specs.contracts.kept_handle.CgBytesOwned.{the_row as Own}
use Rattle.c_opening.specs.contracts.kept_handle.CgBytesOwned.into_box as F
use Rattle.c_opening.specs.contracts.kept_handle.CgBytesOwned.into_box.Key.{name as #self}
use Rattle.c_opening.proofs.kept_handle.CgBytesOwned.into_box.Statement as stated
use Rattle.c_opening.proofs.kept_handle.CgBytesOwned.into_box.Code as code

abbrev stayed : Stays (F.ended).signature.params (F.ended).kept
stayed = (stay_dropped (plain (λ _. Own)) yes, tt)

module _ {M : Type 1} {𝓤 : Ura M} (𝓛 : Logic 𝓤) (at_mem : Memory → SProp 𝓤) (run : Routine → Fun 𝓤) (𝓣 : Tables 𝓤 𝓛.H) where
  open 𝓛 use {H}

  abbrev callee : Ended
  callee = g.ended E.row E.al.row E.al.g E.al.d heap_drop

  abbrev Boxes : Contract 𝓤
  Boxes = triple_of 𝓛 (g.signature E.row E.al.row E.al.g E.al.d heap_drop)
      (g.spec E.row E.al.row E.al.g E.al.d heap_drop 𝓛 at_mem run)

  abbrev key : Callee
  key = g-key.name (bounded (a_type ∷ a_type ∷ []) (E.row, (E.al.row, tt)) (dcons E.al.d (dcons heap_drop dnil)))

  walk : Triple 𝓤 (𝓣.C key) Boxes → (z : (walk_of 𝓛 F.ended stayed (F.clauses 𝓛 at_mem run)).Ghost)
      → ent 𝓤 ((walk_of 𝓛 F.ended stayed (F.clauses 𝓛 at_mem run)).pre z) (WpFn 𝓤 H 𝓣.C 𝓣.Λ code.function (z.0.4.0 ++ [])
      ((walk_of 𝓛 F.ended stayed (F.clauses 𝓛 at_mem run)).post z))
  walk kn z =
      let Post = (walk_of 𝓛 F.ended stayed (F.clauses 𝓛 at_mem run)).post z in let d = z.0.3.0 in let a = d.alloc in
      let To = type_at (F.signature).result tt in
      let Held : Option (List ℕ)
      → Item 𝓤 = λ m. ‵ (fsep (Own.own_val (record { at = d.at; alloc = a; held = m }) z.0.4.0) ftrue) in
      qed 𝓛 ((‵ ftrue ⊛ Held d.held) ∷ raw (fact 𝓤 (IsSome d.held)) ∷ []) ∵ split ! $ drop ! $ move ! (1 ∷ []) $
      heard ! (IsSome d.held) (λ some_is.
      let x = (there d.held some_is).0 in let v : D E = record { ptr = d.at; alloc = a; value = x } in
      rewrite ! 0 Held (there d.held some_is).1 refl $ use1 𝓛 (‵ (fsep ((B E).own_val v z.0.4.0) ftrue)) (id⊢ 𝓤 _) $ fsplit ! $
      box_out E ! v z.0.4.0 (λ b o hv e ws fa. move ! (3 ∷ []) $ drop ! $
      let w = word E hv b o in
      let Γ : List (Item 𝓤) = ‵ (part_at (R E) full_share x b o) ∷ ‵ (token E.al a (bare (τ E)) (block_ptr b o)) ∷ ‵
      (handle E a hv) ∷ [] in
      by ! (subst (λ (us : List Val). ent 𝓤 (types.Kit.⋆ 𝓛 Γ) (WpFn 𝓤 H 𝓣.C 𝓣.Λ code.function (us ++ []) Post)) (sym ws)
      (qed 𝓛 Γ ∵ enter ! 𝓣.C 𝓣.Λ code.function (w ∷ []) _ $ alloc_all ! (λ ls. pass_all ! refl (box_typed E hv b o fa, tt) $
      sets ! (of_opd ! (get_in ! (fld ! refl (stop !)) (sub ! 0 refl (whole !)))) refl (tt, tt) $
      sets ! (of_opd ! (get_in ! (fld ! refl (stop !)) (sub ! 1 refl (whole !)))) refl fa $
      sets ! (of_opd ! (get ! refl)) refl (tt, tt) $
      lft_new ! tt (λ α. lft_new ! tt (λ β.
      let inX = (α ∷ []) ⊑ E.row.lives in let in_a = (β ∷ []) ⊑ E.al.row.lives in
      let t₁ = ‵ (flft (α ∷ []) full_share) in let t₂ = ‵ (flft (β ∷ []) full_share) in
      let y : Boxes.Ghost = (
        (
          (α ∷ [], (β ∷ [], tt)),
          (full_share, (full_share, tt)),
          tt,
          (a, (block_ptr b o, tt)),
          (
            hv ∷ [],
            (vptr b o ∷ [], tt),
          ),
        ),
        x,
      ) in
      -- [the token of β; that of α; the bytes; their block's token; the allocator]
      nothing ! $ move ! (1 ∷ 0 ∷ []) $ join ! $ move ! (1 ∷ 0 ∷ []) $ join ! $
      nothing ! $ feq_i ! (List Val) (vptr b o ∷ []) (vptr b o ∷ []) refl $ fjoin ! $ move ! (4 ∷ 0 ∷ []) $ fjoin ! $
      move ! (1 ∷ 0 ∷ []) $ join ! $
      move ! (1 ∷ 2 ∷ []) $ fjoin ! $ use0 𝓛 (raw (fact 𝓤 in_a)) (fact_i 𝓤 in_a (emp 𝓤) (⊑_static (β ∷ []))) $ join ! $
      use0 𝓛 (raw (fact 𝓤 inX)) (fact_i 𝓤 inX (emp 𝓤) (⊑_static (α ∷ []))) $ join ! $ move ! (1 ∷ 0 ∷ []) $ join ! $
      use1 𝓛 (raw (Boxes.pre y)) (id⊢ 𝓤 _) $
      calls_at ! (fm_of 𝓤 H 𝓛.laws 𝓣) Boxes kn y (and_then ! (get ! refl) (and_then ! (get ! refl) (no_more !))) (λ u.
      use1 𝓛 (later (some (λ (r : D E). ((t₁ ⊛ t₂ ⊛ ‵ ftrue) ⊛ ‵ ((B E).own_val r (u ∷ [])))
      ⊛ some (λ (ends : Lasts callee (α ∷ [], (β ∷ [], tt)) (a, (block_ptr b o, tt))). ‵ (lasts callee (α ∷ [], (β ∷ [], tt)) (
        a,
        (block_ptr b o, tt),
      ) ends)
      ⊛ (raw (fact 𝓤 (r.value ≡ x)) ⊛ raw (fact 𝓤 (r.alloc ≡ a))))))) (id⊢ 𝓤 _) $
      await ! tt $ pick ! (λ r. split ! $ move ! (1 ∷ []) $ pick ! (λ ends. split3 ! $ drop ! $
      heard ! (r.value ≡ x) (λ same. heard ! (r.alloc ≡ a) (λ heap_is.
      split ! $ drop ! $ box_out E ! r (u ∷ []) (λ b' o' hw e' us fw. box_in E ! r b' o' r.value e' refl $
      let made : To.Denot = record { ptr = r.ptr; alloc = r.alloc; value = r.value } in
      lands_as ! (ap only us) refl (box_typed E hw b' o' fw) $
      returns ! (look_at ! 0 refl) $ free_all ! refl $
      use1 𝓛 (‵ (To.own_val made (word E hw b' o' ∷ []))) (id⊢ 𝓤 _) $
      suffices ! _ (ends_at 𝓛 F.ended stayed (F.clauses 𝓛 at_mem run) z (word E hw b' o') made (tt, tt) (tt, tt)) $
      says ! ((there d.held some_is).1 ∙ ap (λ (bytes : List ℕ). Some bytes) (sym same)) $
      nothing ! $ nothing ! $ fjoin ! $ join ! $ nothing ! $ join ! $ done !)))))))))))))

pub into_box_spec : {M : Type 1} → stated.statement M
unfolding tables_of Nothing.code
into_box_spec {M} 𝓤 𝓛 𝓜 𝓡 w =
    let thm = g-thm.met 𝓤 𝓛 𝓜 𝓡
    (code.calls-std::boxed::Box::from_raw 𝓡.env w) E.row E.al.row E.laws E.al.laws E.al.g E.al.d heap_drop
    (heap.passed 𝓡.env (code.calls-std_heap::GlobalAllocator::allocate 𝓡.env w)
    (code.calls-std_heap::GlobalAllocator::deallocate 𝓡.env w) (code.calls-std_heap::GlobalAllocator::grow 𝓡.env w)
    (code.calls-std_heap::GlobalAllocator::shrink 𝓡.env w) M 𝓤 𝓛 𝓜 𝓡)
    (glues "c_opening::Destruct++none::drop" 𝓡.env
    (code.calls-c_opening::Destruct++none::drop 𝓡.env w) E.al.row E.al.laws M 𝓤 𝓛 𝓜 𝓡) in
    let 𝓣 : Tables 𝓤 𝓛.H = tables_of 𝓤 𝓛.H 𝓜 (tables 𝓤 𝓛.H 𝓜 𝓡 𝓡.env) in
    entered 𝓤 𝓛.H (triple_of 𝓛 F.signature (F.spec 𝓛 𝓜.mem 𝓡.returns)) 𝓣.C 𝓣.Λ #self code.function (code.unfolded 𝓤 𝓛.H 𝓜 𝓡 w)
    (walk_Meets 𝓛 F.ended stayed (Goes-dropped 𝓛 0 (plain (λ _. Own)) yes (λ κs x f. refl), tt) (F.clauses 𝓛 𝓜.mem 𝓡.returns)
    (WpFn 𝓤 𝓛.H 𝓣.C 𝓣.Λ code.function) (WpFn-mono 𝓤 𝓛.H 𝓛.laws 𝓣 code.function)
    (walk 𝓛 𝓜.mem 𝓡.returns 𝓣 thm))
