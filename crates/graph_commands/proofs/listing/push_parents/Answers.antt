use Rattle.std.proofs.Common.{◌≡◌, ◌++◌, true, false, List, [], ◌∷◌, None, Result, refl, ap, sym, subst, ◌∙◌}
use Rattle.std.specs.Prelude.{codes}
use Rattle.std.specs.List.{join_by}
use Rattle.std.specs.Io.KnownBytes.{Appends}
use Rattle.std.proofs.KnownBytes.{Appends-nil, Appends-trans}
use Rattle.std.proofs.lemmas.List.{map-id}
use Rattle.std.proofs.lemmas.Iterator.Consumers.{YieldsList-end}
use Rattle.graph_layer.specs.RemainingParents.{parents_left}
use Rattle.graph_format.specs.declared.Position.{Position}
use Rattle.graph_format.specs.declared.parents.ParentError.{ParentError}
use Rattle.graph_layer.proofs.ParentItemLemmas.{parents-yield}
use Rattle.graph_commands.specs.Listing.{item_text, parents_text}
use Rattle.graph_commands.proofs.BufferLemmas.{has_some, has_some-push, appends_item}
use Rattle.graph_commands.proofs.listing.push_parents.Goals as goal

-- the text of some items is those items joined
text-some : (items : List (Result Position ParentError)) → has_some items ≡ true
    → join_by item_text (codes ",") items ≡ parents_text items
text-some [] some = cc some
text-some (item ∷ items) some = refl

-- the text of no item is a dash
text-none : (items : List (Result Position ParentError)) → has_some items ≡ false
    → join_by item_text (codes ",") items ++ codes "-" ≡ parents_text items
text-none [] none = refl
text-none (item ∷ items) none = cc none

pub loop-item-init : goal.loop-item-init
loop-item-init g c = record { written = Appends-nil _; any = refl }

pub loop-item-preserved : goal.loop-item-preserved
loop-item-preserved g c =
    let l = c.loop-item in
    let item = c.in-Some.item in
    record {
      written =
          appends_item item_text (codes ",") l.yielded item l.any _ _ _ _ l.invariant.any l.invariant.written
          c.in_ok-push_separator.ensures c.in_ok-push_item.ensures;
      any = has_some-push l.yielded item;
    }

pub returns-else-not-any : goal.returns-else-not-any
returns-else-not-any g c =
    let yielded = c.loop-item.yielded in
    let end =
    YieldsList-end (parents-yield c.into_iter-item-iterator.result) yielded c.loop-item.item-iterator c.loop-item.yielded_by
    None _ refl c.in-None.ensures.steps in
    let all : yielded ≡ parents_left c.args.parents = sym (map-id yielded) ∙ end.0
    ∙ ap parents_left c.into_iter-item-iterator.ensures.into_iter_gives in
    let some : has_some yielded ≡ true = sym c.loop-item.invariant.any ∙ c.if-not-any.false in
    subst (Appends _ _) (text-some yielded some ∙ ap parents_text all) c.loop-item.invariant.written

pub returns-in_ok-push_byte : goal.returns-in_ok-push_byte
returns-in_ok-push_byte g c =
    let yielded = c.loop-item.yielded in
    let end =
    YieldsList-end (parents-yield c.into_iter-item-iterator.result) yielded c.loop-item.item-iterator c.loop-item.yielded_by
    None _ refl c.in-None.ensures.steps in
    let all : yielded ≡ parents_left c.args.parents = sym (map-id yielded) ∙ end.0
    ∙ ap parents_left c.into_iter-item-iterator.ensures.into_iter_gives in
    let none : has_some yielded ≡ false = sym c.loop-item.invariant.any ∙ c.if-not-any.true in
    subst (Appends _ _) (text-none yielded none ∙ ap parents_text all)
    (Appends-trans _ _ _ _ _ c.loop-item.invariant.written c.in_ok-push_byte.ensures)
