use Rattle.std.proofs.Common.{◌≡◌, ◌+◌, ◌-◌, ◌<◌, [], List, ℕ, Some, ap, arith, drop, length, refl, slice_get, subst, sym, take}
use Rattle.std.proofs.Common.{◌∙◌}
use Rattle.std.specs.Prelude.{IfSome}
use Rattle.std.specs.Io.KnownBytes.{prepend_known}
use Rattle.std.proofs.lemmas.Option.{slice_get-get_or}
use Rattle.object_stream.specs.TypedObject.{typed_id}
use Rattle.object_requests.specs.Asked.{Asked}
use Rattle.object_requests.specs.TakenEntry.{MayRefuseOldest, Takes}
use Rattle.object_requests.specs.declared.error.RequestError.TheVariants.{WriteFailed}
use Rattle.object_requests.proofs.TakenLemmas.{refused_always, refused_next}
use Rattle.object_requests.proofs.requests.Requests.take_next.Goals as goal

pub returns-then-is_err-clause-refused : goal.returns-then-is_err-clause-refused
returns-then-is_err-clause-refused g c =
    refused_always c.args.self.now (prepend_known c.args.self.now.ahead (g.R.Read.remaining c.args.reader.now)) WriteFailed
    c.requires (λ id bytes. tt)

pub returns-in-Err-clause-refused : goal.returns-in-Err-clause-refused
returns-in-Err-clause-refused g c =
    let r = c.self.inside in
    let known = g.R.Read.remaining c.args.reader.now in
    let id = c.index-id.result.now in
    let within : r.taken < length r.asked.items = subst (λ (a : Asked). a.taken < length a.asked) (sym c.self.view_is)
    c.requires in
    let there : slice_get r.asked.items r.taken ≡ Some id =
    slice_get-get_or r.asked.items r.taken id within ∙ ap (λ x. Some x) (sym c.index-id.ensures) in
    let before : Asked = record {
      kind = r.kind;
      type = r.object_type;
      asked = r.asked.items;
      taken = r.taken;
      contents = [];
      ahead = [];
    } in
    subst (λ (a : Asked). IfSome (prepend_known a.ahead known) (λ bytes. MayRefuseOldest a bytes c.in-Err.error)) c.self.view_is
    (subst (λ (view : List ℕ). IfSome (prepend_known view known) (λ bytes. MayRefuseOldest before bytes c.in-Err.error))
    c.consume.ensures
    (refused_next before (prepend_known c.consume.new.self known) id c.in-Err.error there c.in-Err.ensures.refused))

pub returns-in-Ok-clause-taken : goal.returns-in-Ok-clause-taken
returns-in-Ok-clause-taken g c =
    let r = c.self.inside in
    let size = c.in-Ok.size in
    let id = c.index-id.result.now in
    let view : List ℕ = c.next_contents.new.buffer in
    let within : r.taken < length r.asked.items = subst (λ (a : Asked). a.taken < length a.asked) (sym c.self.view_is)
    c.requires in
    let there : slice_get r.asked.items r.taken ≡ Some id =
    slice_get-get_or r.asked.items r.taken id within ∙ ap (λ x. Some x) (sym c.index-id.ensures) in
    let less : size + 1 - 1 ≡ size = omega arith in
    let after : Asked = record {
      kind = r.kind;
      type = r.object_type;
      asked = r.asked.items;
      taken = r.taken + 1;
      contents = take (size + 1 - 1) view;
      ahead = drop (size + 1) view;
    } in
    subst (λ (a : Asked). Takes a after id) c.self.view_is
    (record {
      oldest = there;
      own = c.in-Ok.ensures.own ∙ ap (λ n. typed_id r.kind r.object_type (take n view)) (sym less);
      taken = refl;
      asked = refl;
      kind = refl;
      type = refl;
    })
