use Rattle.std.proofs.Common.{◌++◌, ◌∷◌, sym, ap, ◌∙◌, append_assoc}
use Rattle.commit_objects.proofs.TimeLemmas.{behind_byte-some, behind_last_byte-some}
use Rattle.commit_objects.proofs.time.behind_last_byte.Goals as goal

pub loop-next-init : goal.loop-next-init
loop-next-init c = behind_byte-some c.args.value c.args.bytes.now c.in_ok-rest.rest.now c.in_ok-rest.ensures

pub loop-next-preserved : goal.loop-next-preserved
loop-next-preserved c =
    let so_far = c.loop-next.invariant in
    let here = behind_byte-some c.args.value c.loop-next.rest.now c.in-Some.next.now c.in-Some.ensures in (
      so_far.0 ++ c.args.value ∷ here.0,
      so_far.1 ∙ ap (λ l. so_far.0 ++ c.args.value ∷ l) here.1
          ∙ sym (append_assoc so_far.0 (c.args.value ∷ here.0) (c.args.value ∷ c.in-Some.next.now)),
    )

pub returns : goal.returns
returns c =
    behind_last_byte-some c.args.value c.args.bytes.now c.loop-next.invariant.0 c.loop-next.rest.now c.loop-next.invariant.1
    c.in_default.ensures
