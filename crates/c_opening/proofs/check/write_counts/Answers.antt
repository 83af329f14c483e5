use Rattle.std.proofs.Common.{Bor, ℕ, ◌≡◌, ◌∙◌, ◌<◌, ◌++◌, ◌∷◌, [], ap, arith, length, length-append, map, set, sym}
use Rattle.std.proofs.lemmas.List.{length-map, map-append}
use Rattle.std.specs.Map.Iter.{deref_pair}
use Rattle.c_opening.specs.Answers.{written}
use Rattle.c_opening.specs.Verdict.{told_count}
use Rattle.c_opening.proofs.Written.{one_more}
use Rattle.c_opening.proofs.check.write_counts.Goals as goal

pub loop-parents-preserved-then-place-out : goal.loop-parents-preserved-then-place-out
loop-parents-preserved-then-place-out c =
    let seen = c.loop-parents.yielded in
    let item : Bor ℕ × Bor ℕ = (c.in-Some.parents, c.in-Some.commits) in
    let told = told_count (deref_pair item) in
    let entries = map deref_pair seen in
    let before = map told_count entries in
    let same : length c.loop-parents.out ≡ length c.args.out.now = c.loop-parents.auto.out in
    let counted : length before ≡ length seen = length-map entries told_count ∙ length-map seen deref_pair in
    let at : c.loop-parents.place ≡ length before =
    omega (arith, c.loop-parents.invariant.place, c.if-place-out.true, same, counted) in
    let fits : length before < length c.args.out.now = omega (arith, c.if-place-out.true, same, at) in
    let one : map told_count (map deref_pair (seen ++ item ∷ [])) ≡ before ++ told ∷ [] =
    ap (map told_count) (map-append deref_pair seen (item ∷ [])) ∙ map-append told_count entries (deref_pair item ∷ []) in
    record {
      room =
          ap (λ o. set o c.loop-parents.place told) c.loop-parents.invariant.room
          ∙ ap (λ k. set (written before c.args.out.now) k told) at
          ∙ one_more before told c.args.out.now fits
          ∙ ap (λ ts. written ts c.args.out.now) (sym one);
      place = omega (arith, at, counted, fits, length-append seen (item ∷ []));
    }
