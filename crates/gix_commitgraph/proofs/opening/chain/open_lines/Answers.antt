use Rattle.std.proofs.Common.{rules, ◌≡◌, ◌+◌, ◌<◌, ◌∷◌, ◌∙◌, arith, sym, length, vec_len}
use Rattle.std.proofs.lemmas.Grind.{common_steps}
use Rattle.std.proofs.lemmas.Result.{err_from_is_err_and}
use Rattle.gix_commitgraph.proofs.opening.ChainOpeningLemmas.{layers_with-next, read-from_line, read-pushed}
use Rattle.gix_commitgraph.proofs.opening.OpenErrorLemmas.{line-within, lines-counted}
use Rattle.gix_commitgraph.proofs.opening.OpenedPathLemmas.{from-pushed, given-pushed, paths_with-next}
use Rattle.gix_commitgraph.proofs.opening.chain.open_lines.Goals as goal

pub loop-line-preserved : goal.loop-line-preserved
loop-line-preserved g c = record {
  can_next = tt;
  is_finite = tt;
  tree = c.open_line.ensures.tree ∙ c.loop-line.invariant.tree;
  failures = search rules;
  from =
      let named = c.in_ok-file.ensures.path in
      from-pushed c.args.path.now _ _ _ c.loop-line.invariant.from (c.in-Some.line.now, named) c.in_ok-push.ensures.items;
  given = given-pushed _ _ _ _ c.loop-line.invariant.given c.in_ok-file.ensures.given c.in_ok-push.ensures.items;
  named =
      let names : c.loop-line.line-iterator ≡ c.in-Some.line.now ∷ c.next.new.self = search rules in
      sym (paths_with-next c.args.path.now _ _ _ _ _ _ names c.in_ok-file.ensures.path c.in_ok-push.ensures.items)
      ∙ c.loop-line.invariant.named;
  counted =
      let names : c.loop-line.line-iterator ≡ c.in-Some.line.now ∷ c.next.new.self = search rules in
      let pushed = c.in_ok-push.ensures.items in
      let more : vec_len c.push.new.self ≡ vec_len c.loop-line.files + 1 = grind (arith, common_steps, pushed) in
      lines-counted (vec_len c.loop-line.files) (vec_len c.push.new.self) _ _ _ _ names c.loop-line.invariant.counted more;
  read = λ tree is.
      let opened = c.in_ok-file.ensures.opens tree (c.loop-line.invariant.tree ∙ is) in
      let read = read-from_line tree c.args.path.now c.in-Some.line.now _ _ opened c.in_ok-file.ensures.path in
      read-pushed tree _ _ _ (c.loop-line.invariant.read tree is) read c.in_ok-push.ensures.items;
  layers = λ tree is.
      let names : c.loop-line.line-iterator ≡ c.in-Some.line.now ∷ c.next.new.self = search rules in
      let pushed = c.in_ok-push.ensures.items in
      let more : vec_len c.push.new.self ≡ vec_len c.loop-line.files + 1 = grind (arith, common_steps, pushed) in
      let at = length c.args.below.now + vec_len c.loop-line.files in
      let count : c.len-in-loop-line.result ≡ vec_len c.loop-line.files = c.len-in-loop-line.ensures in
      let opened = rw count at (c.in_ok-file.ensures.opens tree (c.loop-line.invariant.tree ∙ is)) in
      c.loop-line.invariant.layers tree is
      ∙ layers_with-next tree c.args.path.now c.loop-line.files.items c.push.new.self.items at
      (length c.args.below.now + vec_len c.push.new.self)
      c.in-Some.line.now c.next.new.self c.loop-line.line-iterator c.in_ok-file.file names opened pushed
      (omega (arith, more));
}

-- the line at which an opener stops is one of these
pub returns-in_err-file-clause-from : goal.returns-in_err-file-clause-from
returns-in_err-file-clause-from g c =
    let handed = err_from_is_err_and c.from_residual-in_err-file.result c.from_residual-in_err-file.ensures.1 in
    let names : c.loop-line.line-iterator ≡ c.in-Some.line.now ∷ c.next.new.self = search rules in
    let within : vec_len c.loop-line.files < length c.args.lines =
    line-within (vec_len c.loop-line.files) _ _ _ _ names c.loop-line.invariant.counted in
    rw (handed.1, handed.2) (
      length c.args.below.now + c.len-in-loop-line.result,
      omega arith,
      omega (arith, within, c.len-in-loop-line.ensures),
      c.in_err-file.ensures.errors,
    )

pub returns-in_err-push-clause-from : goal.returns-in_err-push-clause-from
returns-in_err-push-clause-from g c =
    let no_memory = err_from_is_err_and c.from_residual-in_err-push.result c.from_residual-in_err-push.ensures.1 in
    let names : c.loop-line.line-iterator ≡ c.in-Some.line.now ∷ c.next.new.self = search rules in
    let within = line-within (vec_len c.loop-line.files) _ _ _ _ names c.loop-line.invariant.counted in
    rw (no_memory.1, no_memory.2) (length c.args.below.now + vec_len c.loop-line.files, omega arith, omega (arith, within), tt)

pub returns-in_err-insert-clause-from : goal.returns-in_err-insert-clause-from
returns-in_err-insert-clause-from g c =
    let no_memory = err_from_is_err_and c.from_residual.result c.from_residual.ensures.1 in
    let names : c.loop-line.line-iterator ≡ c.in-Some.line.now ∷ c.next.new.self = search rules in
    let within = line-within (vec_len c.loop-line.files) _ _ _ _ names c.loop-line.invariant.counted in
    rw (no_memory.1, no_memory.2) (length c.args.below.now + vec_len c.loop-line.files, omega arith, omega (arith, within), tt)
