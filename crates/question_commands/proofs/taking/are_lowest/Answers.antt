use Rattle.std.proofs.Common.{◌≡◌, ◌+◌, ◌∷◌, ◌++◌, [], IsTrue, Ok, ap, refl, rules, sym, take, ◌∙◌}
use Rattle.std.proofs.lemmas.List.{take_more}
use Rattle.gix_commitgraph.specs.Opening.{layer_of_line}
use Rattle.gix_commitgraph.proofs.opening.ChainOpeningLemmas.{layers_with-next}
use Rattle.gix_commitgraph.proofs.opening.OpenedPathLemmas.{given-pushed, paths_with-next}
use Rattle.question_commands.proofs.taking.are_lowest.Goals as goal

pub loop-file-preserved : goal.loop-file-preserved
loop-file-preserved g c = record {
  tree = c.is_file_of.ensures.tree ∙ c.loop-file.invariant.tree;
  failures = search rules;
  layers = λ tree is.
      let at = c.loop-file.file-index in
      let standing = c.args.standing.now in
      let file = c.file-item.result in
      let names : c.loop-file.lines ≡ c.in-Some.line.now ∷ c.next.new.self = search rules in
      let more : take (at + 1) standing ≡ take at standing ++ file ∷ [] =
      take_more standing at file (search rules) ∙ ap (λ one. take at standing ++ one ∷ []) (sym c.file-item.is) in
      let yes : IsTrue c.in_ok-is_file_of.field-0 = search rules in
      let opened : Ok file ≡ layer_of_line tree c.args.path.now at c.in-Some.line.now =
      c.in_ok-is_file_of.ensures.same tree (c.loop-file.invariant.tree ∙ is) yes at in
      c.loop-file.invariant.layers tree is
      ∙ layers_with-next tree c.args.path.now (take at standing) (take (at + 1) standing) at (at + 1) c.in-Some.line.now
      c.next.new.self c.loop-file.lines file names opened more refl;
  named =
      let at = c.loop-file.file-index in
      let standing = c.args.standing.now in
      let file = c.file-item.result in
      let names : c.loop-file.lines ≡ c.in-Some.line.now ∷ c.next.new.self = search rules in
      let more : take (at + 1) standing ≡ take at standing ++ file ∷ [] =
      take_more standing at file (search rules) ∙ ap (λ one. take at standing ++ one ∷ []) (sym c.file-item.is) in
      let yes : IsTrue c.in_ok-is_file_of.field-0 = search rules in
      c.loop-file.invariant.named
      ∙ paths_with-next c.args.path.now (take at standing) (take (at + 1) standing) c.in-Some.line.now c.next.new.self
      c.loop-file.lines file names (c.in_ok-is_file_of.ensures.named yes) more;
  given =
      let at = c.loop-file.file-index in
      let standing = c.args.standing.now in
      let file = c.file-item.result in
      let more : take (at + 1) standing ≡ take at standing ++ file ∷ [] =
      take_more standing at file (search rules) ∙ ap (λ one. take at standing ++ one ∷ []) (sym c.file-item.is) in
      let yes : IsTrue c.in_ok-is_file_of.field-0 = search rules in
      given-pushed g.T.Folder.gives (take at standing) (take (at + 1) standing) file c.loop-file.invariant.given
      (c.in_ok-is_file_of.ensures.given yes) more;
}
