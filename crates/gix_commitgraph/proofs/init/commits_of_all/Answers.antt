use Rattle.std.proofs.Common.{◌≡◌, Some, length, slice_get, refl, sym, subst, ◌∙◌, arith}
use Rattle.std.proofs.lemmas.List.{take_all}
use Rattle.std.proofs.lemmas.List.Elements.{All-more}
use Rattle.std.proofs.lemmas.Option.{slice_get_read}
use Rattle.graph_format.specs.Layer.{IsOpened}
use Rattle.gix_commitgraph.proofs.layers.LayerListLemmas.{start-none, start-more, start-all}
use Rattle.gix_commitgraph.proofs.init.commits_of_all.Goals as goal

pub loop-file-init : goal.loop-file-init
loop-file-init c = record {
  sum = sym (start-none _);
  small = omega arith;
  opened = λ k d h. absurd (omega arith);
}

pub loop-file-preserved : goal.loop-file-preserved
loop-file-preserved c =
    let files = c.args.files.now in
    let at = c.loop-file.file-index in
    let file = c.file-item.result in
    let here : slice_get files at ≡ Some file = slice_get_read files (length files) at file refl (omega arith) c.file-item.is in
    record {
      sum = omega (arith, c.loop-file.invariant.sum, c.num_commits.ensures.ids, start-more files at file here);
      small = omega arith;
      opened = All-more IsOpened files at file (omega arith) c.loop-file.invariant.opened
          (subst IsOpened c.file-item.is c.num_commits.ensures.layer);
    }

pub returns-clause-sum : goal.returns-clause-sum
returns-clause-sum c = c.loop-file.invariant.sum ∙ start-all _ _ c.loop-file-test.false

pub returns-clause-opened : goal.returns-clause-opened
returns-clause-opened c = rw (← take_all _ _ c.loop-file-test.false) c.loop-file.invariant.opened
