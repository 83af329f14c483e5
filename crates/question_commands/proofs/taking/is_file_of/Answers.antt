use Rattle.std.proofs.Common.{◌≡◌, IsTrue, List, Some, ap, rules, subst, ◌∙◌, sym, ℕ}
use Rattle.graph_folder.specs.Tree.{file_at}
use Rattle.graph_format.specs.Layer.{bytes_of}
use Rattle.gix_commitgraph.specs.Paths.{layer_path}
use Rattle.graph_layer.specs.LayerOpening.{LayerWasRead}
use Rattle.question_commands.proofs.TakingLemmas.{same_layer}
use Rattle.question_commands.proofs.taking.is_file_of.Goals as goal

pub returns-in-Ok-clause-same : goal.returns-in-Ok-clause-same
returns-in-Ok-clause-same g c = λ tree is same i.
    let file = c.args.file.now in
    let at = layer_path c.args.path.now c.args.line.now in
    let yes : IsTrue c.in_ok-is_name_of.field-0 = search rules in
    let named : file.path ≡ at = c.in_ok-is_name_of.ensures.path yes in
    let there : file_at tree c.path.result.now ≡ Some c.bytes.result.now =
    (c.in-Ok.ensures.same tree is).0 same in
    let stands : file_at tree at ≡ Some (bytes_of file) =
    ap (λ (p : List ℕ). file_at tree p) (sym (c.path.ensures ∙ named)) ∙ there
    ∙ ap (λ (b : List ℕ). Some b) c.bytes.ensures in
    same_layer tree c.args.path.now c.args.line.now i file c.requires (c.in_ok-is_name_of.ensures.text yes) named stands

-- a read gave the bytes of the layer, which they spell
pub returns-in-Ok-clause-given : goal.returns-in-Ok-clause-given
returns-in-Ok-clause-given g c = λ same.
    let file = c.args.file.now in
    let gives = g.T.Folder.gives in
    let there = c.in-Ok.ensures.given same in
    let at : gives file.path c.bytes.result.now = subst (λ (p : List ℕ). gives p c.bytes.result.now) c.path.ensures there in
    let given : gives file.path (bytes_of file) = subst (gives file.path) c.bytes.ensures at in
    let was : LayerWasRead gives file = record { bytes = bytes_of file; given = given; spelled = c.requires } in
    was
