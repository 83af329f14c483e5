-- Nobody changes what stands at the path; what is known of how it was read is left out.
use Rattle.std.proofs.Common.{◌∙◌, Option, List, Result, ℕ, subst}
use Rattle.graph_commands.specs.OpenerAnswer.{MayOpen}
use Rattle.graph_folder.specs.Tree.{Tree}
use Rattle.graph_format.specs.Layer.{Layer}
use Rattle.graph_layer.specs.declared.opening.error.OpenError.{OpenError}
use Rattle.question_commands.specs.ChangingTrees.{MayOpenAmong, Openings}
use Rattle.question_commands.proofs.ChangingLemmas.{unchanged}
use Rattle.question_commands.proofs.WiderLemmas.{asks_wider}
use Rattle.historytool.proofs.command.answer_questions.Goals as goal

opens_still : (tree : Option Tree) (gives : List ℕ → List ℕ → Type 0) (path : List ℕ) (time old new : ℕ)
    (answer : Result (List Layer) OpenError) → MayOpenAmong (λ _ t. t) tree gives path time old new answer
    → MayOpen tree path old new answer
opens_still tree gives path time old new answer may =
    subst (λ (t : Option Tree). MayOpen t path old new answer) (unchanged tree time) may.0

pub returns-clause-written : goal.returns-clause-written
returns-clause-written g c =
    let tree = g.T.Folder.tree c.args.folder.now in
    let gives = g.T.Folder.gives in
    let path = c.args.path.now in
    let opens : Openings = MayOpenAmong (λ _ t. t) tree gives path in
    let still : Openings = λ _. MayOpen tree path in
    let before = g.T.Folder.failure_count c.args.folder.now in
    let after = g.T.Folder.failure_count c.run_ask.new.folder in
    let input = g.R.Read.remaining c.args.input.now in
    let unread = g.R.Read.remaining c.run_ask.new.reader in
    let told = c.in_ok-asked.ensures.written in (
      told.0,
      asks_wider opens still (opens_still tree gives path) before after input unread told.0 told.1,
      told.2,
      told.3,
    )

pub returns-clause-tree : goal.returns-clause-tree
returns-clause-tree g c =
    c.run_ask.ensures.tree.1 ∙ unchanged (g.T.Folder.tree c.args.folder.now) c.run_ask.ensures.tree.0

pub returns-in_err-asked-clause-tree : goal.returns-in_err-asked-clause-tree
returns-in_err-asked-clause-tree g c =
    c.run_ask.ensures.tree.1 ∙ unchanged (g.T.Folder.tree c.args.folder.now) c.run_ask.ensures.tree.0
