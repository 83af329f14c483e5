-- What came of the path was read there, and the graph that was lent stands so.
use Rattle.std.proofs.Common.{◌≡◌, Ok, List, Result, ℕ, rules, subst}
use Rattle.std.proofs.lemmas.Result.{err_from_is_err_and}
use Rattle.gix_commitgraph.specs.WasRead.{PathWasRead}
use Rattle.graph_commands.specs.declared.refusal.Refusal.{Refusal}
use Rattle.graph_format.specs.Layer.{Layer}
use Rattle.graph_layer.specs.declared.opening.error.OpenError.{OpenError}
use Rattle.question_commands.specs.ReadOpening.{MayOpenAsRead}
use Rattle.question_commands.specs.TakenAnew.{Takes, TakesBy}
use Rattle.question_commands.specs.declared.taking.Taking.{Taking}
use Rattle.question_commands.proofs.TakingLemmas.{taken_path}
use Rattle.question_commands.proofs.taking.take_anew.Given.{Over}
use Rattle.question_commands.proofs.taking.take_anew.Goals.{In_ok-checked-2}
use Rattle.question_commands.proofs.taking.take_anew.Goals as goal

stays : (WereRead : List Layer → Type 0) (after lent : List Layer) → lent ≡ after → WereRead lent → WereRead after
stays WereRead after lent is read = subst WereRead is read

stands : (P : Result (List Layer) OpenError → Type 0) (before after lent : List Layer) (result : Result ℕ Refusal)
    → lent ≡ after → Takes P before lent result → Takes P before after result
stands P before after lent result is takes = stays (λ layers. Takes P before layers result) after lent is takes

pub returns-in_err-checked-clause-taken : goal.returns-in_err-checked-clause-taken
returns-in_err-checked-clause-taken g c =
    let P = MayOpenAsRead (g.T.Folder.tree c.args.folder.now) g.T.Folder.gives c.args.path.now
    (g.T.Folder.failure_count c.args.folder.now) (g.T.Folder.failure_count c.open_by.new.folder) in
    let of = taken_path Taking (λ (t : Taking). t.graph.now.layers) (g.T.Folder.tree c.args.folder.now) g.T.Folder.gives
    c.args.path.now _ _ _ _ _ c.in_err-checked.ensures.comes in
    let handed = err_from_is_err_and c.from_residual.result c.from_residual.ensures.1 in
    stands P c.args.graph.now.layers _ c.open_by.new.opener.graph.now.layers c.from_residual.result (search rules)
    (rw (handed.1, handed.2) of)

pub returns-in_err-checked-2-clause-taken : goal.returns-in_err-checked-2-clause-taken
returns-in_err-checked-2-clause-taken g c =
    let P = MayOpenAsRead (g.T.Folder.tree c.args.folder.now) g.T.Folder.gives c.args.path.now
    (g.T.Folder.failure_count c.args.folder.now) (g.T.Folder.failure_count c.open_by.new.folder) in
    let of = taken_path Taking (λ (t : Taking). t.graph.now.layers) (g.T.Folder.tree c.args.folder.now) g.T.Folder.gives
    c.args.path.now _ _ _ _ _ c.in_ok-checked.ensures.comes in
    let handed = err_from_is_err_and c.from_residual-in_err-checked-2.result c.from_residual-in_err-checked-2.ensures.1 in
    stands P c.args.graph.now.layers _ c.open_by.new.opener.graph.now.layers c.from_residual-in_err-checked-2.result
    (search rules) (rw (handed.1, handed.2) (rw c.in_err-checked-2.was at of))

-- a right graph was taken
taken : (g : Over) (c : In_ok-checked-2 g)
    → TakesBy (MayOpenAsRead (g.T.Folder.tree c.args.folder.now) g.T.Folder.gives c.args.path.now
    (g.T.Folder.failure_count c.args.folder.now) (g.T.Folder.failure_count c.open_by.new.folder))
    c.args.graph.now.layers c.open_by.new.opener.graph.now.layers (Ok (Ok c.in_ok-checked-2.field-0))
taken g c =
    rw c.in_ok-checked-2.was at
    (taken_path Taking (λ (t : Taking). t.graph.now.layers) (g.T.Folder.tree c.args.folder.now) g.T.Folder.gives
    c.args.path.now _ _ _ _ _ c.in_ok-checked.ensures.comes)

pub returns-clause-taken : goal.returns-clause-taken
returns-clause-taken g c =
    let P = MayOpenAsRead (g.T.Folder.tree c.args.folder.now) g.T.Folder.gives c.args.path.now
    (g.T.Folder.failure_count c.args.folder.now) (g.T.Folder.failure_count c.open_by.new.folder) in
    stands P c.args.graph.now.layers _ c.open_by.new.opener.graph.now.layers (Ok c.in_ok-checked-2.field-0) (search rules)
    (taken g c)

pub returns-clause-given : goal.returns-clause-given
returns-clause-given g c =
    stays (PathWasRead g.T.Folder.gives c.args.path.now) _ c.open_by.new.opener.graph.now.layers (search rules)
    (taken g c).0.0.1
