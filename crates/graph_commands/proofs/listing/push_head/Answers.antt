-- What is added is the parts of the line, one after another.
use Rattle.std.proofs.Common.{List, ℕ, ◌++◌, Result, append_assoc}
use Rattle.std.specs.Prelude.{Option, OnOk, codes, decimal, length}
use Rattle.std.specs.Io.KnownBytes.{Appends}
use Rattle.std.proofs.KnownBytes.{Appends-trans}
use Rattle.graph_commands.specs.Listing.{kind_text}
use Rattle.graph_commands.specs.Text.{newline}
use Rattle.graph_commands.proofs.BufferLemmas.{appends_last}
use Rattle.graph_commands.proofs.listing.push_head.Goals as goal

appends_line : {T E : Type 0} (result : Result T E) (a b c d e f : Option (List ℕ))
    (name kind before bases between commits end : List ℕ)
    → Appends a b name → Appends b c kind → Appends c d (before ++ bases) → Appends d e (between ++ commits)
    → OnOk result (Appends e f end)
    → OnOk result (Appends a f (name ++ (kind ++ (before ++ (bases ++ (between ++ (commits ++ end)))))))
appends_line result a b c d e f name kind before bases between commits end first second third fourth last =
    let front = Appends-trans a d e _ _ (Appends-trans a c d _ _ (Appends-trans a b c _ _ first second) third) fourth in
    appends_last result a e f _ end _ front last (simp append_assoc)

pub returns-clause-line : goal.returns-clause-line
returns-clause-line g c =
    let layer = c.args.layer.now in
    appends_line c.push_byte.result _ _ _ _ _ _ (codes "layer ") (kind_text layer.kind) (codes " bases ")
    (decimal (length layer.bases)) (codes " commits ")
    (decimal (length layer.ids)) newline c.in_ok-push_text.ensures
    (rw (c.kind_name.ensures, c.object_hash.ensures) at c.in_ok-push_text-2.ensures)
    (rw c.base_graph_count.ensures.bases at c.in_ok-push_count.ensures)
    (rw c.num_commits.ensures.ids at c.in_ok-push_count-2.ensures)
    c.push_byte.ensures
