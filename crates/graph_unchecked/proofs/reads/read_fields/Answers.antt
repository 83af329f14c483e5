-- The fields are those of the record, which were tested.
use Rattle.std.proofs.Common.{◌≡◌, IsTrue, rules, sym, ◌∙◌}
use Rattle.graph_parts.specs.PartFiles.{commits_in_all}
use Rattle.graph_parts.specs.Shown.{files_of}
use Rattle.graph_unchecked.specs.PartSource.{word_total}
use Rattle.graph_unchecked.proofs.SourceLemmas.{as_many, fields-as, fields-read, reads_on}
use Rattle.graph_unchecked.proofs.reads.read_fields.Goals as goal

pub returns-in_err-commit-clause-reads : goal.returns-in_err-commit-clause-reads
returns-in_err-commit-clause-reads g c =
    reads_on (g.T.Folder.tree c.args.folder.now) c.args.parts.now c.commit_at.new.self c.commit_at.ensures.parts
    c.commit_at.ensures.sees

pub returns-in_default-clause-reads : goal.returns-in_default-clause-reads
returns-in_default-clause-reads g c =
    reads_on (g.T.Folder.tree c.args.folder.now) c.args.parts.now c.commit_at.new.self c.commit_at.ensures.parts
    c.commit_at.ensures.sees

pub returns-then-not-are_fields_there-clause-reads : goal.returns-then-not-are_fields_there-clause-reads
returns-then-not-are_fields_there-clause-reads g c =
    reads_on (g.T.Folder.tree c.args.folder.now) c.args.parts.now c.commit_at.new.self c.commit_at.ensures.parts
    c.commit_at.ensures.sees

pub returns-clause-reads : goal.returns-clause-reads
returns-clause-reads g c =
    reads_on (g.T.Folder.tree c.args.folder.now) c.args.parts.now c.commit_at.new.self c.commit_at.ensures.parts
    c.commit_at.ensures.sees

pub returns-clause-fields : goal.returns-clause-fields
returns-clause-fields g c =
    let known = g.T.Folder.tree c.args.folder.now in
    let files = files_of c.args.parts.now in
    let p = c.args.pos.0 in
    let l = c.layer_of-layer.result in
    let commit = c.in-Some.commit in
    let count : c.commits-count.result ≡ commits_in_all files =
    c.commits-count.ensures.count ∙ sym (as_many c.args.parts.now) in
    let yes : IsTrue c.are_fields_there.result = search rules in
    fields-read known c.commit_at.new.self files c.commit_at.ensures.sees.same c.commit_at.ensures.parts p commit l
    c.layer_of-layer.ensures.file
    (rw c.in-Some.is at c.in_ok-commit.ensures.stores)
    (fields-as c.commits-count.result c.words_in-words.result (commits_in_all files) (word_total files l) commit.first
    commit.second count c.words_in-words.ensures (c.are_fields_there.ensures yes))
    c.requires.pos
    (λ layers shows. sym count ∙ c.commits-count.ensures.total known layers (c.commit_at.ensures.sees.kept layers shows))
    (λ layers graph. c.the_history_of_a_graph_is_that_of_its_layers.ensures.counted layers graph.opened)
    (λ layers pos layer stands. c.a_commit_lies_in_its_layer.ensures layers p pos layer stands)
    (λ layers pos layer graph stands.
    c.the_history_of_a_graph_says_what_its_records_say.ensures.parents layers p pos layer graph.opened stands)
    (λ layers a b x y below at there.
    let one = c.a_position_lies_in_one_layer.ensures layers p below in one.only a x at ∙ sym (one.only b y there))
