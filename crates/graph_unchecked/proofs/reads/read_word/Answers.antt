-- The word is that of the list, and was tested.
use Rattle.std.proofs.Common.{◌≡◌, IsTrue, rules, sym, ◌∙◌}
use Rattle.graph_parts.specs.PartFiles.{commits_in_all}
use Rattle.graph_parts.specs.Shown.{files_of}
use Rattle.graph_unchecked.specs.PartSource.{word_total}
use Rattle.graph_unchecked.proofs.SourceLemmas.{as_many, reads_on, word-as, word-read}
use Rattle.graph_unchecked.proofs.reads.read_word.Goals as goal

pub returns-in_err-word-clause-reads : goal.returns-in_err-word-clause-reads
returns-in_err-word-clause-reads g c =
    reads_on (g.T.Folder.tree c.args.folder.now) c.args.parts.now c.edge_at.new.self c.edge_at.ensures.parts
    c.edge_at.ensures.sees

pub returns-in_default-clause-reads : goal.returns-in_default-clause-reads
returns-in_default-clause-reads g c =
    reads_on (g.T.Folder.tree c.args.folder.now) c.args.parts.now c.edge_at.new.self c.edge_at.ensures.parts
    c.edge_at.ensures.sees

pub returns-then-not-is_word_there-clause-reads : goal.returns-then-not-is_word_there-clause-reads
returns-then-not-is_word_there-clause-reads g c =
    reads_on (g.T.Folder.tree c.args.folder.now) c.args.parts.now c.edge_at.new.self c.edge_at.ensures.parts
    c.edge_at.ensures.sees

pub returns-clause-reads : goal.returns-clause-reads
returns-clause-reads g c =
    reads_on (g.T.Folder.tree c.args.folder.now) c.args.parts.now c.edge_at.new.self c.edge_at.ensures.parts
    c.edge_at.ensures.sees

pub returns-clause-word : goal.returns-clause-word
returns-clause-word g c =
    let files = files_of c.args.parts.now in
    let l = c.args.layer in
    let word = c.in-Some.word in
    let count : c.commits-count.result ≡ commits_in_all files =
    c.commits-count.ensures.count ∙ sym (as_many c.args.parts.now) in
    let yes : IsTrue c.is_word_there.result = search rules in
    word-read (g.T.Folder.tree c.args.folder.now) c.edge_at.new.self files c.edge_at.ensures.sees.same c.edge_at.ensures.parts
    c.args.pos.0 l c.args.index word c.requires.lies c.requires.index
    (rw c.in-Some.is at c.in_ok-word.ensures.says)
    (word-as c.commits-count.result c.words_in-words.result (commits_in_all files) (word_total files l) c.args.index word count
    c.words_in-words.ensures (c.is_word_there.ensures yes))
