-- The word is the offset, or names the number that is.
use Rattle.std.proofs.Common.{ℕ, ◌-◌, Some, sym, ap, ◌∙◌, refl}
use Rattle.graph_parts.specs.Offsets.{numbers_in_file, words_in_file}
use Rattle.graph_parts.proofs.OffsetLemmas.{offset-number, offset-word, offsets-after, offsets-before}
use Rattle.graph_parts.proofs.ZipLemmas.{ok-some}
use Rattle.graph_parts.proofs.offsets.LayerOffsets.offset.Goals as goal

pub returns-then-word-lt-OVERFLOW_BIT-clause-offset : goal.returns-then-word-lt-OVERFLOW_BIT-clause-offset
returns-then-word-lt-OVERFLOW_BIT-clause-offset g c = λ file begins of.
    offset-word (words_in_file file) (numbers_in_file file) c.args.pos c.in-Some.word
    ((rw c.in-Some.is at c.in_ok-word.ensures.word) file begins of) c.if-word-lt-OVERFLOW_BIT.true
    ∙ ap (λ (n : ℕ). Some n) (sym c.from.ensures)

pub returns-clause-reads : goal.returns-clause-reads
returns-clause-reads g c =
    offsets-after (g.T.Folder.tree c.args.folder.now) c.args.path.now c.args.self.now c.word.new.self c.number.new.self
    c.word.ensures.reads (rw c.word.ensures.tree at c.number.ensures.reads)

pub returns-clause-offset : goal.returns-clause-offset
returns-clause-offset g c =
    ok-some c.number.result _ _
    (λ answer said file begins of.
    let before = offsets-before (g.T.Folder.tree c.word.new.folder) c.args.path.now file c.word.new.self c.number.new.self
    c.number.ensures.reads of in
    let at = said file begins of in
    offset-number (words_in_file file) (numbers_in_file file) c.args.pos c.in-Some.word
    ((rw c.in-Some.is at c.in_ok-word.ensures.word) file begins before) (c.in-Some.word - 2147483648) answer
    c.if-word-lt-OVERFLOW_BIT.false refl at.0 at.1)
    c.number.ensures.number
