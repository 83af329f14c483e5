-- What was read says what the lookup answers.
use Rattle.std.proofs.Common.{◌+◌, ◌*◌, ◌-◌, refl, sym, ◌∙◌, arith}
use Rattle.graph_find.proofs.AnswerLemmas.{ReadsBucket, missing-kind, missing-bucket, found-commit}
use Rattle.graph_find.proofs.layer.find_in_layer.Given.{Over}
use Rattle.graph_find.proofs.layer.find_in_layer.Goals.{In-Some}
use Rattle.graph_find.proofs.layer.find_in_layer.Goals as goal

pub returns-then-wanted-size-clause-found : goal.returns-then-wanted-size-clause-found
returns-then-wanted-size-clause-found g c =
    rw (← c.as_bytes-wanted.ensures.bytes)
    (missing-kind (g.T.Folder.tree c.args.folder.now) c.args.path.now c.as_bytes-wanted.result.now c.args.head.now
    c.requires.head c.requires.begins
    (λ same. c.if-wanted-size.true (same ∙ sym c.len_in_bytes-size.ensures)))

-- the bytes of the bucket were read
bucket-read : (g : Over) (c : In-Some g)
    → ReadsBucket (g.T.Folder.tree c.args.folder.now) c.args.path.now c.as_bytes-wanted.result.now c.args.head.now
    c.span-span.result c.in-Some.ids.items
bucket-read g c =
    let size = c.len_in_bytes-size.result in
    let span = c.span-span.result in
    record {
      is = c.requires.head;
      begins = c.requires.begins;
      size = size;
      long = c.if-wanted-size.false;
      kind = c.len_in_bytes-size.ensures;
      byte = rw c.as_bytes-wanted.ensures.bytes (omega (arith, c.first_byte.ensures));
      order = omega (arith, c.if-span.false);
      within = omega (arith, c.if-layout-span.false);
      fan = λ file begins.
          rw (c.as_bytes-wanted.ensures.bytes, ← c.first_byte.ensures) (c.span-span.ensures.fan file begins);
      start = c.args.head.now.layout.chunks.ids.start + size * span.start;
      len = size * (span.end - span.start);
      starts = refl;
      lasts = refl;
      sized = rw c.in-Some.is at c.in_ok-ids.ensures.size;
      part_seen = λ tree is. rw c.in-Some.is at (c.in_ok-ids.ensures.part tree is);
    }

pub returns-in_default-found-clause-found : goal.returns-in_default-found-clause-found
returns-in_default-found-clause-found g c =
    rw (← c.as_bytes-wanted.ensures.bytes)
    (missing-bucket (bucket-read g (goal.at.returns-in_default-found-clause-found g c).In-Some)
    (λ layer bucket. rw c.in_default-found.is at (c.find_in_bucket-found.ensures.found layer (rw c.deref.ensures.value bucket))))

pub returns-clause-found : goal.returns-clause-found
returns-clause-found g c =
    let pos = c.in-Some-found.pos in
    let len = c.record_len-len.result in
    rw (← c.as_bytes-wanted.ensures.bytes)
    (found-commit (bucket-read g (goal.at.returns-clause-found g c).In-Some)
    pos (rw c.in-Some-found.is at c.find_in_bucket-found.ensures.within)
    (λ layer bucket. rw c.in-Some-found.is at (c.find_in_bucket-found.ensures.found layer (rw c.deref.ensures.value bucket)))
    (c.args.head.now.layout.chunks.records.start + len * pos) len c.record_len-len.ensures refl
    c.in-Some-2.record.items (rw c.in-Some-2.is at c.in_ok-record.ensures.size)
    (λ tree is. rw c.in-Some-2.is at
    (c.in_ok-record.ensures.part tree (c.in_ok-ids.ensures.tree ∙ is)))
    c.commit_of.result c.commit_of.ensures.pos
    (rw c.deref-2.ensures.value at c.commit_of.ensures.generation)
    (rw c.deref-2.ensures.value at c.commit_of.ensures.time))
