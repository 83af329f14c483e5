use Rattle.std.proofs.Common.{◌≡◌, ℕ, ◌+◌, ◌*◌, ◌<◌, List, ◌∷◌, ◌++◌, [], length, take, drop, arith, sym, ap, ◌∙◌, subst}
use Rattle.std.proofs.KnownBytes.{Keeps-trans}
use Rattle.std.proofs.lemmas.List.{get_or-drop, length-drop}
use Rattle.std.proofs.lemmas.Result.{err_from_is_err_and}
use Rattle.std.specs.Io.KnownBytes.{prepend_known}
use Rattle.hex.specs.Hex.{encode_lower}
use Rattle.gix_hash_core.specs.Kind.{id_len}
use Rattle.object_stream.specs.TypedObject.{typed_id}
use Rattle.object_stream.specs.BatchEntry.{object_line}
use Rattle.object_stream.specs.NextEntry.{IsExpected}
use Rattle.object_stream.proofs.EntryLemmas.{object_grown, digits_grown, front_taken, own_line_is}
use Rattle.object_stream.proofs.SpelledLemmas.{own_expected}
use Rattle.object_stream.proofs.TakingLemmas.{no_feed_stop, other_contents_stop, read_stop}
use Rattle.object_stream.proofs.entry.next_entry.Goals as goal

pub returns-in_err-fill-clause-refused : goal.returns-in_err-fill-clause-refused
returns-in_err-fill-clause-refused g c =
    let handed = err_from_is_err_and c.from_residual-in_err-fill.result c.from_residual-in_err-fill.ensures.1 in
    rw (handed.1, handed.2)
    (read_stop c.args.kind c.args.object_type c.args.expected
    (prepend_known c.args.buffer.now (g.R.Read.remaining c.args.reader.now))
    (g.R.Read.remaining c.next_line.new.reader) c.next_line.new.buffer c.in_ok-line.ensures.kept c.in_ok-line.line
    c.in_ok-line.size c.in_ok-line.ensures.found c.in_ok-line.ensures.expected _ c.in_err-fill.ensures.error)

pub returns-then-bytes-line-ne10-clause-refused : goal.returns-then-bytes-line-ne10-clause-refused
returns-then-bytes-line-ne10-clause-refused g c =
    let kind = c.args.kind in
    let type = c.args.object_type in
    let old : List ℕ = c.next_line.new.buffer in
    let view : List ℕ = c.fill.new.self in
    let line = c.in_ok-line.line in
    let size = c.in_ok-line.size in
    let grows = c.in_ok-fill.ensures.grows in
    let found = object_grown kind type old view line size grows c.in_ok-line.ensures.found in
    let wanted = subst (IsExpected c.args.expected)
    (sym (digits_grown kind type old view line size grows c.in_ok-line.ensures.found))
    c.in_ok-line.ensures.expected in
    let kept = Keeps-trans _ _ _ c.in_ok-line.ensures.kept c.in_ok-fill.ensures.kept in
    let within : size < length (drop (line + 1) view) = omega
    (arith, length-drop (line + 1) view, c.in_ok-fill.ensures.enough.0 c.if-not-branch.false) in
    no_feed_stop kind type c.args.expected (prepend_known c.args.buffer.now (g.R.Read.remaining c.args.reader.now))
    (g.R.Read.remaining c.fill.new.reader) view kept line size found wanted within
    (rw (c.bytes.ensures, sym (get_or-drop (line + 1) view size 0)) at c.if-bytes-line-ne10.true)

pub id_of_entry-id-requires-clause-found : goal.id_of_entry-id-requires-clause-found
id_of_entry-id-requires-clause-found g c =
    object_grown c.args.kind c.args.object_type c.next_line.new.buffer c.fill.new.self c.in_ok-line.line c.in_ok-line.size
    c.in_ok-fill.ensures.grows c.in_ok-line.ensures.found

pub returns-then-not-spells-clause-refused : goal.returns-then-not-spells-clause-refused
returns-then-not-spells-clause-refused g c =
    let kind = c.args.kind in
    let type = c.args.object_type in
    let old : List ℕ = c.next_line.new.buffer in
    let view : List ℕ = c.fill.new.self in
    let line = c.in_ok-line.line in
    let size = c.in_ok-line.size in
    let grows = c.in_ok-fill.ensures.grows in
    let found = object_grown kind type old view line size grows c.in_ok-line.ensures.found in
    let wanted = subst (IsExpected c.args.expected)
    (sym (digits_grown kind type old view line size grows c.in_ok-line.ensures.found))
    c.in_ok-line.ensures.expected in
    let kept = Keeps-trans _ _ _ c.in_ok-line.ensures.kept c.in_ok-fill.ensures.kept in
    let within : size < length (drop (line + 1) view) = omega
    (arith, length-drop (line + 1) view, c.in_ok-fill.ensures.enough.0 c.if-not-branch.false) in
    let bytes : List ℕ = c.bytes-2.result.now in
    let digits : take (2 * c.len_in_bytes.result) bytes ≡ take (2 * id_len kind) view =
    ap (λ k. take (2 * k) bytes) c.len_in_bytes.ensures ∙ ap (take (2 * id_len kind)) c.bytes-2.ensures
    ∙ c.id_of_entry-id.ensures.digits in
    let own : encode_lower (typed_id kind type (take size (drop (line + 1) view))) ≡ encode_lower c.as_oid.result.bytes.now =
    sym (ap encode_lower (c.as_oid.ensures ∙ c.id_of_entry-id.ensures.id)) in
    other_contents_stop kind type c.args.expected (prepend_known c.args.buffer.now (g.R.Read.remaining c.args.reader.now))
    (g.R.Read.remaining c.fill.new.reader) view kept line size found wanted within
    (rw (c.bytes.ensures, sym (get_or-drop (line + 1) view size 0)) at c.if-bytes-line-ne10.false)
    (λ same. let yes = c.spells.ensures.same.1 (digits ∙ same ∙ own) in cc (yes, c.if-not-spells.true))

pub returns-clause-line : goal.returns-clause-line
returns-clause-line g c =
    let kind = c.args.kind in
    let type = c.args.object_type in
    let view : List ℕ = c.fill.new.self in
    let line = c.in_ok-line.line in
    let size = c.in_ok-line.size in
    let id = c.id_of_entry-id.result in
    let found = object_grown kind type c.next_line.new.buffer view line size c.in_ok-fill.ensures.grows
    c.in_ok-line.ensures.found in
    let kept = Keeps-trans _ _ _ c.in_ok-line.ensures.kept c.in_ok-fill.ensures.kept in
    let bytes : List ℕ = c.bytes-2.result.now in
    let digits : take (2 * c.len_in_bytes.result) bytes ≡ take (2 * id_len kind) view =
    ap (λ k. take (2 * k) bytes) c.len_in_bytes.ensures ∙ ap (take (2 * id_len kind)) c.bytes-2.ensures
    ∙ c.id_of_entry-id.ensures.digits in
    let own : take (2 * id_len kind) view ≡ encode_lower id =
    sym digits ∙ c.spells.ensures.same.0 c.if-not-spells.false ∙ ap encode_lower c.as_oid.ensures in
    let left : c.consume.new.self ≡ drop (line + 1) view = c.consume.ensures ∙ c.id_of_entry-id.ensures.behind in
    rw left
    (front_taken (prepend_known c.args.buffer.now (g.R.Read.remaining c.args.reader.now)) (g.R.Read.remaining c.fill.new.reader)
    view (object_line type id size ++ 10 ∷ []) (drop (line + 1) view) kept (own_line_is kind type id view line size found own))

pub returns-clause-contents : goal.returns-clause-contents
returns-clause-contents g c =
    let kind = c.args.kind in
    let type = c.args.object_type in
    let old : List ℕ = c.next_line.new.buffer in
    let view : List ℕ = c.fill.new.self in
    let line = c.in_ok-line.line in
    let size = c.in_ok-line.size in
    let bytes : List ℕ = c.bytes-2.result.now in
    let tail = drop (line + 1) view in
    let digits : take (2 * c.len_in_bytes.result) bytes ≡ take (2 * id_len kind) old =
    ap (λ k. take (2 * k) bytes) c.len_in_bytes.ensures ∙ ap (take (2 * id_len kind)) c.bytes-2.ensures
    ∙ c.id_of_entry-id.ensures.digits
    ∙ digits_grown kind type old view line size c.in_ok-fill.ensures.grows c.in_ok-line.ensures.found in
    let left : c.consume.new.self ≡ tail = c.consume.ensures ∙ c.id_of_entry-id.ensures.behind in
    let wanted = subst (IsExpected c.args.expected) (sym digits) c.in_ok-line.ensures.expected in
    rw left
    (record {
      within = omega (arith, length-drop (line + 1) view, c.in_ok-fill.ensures.enough.0 c.if-not-branch.false);
      feed = rw (c.bytes.ensures, sym (get_or-drop (line + 1) view size 0)) at c.if-bytes-line-ne10.false;
      own = c.id_of_entry-id.ensures.id;
      is_expected = rw c.as_oid.ensures at (own_expected c.args.expected (take (2 * c.len_in_bytes.result) bytes)
          c.as_oid.result.bytes.now wanted c.in_ok-line.ensures.bytes (c.spells.ensures.id c.if-not-spells.false));
    })
