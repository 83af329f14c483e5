use Rattle.std.proofs.Common.{◌≡◌, ◌<◌, ◌∙◌, ◌∷◌, [], ℕ, List, Option, Err, ap, arith, length, map, refl, subst, sym, take}
use Rattle.std.proofs.lemmas.List.{length-append}
use Rattle.std.specs.Io.KnownBytes.{Appends, Consumes, prepend_known}
use Rattle.gix_hash_core.specs.declared.kind.Kind.{Kind}
use Rattle.commit_objects.specs.Object.{object_id_of}
use Rattle.object_requests.specs.Asked.{Asked, waiting}
use Rattle.newer_commits.specs.CommitsOnTop.{CommitsOnTop}
use Rattle.commit_requests.specs.Gathering.{IsGathering, IsTakeRefusal, ReadsCommit}
use Rattle.commit_requests.specs.Requested.{commit_entries, request_lines}
use Rattle.commit_requests.proofs.GatherLemmas.{all_taken, are_asked_for, asked_none, begins, gathering_asks, gathering_ends}
use Rattle.commit_requests.proofs.GatherLemmas.{gathering_reads, question_ends, some_waits, still_asked_for}
use Rattle.commit_requests.proofs.RefusalLemmas.{ask_refused, take_refused, want_refused}
use Rattle.commit_requests.proofs.StreamLemmas.{appends_kept, entries_none, lines_none, ok_is_no_error, same_error}
use Rattle.commit_requests.proofs.completing.gather.Goals as goal

pub returns-in-Err-clause-asked : goal.returns-in-Err-clause-asked
returns-in-Err-clause-asked g c =
    let old = c.args.newer.now in
    λ distinct.
    asked_none (g.S.Base.finds (g.S.Base.facts old.base)) old.commits old.kind c.args.ids.now c.args.requests.now.asked
    c.requires.none distinct

pub returns-in-Err-clause-few : goal.returns-in-Err-clause-few
returns-in-Err-clause-few g c = omega (arith, ap length c.requires.none)

pub returns-in-Err-clause-written : goal.returns-in-Err-clause-written
returns-in-Err-clause-written g c =
    λ other. lines_none (g.W.Write.contents c.args.writer.now) c.args.requests.now.asked c.requires.none

pub returns-in-Err-clause-refused : goal.returns-in-Err-clause-refused
returns-in-Err-clause-refused g c =
    let old = c.args.newer.now in
    want_refused old.kind (g.S.CommitSource.may_fail (g.S.CommitSource.known old.base)) old.commits c.args.requests.now.asked
    (prepend_known c.args.requests.now.ahead (g.R.Read.remaining c.args.reader.now)) c.in-Err.error c.in-Err.ensures.refused

pub asking-init : goal.asking-init
asking-init g c =
    let old = c.args.newer.now in
    let asked : List (List ℕ) = c.args.requests.now.asked in
    let held : List (List ℕ) = c.want_each.new.self.held in
    let empty : held ≡ [] = c.in-Ok.ensures.held ∙ c.new-gathered.ensures.held in
    let bytes : Option (List ℕ) = prepend_known c.args.requests.now.ahead (g.R.Read.remaining c.args.reader.now) in
    record {
      known = c.in-Ok.ensures.known;
      facts = c.in-Ok.ensures.facts;
      kept = c.in-Ok.ensures.kept;
      kind = c.in-Ok.ensures.kind;
      commits = c.in-Ok.ensures.commits;
      same_type = c.requires.commits;
      same_kind = c.requires.kind;
      taken = c.requires.untaken ∙ sym (ap length empty);
      within = omega (arith, c.requires.untaken);
      few = omega (arith, ap length c.requires.none);
      gathering = begins (g.S.Base.finds (g.S.Base.facts old.base)) old.commits old.kind c.args.ids.now asked held
          c.new-gathered.result.wanted.items c.want_each.new.self.wanted.items c.requires.none empty
          c.new-gathered.ensures.wanted c.in-Ok.ensures.wanted;
      written = lines_none (g.W.Write.contents c.args.writer.now) asked c.requires.none;
      read = entries_none old.kind bytes held empty;
    }

pub ask_ahead-requires : goal.ask_ahead-requires
ask_ahead-requires g c = record {
  taken = c.asking.invariant.taken;
  within = c.asking.invariant.within;
  few = c.asking.invariant.few;
}

pub returns-in-Err-ask_ahead-clause-asked : goal.returns-in-Err-ask_ahead-clause-asked
returns-in-Err-ask_ahead-clause-asked g c =
    let old = c.args.newer.now in
    let held : List (List ℕ) = c.asking.gathered.held in
    λ distinct. (
      held,
      are_asked_for (g.S.Base.finds (g.S.Base.facts old.base)) old.commits old.kind c.args.ids.now c.asking.requests.asked held
          c.asking.gathered.wanted.items c.asking.invariant.gathering c.ask_ahead.new.requests.asked
          c.in-Err-ask_ahead.ensures.asked distinct,
    )

pub returns-in-Err-ask_ahead-clause-few : goal.returns-in-Err-ask_ahead-clause-few
returns-in-Err-ask_ahead-clause-few g c = omega (arith, c.in-Err-ask_ahead.ensures.few, c.most_asked-most.ensures)

pub returns-in-Err-ask_ahead-clause-written : goal.returns-in-Err-ask_ahead-clause-written
returns-in-Err-ask_ahead-clause-written g c =
    λ other.
    c.in-Err-ask_ahead.ensures.written (λ is. other (ap (λ e. Err e) (same_error _ _ is)))
    (g.W.Write.contents c.args.writer.now) c.asking.invariant.written

pub returns-in-Err-ask_ahead-clause-refused : goal.returns-in-Err-ask_ahead-clause-refused
returns-in-Err-ask_ahead-clause-refused g c =
    let old = c.args.newer.now in
    ask_refused old.kind (g.S.CommitSource.may_fail (g.S.CommitSource.known old.base)) old.commits c.ask_ahead.new.requests.asked
    (prepend_known c.args.requests.now.ahead (g.R.Read.remaining c.args.reader.now)) c.most_asked-most.result
    c.in-Err-ask_ahead.error c.most_asked-most.ensures c.in-Err-ask_ahead.ensures.refused

-- where none waits

pub returns-then-waiting-eq0-clause-few : goal.returns-then-waiting-eq0-clause-few
returns-then-waiting-eq0-clause-few g c = omega (arith, c.in-Ok-ask_ahead.ensures.few, c.most_asked-most.ensures)

pub returns-then-waiting-eq0-clause-asked : goal.returns-then-waiting-eq0-clause-asked
returns-then-waiting-eq0-clause-asked g c =
    let old = c.args.newer.now in
    let base = g.S.Base.finds (g.S.Base.facts old.base) in
    let ids : List (List ℕ) = c.args.ids.now in
    let next : Asked = c.ask_ahead.new.requests in
    let held : List (List ℕ) = c.ask_ahead.new.self.held in
    let left : List (List ℕ) = c.ask_ahead.new.self.wanted.items in
    let now : IsGathering old.kind base old.commits ids next.asked held left =
    subst (λ (xs : List (List ℕ)). IsGathering old.kind base old.commits ids next.asked xs left)
    (sym c.in-Ok-ask_ahead.ensures.held)
    (gathering_asks base old.commits old.kind ids c.asking.requests.asked c.asking.gathered.held c.asking.gathered.wanted.items
    c.asking.invariant.gathering next.asked c.in-Ok-ask_ahead.ensures.asked left c.in-Ok-ask_ahead.ensures.wanted) in
    still_asked_for base old.commits old.kind ids next.asked held left now next.asked refl

pub returns-then-waiting-eq0-clause-closed : goal.returns-then-waiting-eq0-clause-closed
returns-then-waiting-eq0-clause-closed g c =
    let old = c.args.newer.now in
    let base = g.S.Base.finds (g.S.Base.facts old.base) in
    let ids : List (List ℕ) = c.args.ids.now in
    let next : Asked = c.ask_ahead.new.requests in
    let held : List (List ℕ) = c.ask_ahead.new.self.held in
    let left : List (List ℕ) = c.ask_ahead.new.self.wanted.items in
    let now : IsGathering old.kind base old.commits ids next.asked held left =
    subst (λ (xs : List (List ℕ)). IsGathering old.kind base old.commits ids next.asked xs left)
    (sym c.in-Ok-ask_ahead.ensures.held)
    (gathering_asks base old.commits old.kind ids c.asking.requests.asked c.asking.gathered.held c.asking.gathered.wanted.items
    c.asking.invariant.gathering next.asked c.in-Ok-ask_ahead.ensures.asked left c.in-Ok-ask_ahead.ensures.wanted) in
    let none : length (waiting next) ≡ 0 = omega (arith, c.num_waiting-waiting.ensures.count, c.if-waiting-eq0.true) in
    let taken : next.taken ≡ length held =
    ap (λ (r : Asked). r.taken) c.in-Ok-ask_ahead.ensures.requests ∙ c.asking.invariant.taken
    ∙ sym (ap length c.in-Ok-ask_ahead.ensures.held) in
    gathering_ends base old.commits old.kind ids next.asked held
    (subst (IsGathering old.kind base old.commits ids next.asked held) (c.in-Ok-ask_ahead.ensures.all none) now)
    (all_taken next held taken none)

pub returns-then-waiting-eq0-clause-question : goal.returns-then-waiting-eq0-clause-question
returns-then-waiting-eq0-clause-question g c =
    let old = c.args.newer.now in
    let base = g.S.Base.finds (g.S.Base.facts old.base) in
    let ids : List (List ℕ) = c.args.ids.now in
    let next : Asked = c.ask_ahead.new.requests in
    let held : List (List ℕ) = c.ask_ahead.new.self.held in
    let left : List (List ℕ) = c.ask_ahead.new.self.wanted.items in
    let now : IsGathering old.kind base old.commits ids next.asked held left =
    subst (λ (xs : List (List ℕ)). IsGathering old.kind base old.commits ids next.asked xs left)
    (sym c.in-Ok-ask_ahead.ensures.held)
    (gathering_asks base old.commits old.kind ids c.asking.requests.asked c.asking.gathered.held c.asking.gathered.wanted.items
    c.asking.invariant.gathering next.asked c.in-Ok-ask_ahead.ensures.asked left c.in-Ok-ask_ahead.ensures.wanted) in
    let none : length (waiting next) ≡ 0 = omega (arith, c.num_waiting-waiting.ensures.count, c.if-waiting-eq0.true) in
    question_ends base old.commits old.kind ids next.asked held
    (subst (IsGathering old.kind base old.commits ids next.asked held) (c.in-Ok-ask_ahead.ensures.all none) now)

pub returns-then-waiting-eq0-clause-written : goal.returns-then-waiting-eq0-clause-written
returns-then-waiting-eq0-clause-written g c =
    λ other.
    c.in-Ok-ask_ahead.ensures.written (ok_is_no_error _ _) (g.W.Write.contents c.args.writer.now) c.asking.invariant.written

pub returns-then-waiting-eq0-clause-read : goal.returns-then-waiting-eq0-clause-read
returns-then-waiting-eq0-clause-read g c =
    let old = c.args.newer.now in
    let next : Asked = c.ask_ahead.new.requests in
    let held : List (List ℕ) = c.ask_ahead.new.self.held in
    let bytes : Option (List ℕ) = prepend_known c.args.requests.now.ahead (g.R.Read.remaining c.args.reader.now) in
    let here : Option (List ℕ) = prepend_known next.ahead (g.R.Read.remaining c.asking.reader) in
    let eaten : Consumes bytes here (commit_entries old.kind held) =
    subst (λ (xs : List (List ℕ)). Consumes bytes here (commit_entries old.kind xs)) (sym c.in-Ok-ask_ahead.ensures.held)
    (subst
    (λ (xs : List ℕ). Consumes bytes (prepend_known xs (g.R.Read.remaining c.asking.reader))
    (commit_entries old.kind c.asking.gathered.held))
    (sym (ap (λ (r : Asked). r.ahead) c.in-Ok-ask_ahead.ensures.requests)) c.asking.invariant.read) in
    eaten

-- where one is taken

pub take-requires : goal.take-requires
take-requires g c =
    let next : Asked = c.ask_ahead.new.requests in
    let requests = c.in-Ok-ask_ahead.ensures.requests in
    record {
      some = some_waits next (omega (arith, c.num_waiting-waiting.ensures.count, c.if-waiting-eq0.false));
      taken = ap (λ (r : Asked). r.taken) requests ∙ c.asking.invariant.taken ∙ sym (ap length c.in-Ok-ask_ahead.ensures.held);
      commits = ap (λ (r : Asked). r.type) requests ∙ c.asking.invariant.same_type;
      kind = ap (λ (r : Asked). r.kind) requests ∙ c.asking.invariant.same_kind ∙ sym c.asking.invariant.kind;
    }

pub returns-in-Err-take-clause-asked : goal.returns-in-Err-take-clause-asked
returns-in-Err-take-clause-asked g c =
    let old = c.args.newer.now in
    let base = g.S.Base.finds (g.S.Base.facts old.base) in
    let ids : List (List ℕ) = c.args.ids.now in
    let next : Asked = c.ask_ahead.new.requests in
    let held : List (List ℕ) = c.ask_ahead.new.self.held in
    let left : List (List ℕ) = c.ask_ahead.new.self.wanted.items in
    let now : IsGathering old.kind base old.commits ids next.asked held left =
    subst (λ (xs : List (List ℕ)). IsGathering old.kind base old.commits ids next.asked xs left)
    (sym c.in-Ok-ask_ahead.ensures.held)
    (gathering_asks base old.commits old.kind ids c.asking.requests.asked c.asking.gathered.held c.asking.gathered.wanted.items
    c.asking.invariant.gathering next.asked c.in-Ok-ask_ahead.ensures.asked left c.in-Ok-ask_ahead.ensures.wanted) in
    still_asked_for base old.commits old.kind ids next.asked held left now c.take.new.requests.asked c.in-Err-take.ensures.asked

pub returns-in-Err-take-clause-few : goal.returns-in-Err-take-clause-few
returns-in-Err-take-clause-few g c =
    omega (arith, ap length c.in-Err-take.ensures.asked, c.in-Ok-ask_ahead.ensures.few, c.most_asked-most.ensures)

pub returns-in-Err-take-clause-written : goal.returns-in-Err-take-clause-written
returns-in-Err-take-clause-written g c =
    let begin : Option (List ℕ) = g.W.Write.contents c.args.writer.now in
    let next : Asked = c.ask_ahead.new.requests in
    let lines : Appends begin (g.W.Write.contents c.ask_ahead.new.writer) (request_lines next.asked) =
    c.in-Ok-ask_ahead.ensures.written (ok_is_no_error _ _) begin c.asking.invariant.written in
    λ other.
    subst (λ (xs : List (List ℕ)). Appends begin (g.W.Write.contents c.take.new.writer) (request_lines xs))
    (sym c.in-Err-take.ensures.asked)
    (appends_kept begin (g.W.Write.contents c.ask_ahead.new.writer) (g.W.Write.contents c.take.new.writer)
    (request_lines next.asked) lines (c.in-Err-take.ensures.written (λ is. other (ap (λ e. Err e) (same_error _ _ is)))))

pub returns-in-Err-take-clause-refused : goal.returns-in-Err-take-clause-refused
returns-in-Err-take-clause-refused g c =
    let may_fail = g.S.CommitSource.may_fail in
    let known = g.S.CommitSource.known in
    let mid = c.asking.newer in
    let old = c.args.newer.now in
    let base = g.S.Base.finds (g.S.Base.facts old.base) in
    let ids : List (List ℕ) = c.args.ids.now in
    let next : Asked = c.ask_ahead.new.requests in
    let held : List (List ℕ) = c.ask_ahead.new.self.held in
    let left : List (List ℕ) = c.ask_ahead.new.self.wanted.items in
    let now : IsGathering old.kind base old.commits ids next.asked held left =
    subst (λ (xs : List (List ℕ)). IsGathering old.kind base old.commits ids next.asked xs left)
    (sym c.in-Ok-ask_ahead.ensures.held)
    (gathering_asks base old.commits old.kind ids c.asking.requests.asked c.asking.gathered.held c.asking.gathered.wanted.items
    c.asking.invariant.gathering next.asked c.in-Ok-ask_ahead.ensures.asked left c.in-Ok-ask_ahead.ensures.wanted) in
    let bytes : Option (List ℕ) = prepend_known c.args.requests.now.ahead (g.R.Read.remaining c.args.reader.now) in
    let here : Option (List ℕ) = prepend_known next.ahead (g.R.Read.remaining c.asking.reader) in
    let eaten : Consumes bytes here (commit_entries old.kind held) =
    subst (λ (xs : List (List ℕ)). Consumes bytes here (commit_entries old.kind xs)) (sym c.in-Ok-ask_ahead.ensures.held)
    (subst
    (λ (xs : List ℕ). Consumes bytes (prepend_known xs (g.R.Read.remaining c.asking.reader))
    (commit_entries old.kind c.asking.gathered.held))
    (sym (ap (λ (r : Asked). r.ahead) c.in-Ok-ask_ahead.ensures.requests)) c.asking.invariant.read) in
    let taken : next.taken ≡ length held =
    ap (λ (r : Asked). r.taken) c.in-Ok-ask_ahead.ensures.requests ∙ c.asking.invariant.taken
    ∙ sym (ap length c.in-Ok-ask_ahead.ensures.held) in
    let refused : IsTakeRefusal old.kind (may_fail (known old.base)) next.asked (length held) here c.in-Err-take.error =
    subst (λ (n : ℕ). IsTakeRefusal old.kind (may_fail (known old.base)) next.asked n here c.in-Err-take.error) taken
    (subst (λ (k : Kind). IsTakeRefusal k (may_fail (known old.base)) next.asked next.taken here c.in-Err-take.error)
    c.asking.invariant.kind
    (subst (λ (x : g.S.CommitSource.Known). IsTakeRefusal mid.kind (may_fail x) next.asked next.taken here c.in-Err-take.error)
    c.asking.invariant.known c.in-Err-take.ensures.refused)) in
    let same : next.asked ≡ c.take.new.requests.asked = sym c.in-Err-take.ensures.asked in
    take_refused old.kind (may_fail (known old.base)) old.commits c.take.new.requests.asked bytes held here
    (subst (λ (xs : List (List ℕ)). map (object_id_of old.kind) held ≡ take (length held) xs) same now.own) c.in-Err-take.error
    eaten
    (subst (λ (xs : List (List ℕ)). IsTakeRefusal old.kind (may_fail (known old.base)) xs (length held) here c.in-Err-take.error)
    same refused)

pub asking-preserved : goal.asking-preserved
asking-preserved g c =
    let finds = g.S.Base.finds in
    let facts = g.S.Base.facts in
    let mid = c.asking.newer in
    let old = c.args.newer.now in
    let base = g.S.Base.finds (g.S.Base.facts old.base) in
    let ids : List (List ℕ) = c.args.ids.now in
    let next : Asked = c.ask_ahead.new.requests in
    let held : List (List ℕ) = c.ask_ahead.new.self.held in
    let left : List (List ℕ) = c.ask_ahead.new.self.wanted.items in
    let now : IsGathering old.kind base old.commits ids next.asked held left =
    subst (λ (xs : List (List ℕ)). IsGathering old.kind base old.commits ids next.asked xs left)
    (sym c.in-Ok-ask_ahead.ensures.held)
    (gathering_asks base old.commits old.kind ids c.asking.requests.asked c.asking.gathered.held c.asking.gathered.wanted.items
    c.asking.invariant.gathering next.asked c.in-Ok-ask_ahead.ensures.asked left c.in-Ok-ask_ahead.ensures.wanted) in
    let bytes : Option (List ℕ) = prepend_known c.args.requests.now.ahead (g.R.Read.remaining c.args.reader.now) in
    let here : Option (List ℕ) = prepend_known next.ahead (g.R.Read.remaining c.asking.reader) in
    let eaten : Consumes bytes here (commit_entries old.kind held) =
    subst (λ (xs : List (List ℕ)). Consumes bytes here (commit_entries old.kind xs)) (sym c.in-Ok-ask_ahead.ensures.held)
    (subst
    (λ (xs : List ℕ). Consumes bytes (prepend_known xs (g.R.Read.remaining c.asking.reader))
    (commit_entries old.kind c.asking.gathered.held))
    (sym (ap (λ (r : Asked). r.ahead) c.in-Ok-ask_ahead.ensures.requests)) c.asking.invariant.read) in
    let that : Asked = c.take.new.requests in
    let more : List (List ℕ) = c.take.new.self.held in
    let wants : List (List ℕ) = c.take.new.self.wanted.items in
    let read : ReadsCommit old.kind base old.commits next.asked held more left wants =
    subst (λ (k : Kind). ReadsCommit k base old.commits next.asked held more left wants) c.asking.invariant.kind
    (subst (λ (f : g.S.Base.Facts). ReadsCommit mid.kind (finds f) old.commits next.asked held more left wants)
    c.asking.invariant.facts
    (subst (λ (t : CommitsOnTop). ReadsCommit mid.kind (finds (facts mid.base)) t next.asked held more left wants)
    c.asking.invariant.commits c.in-Ok-take.ensures.read)) in
    let some : next.taken < length next.asked =
    some_waits next (omega (arith, c.num_waiting-waiting.ensures.count, c.if-waiting-eq0.false)) in
    let taken : next.taken ≡ length held =
    ap (λ (r : Asked). r.taken) c.in-Ok-ask_ahead.ensures.requests ∙ c.asking.invariant.taken
    ∙ sym (ap length c.in-Ok-ask_ahead.ensures.held) in
    let begin : Option (List ℕ) = g.W.Write.contents c.args.writer.now in
    let rest : Option (List ℕ) = g.R.Read.remaining c.take.new.reader in
    let lines : Appends begin (g.W.Write.contents c.ask_ahead.new.writer) (request_lines next.asked) =
    c.in-Ok-ask_ahead.ensures.written (ok_is_no_error _ _) begin c.asking.invariant.written in
    record {
      known = c.in-Ok-take.ensures.known ∙ c.asking.invariant.known;
      facts = c.in-Ok-take.ensures.facts ∙ c.asking.invariant.facts;
      kept = λ t told. c.asking.invariant.kept t (c.in-Ok-take.ensures.kept t told);
      kind = c.in-Ok-take.ensures.kind ∙ c.asking.invariant.kind;
      commits = c.in-Ok-take.ensures.commits ∙ c.asking.invariant.commits;
      same_type = c.in-Ok-take.ensures.same_type ∙ ap (λ (r : Asked). r.type) c.in-Ok-ask_ahead.ensures.requests
          ∙ c.asking.invariant.same_type;
      same_kind = c.in-Ok-take.ensures.same_kind ∙ ap (λ (r : Asked). r.kind) c.in-Ok-ask_ahead.ensures.requests
          ∙ c.asking.invariant.same_kind;
      taken = omega (
        arith,
        c.in-Ok-take.ensures.taken,
        taken,
        ap length read.added,
        length-append held (read.bytes ∷ []),
      );
      within = omega (arith, c.in-Ok-take.ensures.taken, some, ap length c.in-Ok-take.ensures.asked);
      few = omega (arith, ap length c.in-Ok-take.ensures.asked, c.in-Ok-ask_ahead.ensures.few);
      gathering = subst (λ (xs : List (List ℕ)). IsGathering old.kind base old.commits ids xs more wants)
          (sym c.in-Ok-take.ensures.asked)
          (gathering_reads base old.commits old.kind ids next.asked held left now more wants read);
      written = subst (λ (xs : List (List ℕ)). Appends begin (g.W.Write.contents c.take.new.writer) (request_lines xs))
          (sym c.in-Ok-take.ensures.asked)
          (appends_kept begin (g.W.Write.contents c.ask_ahead.new.writer) (g.W.Write.contents c.take.new.writer)
          (request_lines next.asked) lines (c.in-Ok-take.ensures.written (ok_is_no_error _ _)));
      read = subst (λ (k : Kind). Consumes bytes (prepend_known that.ahead rest) (commit_entries k more)) c.asking.invariant.kind
          (c.in-Ok-take.ensures.bytes bytes
          (subst (λ (k : Kind). Consumes bytes here (commit_entries k held)) (sym c.asking.invariant.kind) eaten));
    }

pub asking-smaller : goal.asking-smaller
asking-smaller g c =
    let next : Asked = c.ask_ahead.new.requests in
    let some : next.taken < length next.asked =
    some_waits next (omega (arith, c.num_waiting-waiting.ensures.count, c.if-waiting-eq0.false)) in
    omega (
      arith,
      some,
      c.in-Ok-ask_ahead.ensures.few,
      c.in-Ok-take.ensures.taken,
      ap (λ (r : Asked). r.taken) c.in-Ok-ask_ahead.ensures.requests,
    )
