use Rattle.std.proofs.Common.{◌≡◌, ◌∙◌, ◌++◌, ◌∷◌, [], ℕ, List, Option, Some, Err, ap, slice_get, subst, sym}
use Rattle.std.specs.Io.KnownBytes.{prepend_known}
use Rattle.commit_objects.specs.CommitContents.{Said, Says}
use Rattle.commit_objects.specs.Object.{object_id_of}
use Rattle.object_requests.specs.Asked.{Asked}
use Rattle.commit_requests.specs.Gathering.{IsTakeRefusal, WantsMore}
use Rattle.commit_requests.proofs.RefusalLemmas.{request_refused, want_taken}
use Rattle.commit_requests.proofs.StreamLemmas.{commit_id, entry_next, not_of_write, ok_is_no_error, same_error}
use Rattle.commit_requests.proofs.gather.Gathered.take.Goals as goal

pub returns-in-Err-clause-refused : goal.returns-in-Err-clause-refused
returns-in-Err-clause-refused g c =
    let old = c.args.newer.now in
    let r : Asked = c.args.requests.now in
    let may_fail = g.S.CommitSource.may_fail (g.S.CommitSource.known old.base) in
    let known : Option (List ℕ) = prepend_known r.ahead (g.R.Read.remaining c.args.reader.now) in
    subst (IsTakeRefusal old.kind may_fail r.asked r.taken known) (sym c.error_of_request.ensures)
    (request_refused old.kind may_fail r known c.in-Err.error c.requires.commits c.requires.kind c.in-Err.ensures.refused)

pub returns-in-Err-clause-written : goal.returns-in-Err-clause-written
returns-in-Err-clause-written g c =
    λ other.
    c.in-Err.ensures.written
    (λ is.
    not_of_write c.in-Err.error c.error_of_request.result c.error_of_request.ensures (λ same. other (ap (λ e. Err e) same))
    (same_error _ _ is))

pub returns-in-Err-parse-clause-written : goal.returns-in-Err-parse-clause-written
returns-in-Err-parse-clause-written g c = λ other. c.in-Ok.ensures.written (ok_is_no_error _ _)

pub returns-in-Err-want_parents-clause-written : goal.returns-in-Err-want_parents-clause-written
returns-in-Err-want_parents-clause-written g c = λ other. c.in-Ok.ensures.written (ok_is_no_error _ _)

pub returns-in-Err-push-clause-written : goal.returns-in-Err-push-clause-written
returns-in-Err-push-clause-written g c = λ other. c.in-Ok.ensures.written (ok_is_no_error _ _)

pub returns-in-Ok-push-clause-written : goal.returns-in-Ok-push-clause-written
returns-in-Ok-push-clause-written g c = λ other. c.in-Ok.ensures.written (ok_is_no_error _ _)

pub returns-in-Err-parse-clause-refused : goal.returns-in-Err-parse-clause-refused
returns-in-Err-parse-clause-refused g c =
    let old = c.args.newer.now in
    let r : Asked = c.args.requests.now in
    let taken = c.in-Ok.ensures.taken in
    let contents : List ℕ = c.take_next.new.self.contents in (
      taken.oldest,
      (
        contents,
        commit_id old.kind r.kind r.type c.in-Ok.id contents c.requires.commits c.requires.kind taken.own,
        subst (λ (bytes : List ℕ). (said : Said) → ¬ Says old.kind bytes said) c.contents.ensures c.in-Err-parse.ensures,
      ),
    )

pub returns-in-Err-want_parents-clause-refused : goal.returns-in-Err-want_parents-clause-refused
returns-in-Err-want_parents-clause-refused g c =
    let old = c.args.newer.now in
    let r : Asked = c.args.requests.now in
    want_taken old.kind (g.S.CommitSource.may_fail (g.S.CommitSource.known old.base)) old.commits r.asked
    (prepend_known r.ahead (g.R.Read.remaining c.args.reader.now)) r.taken c.in-Err-want_parents.error
    c.in-Err-want_parents.ensures.refused

pub returns-in-Ok-push-clause-read : goal.returns-in-Ok-push-clause-read
returns-in-Ok-push-clause-read g c =
    let old = c.args.newer.now in
    let base = g.S.Base.finds (g.S.Base.facts old.base) in
    let r : Asked = c.args.requests.now in
    let taken = c.in-Ok.ensures.taken in
    let contents : List ℕ = c.take_next.new.self.contents in
    let before : List (List ℕ) = c.args.self.now.wanted.items in
    let after : List (List ℕ) = c.want_parents.new.self.wanted.items in
    let own : c.in-Ok.id ≡ object_id_of old.kind contents =
    commit_id old.kind r.kind r.type c.in-Ok.id contents c.requires.commits c.requires.kind taken.own in
    record {
      bytes = contents;
      added = c.in-Ok-push.ensures.ok
          ∙ ap (λ (xs : List (List ℕ)). xs ++ c.contents-2.result.now ∷ []) c.want_parents.ensures.held
          ∙ ap (λ (x : List ℕ). c.args.self.now.held ++ x ∷ []) c.contents-2.ensures;
      own = ap (slice_get r.asked) (sym c.requires.taken) ∙ taken.oldest ∙ ap (λ (x : List ℕ). Some x) own;
      said = c.in-Ok-parse.commit;
      says = subst (λ (bytes : List ℕ). Says old.kind bytes c.in-Ok-parse.commit) c.contents.ensures c.in-Ok-parse.ensures;
      parents = subst (WantsMore base old.commits r.asked before after) c.parents.ensures
          (subst (λ (xs : List (List ℕ)). WantsMore base old.commits xs before after c.parents.result) taken.asked
          c.in-Ok-want_parents.ensures.wanted);
    }

pub returns-in-Ok-push-clause-bytes : goal.returns-in-Ok-push-clause-bytes
returns-in-Ok-push-clause-bytes g c =
    let old = c.args.newer.now in
    let r : Asked = c.args.requests.now in
    let next : Asked = c.take_next.new.self in
    let taken = c.in-Ok.ensures.taken in
    let own : c.in-Ok.id ≡ object_id_of old.kind next.contents =
    commit_id old.kind r.kind r.type c.in-Ok.id next.contents c.requires.commits c.requires.kind taken.own in
    let held : List (List ℕ) = c.args.self.now.held in
    let more : List (List ℕ) = c.push.new.self in
    let added : more ≡ held ++ next.contents ∷ [] =
    c.in-Ok-push.ensures.ok ∙ ap (λ (xs : List (List ℕ)). xs ++ c.contents-2.result.now ∷ []) c.want_parents.ensures.held
    ∙ ap (λ (x : List ℕ). held ++ x ∷ []) c.contents-2.ensures in
    λ start before.
    entry_next old.kind r.type start (prepend_known r.ahead (g.R.Read.remaining c.args.reader.now))
    (prepend_known next.ahead (g.R.Read.remaining c.take_next.new.reader)) held more c.in-Ok.id next.contents
    c.requires.commits own added before c.in-Ok.ensures.bytes
