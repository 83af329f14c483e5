use Rattle.std.proofs.Common.{ℕ, List, [], Option, Err, ap, subst, sym}
use Rattle.std.proofs.lemmas.List.Elements.{All-nil}
use Rattle.std.proofs.lemmas.Result.{IfErr-weaker, on_ok_weaker}
use Rattle.std.specs.Io.KnownBytes.{prepend_known}
use Rattle.gix_hash_core.specs.declared.kind.Kind.{Kind}
use Rattle.newer_commits.specs.Adding.{AreThere}
use Rattle.newer_commits.specs.CommitsOnTop.{CommitsOnTop}
use Rattle.commit_requests.specs.Completion.{AddsInTurn, HaveIdsAmong, IsCompleteRefusal}
use Rattle.commit_requests.specs.Gathering.{AreClosed}
use Rattle.commit_requests.proofs.RefusalLemmas.{told_refused}
use Rattle.commit_requests.proofs.StreamLemmas.{not_told_of_write, ok_is_no_error, same_error}
use Rattle.commit_requests.proofs.TurnLemmas.{question_there}
use Rattle.commit_requests.proofs.completing.complete.Goals as goal

pub add_all-requires-clause-closed : goal.add_all-requires-clause-closed
add_all-requires-clause-closed g c =
    let finds = g.S.Base.finds in
    let facts = g.S.Base.facts in
    let old = c.args.newer.now in
    let mid = c.gather.new.newer in
    let asked : List (List ℕ) = c.gather.new.requests.asked in
    let held : List (List ℕ) = c.in-Ok.held in
    subst (λ (k : Kind). AreClosed k (finds (facts mid.base)) mid.commits asked held) (sym c.gather.ensures.kind)
    (subst (λ (f : g.S.Base.Facts). AreClosed old.kind (finds f) mid.commits asked held) (sym c.gather.ensures.facts)
    (subst (λ (t : CommitsOnTop). AreClosed old.kind (finds (facts old.base)) t asked held) (sym c.gather.ensures.commits)
    c.in-Ok.ensures.closed))

pub returns-in-Ok-clause-asked : goal.returns-in-Ok-clause-asked
returns-in-Ok-clause-asked g c = c.gather.ensures.asked c.num_waiting-none.ensures.distinct

pub returns-in-Ok-clause-added : goal.returns-in-Ok-clause-added
returns-in-Ok-clause-added g c =
    let finds = g.S.Base.finds in
    let facts = g.S.Base.facts in
    let old = c.args.newer.now in
    let mid = c.gather.new.newer in
    let new : CommitsOnTop = c.add_all.new.newer.commits in
    let asked : List (List ℕ) = c.gather.new.requests.asked in
    subst
    (λ (k : Kind). (contents : List (List ℕ)) × AddsInTurn k (finds (facts old.base)) old.commits contents new
    × HaveIdsAmong k asked contents)
    c.gather.ensures.kind
    (subst
    (λ (f : g.S.Base.Facts). (contents : List (List ℕ)) × AddsInTurn mid.kind (finds f) old.commits contents new
    × HaveIdsAmong mid.kind asked contents)
    c.gather.ensures.facts
    (subst
    (λ (t : CommitsOnTop). (contents : List (List ℕ)) × AddsInTurn mid.kind (finds (facts mid.base)) t contents new
    × HaveIdsAmong mid.kind asked contents)
    c.gather.ensures.commits c.add_all.ensures.added))

pub returns-in-Ok-clause-all : goal.returns-in-Ok-clause-all
returns-in-Ok-clause-all g c =
    let finds = g.S.Base.finds in
    let new : CommitsOnTop = c.add_all.new.newer.commits in
    let asked : List (List ℕ) = c.gather.new.requests.asked in
    on_ok_weaker c.add_all.result
    (λ there. subst (λ (f : g.S.Base.Facts). AreThere (finds f) new asked) c.gather.ensures.facts there) c.add_all.ensures.all

pub returns-in-Ok-clause-there : goal.returns-in-Ok-clause-there
returns-in-Ok-clause-there g c =
    let finds = g.S.Base.finds in
    let facts = g.S.Base.facts in
    let old = c.args.newer.now in
    let mid = c.gather.new.newer in
    let new : CommitsOnTop = c.add_all.new.newer.commits in
    let asked : List (List ℕ) = c.gather.new.requests.asked in
    let added : (contents : List (List ℕ)) × AddsInTurn mid.kind (finds (facts old.base)) old.commits contents new
    × HaveIdsAmong mid.kind asked contents =
    subst
    (λ (f : g.S.Base.Facts). (contents : List (List ℕ)) × AddsInTurn mid.kind (finds f) old.commits contents new
    × HaveIdsAmong mid.kind asked contents)
    c.gather.ensures.facts
    (subst
    (λ (t : CommitsOnTop). (contents : List (List ℕ)) × AddsInTurn mid.kind (finds (facts mid.base)) t contents new
    × HaveIdsAmong mid.kind asked contents)
    c.gather.ensures.commits c.add_all.ensures.added) in
    on_ok_weaker c.add_all.result
    (λ there.
    question_there mid.kind (finds (facts old.base)) old.commits added.0 new asked c.args.ids.now added.1 c.in-Ok.ensures.question
    (subst (λ (f : g.S.Base.Facts). AreThere (finds f) new asked) c.gather.ensures.facts there))
    c.add_all.ensures.all

pub returns-in-Ok-clause-written : goal.returns-in-Ok-clause-written
returns-in-Ok-clause-written g c = λ other. c.in-Ok.ensures.written (ok_is_no_error _ _)

pub returns-in-Ok-clause-read : goal.returns-in-Ok-clause-read
returns-in-Ok-clause-read g c =
    on_ok_weaker c.add_all.result (λ there. (c.in-Ok.held, c.in-Ok.ensures.closed.own, c.in-Ok.ensures.read))
    c.add_all.ensures.all

pub returns-in-Ok-clause-refused : goal.returns-in-Ok-clause-refused
returns-in-Ok-clause-refused g c =
    let finds = g.S.Base.finds in
    let facts = g.S.Base.facts in
    let may_fail = g.S.CommitSource.may_fail in
    let known = g.S.CommitSource.known in
    let old = c.args.newer.now in
    let mid = c.gather.new.newer in
    let new : CommitsOnTop = c.add_all.new.newer.commits in
    let asked : List (List ℕ) = c.gather.new.requests.asked in
    let ids : List (List ℕ) = c.args.ids.now in
    let bytes : Option (List ℕ) = prepend_known c.args.requests.now.ahead (g.R.Read.remaining c.args.reader.now) in
    IfErr-weaker c.add_all.result _ _
    (λ error refused.
    subst
    (λ (k : Kind). IsCompleteRefusal k (finds (facts old.base)) (may_fail (known old.base)) old.commits new ids asked bytes
    error)
    c.gather.ensures.kind
    (subst
    (λ (f : g.S.Base.Facts). IsCompleteRefusal mid.kind (finds f) (may_fail (known old.base)) old.commits new ids asked bytes
    error)
    c.gather.ensures.facts
    (subst
    (λ (x : g.S.CommitSource.Known). IsCompleteRefusal mid.kind (finds (facts mid.base)) (may_fail x) old.commits new ids asked
    bytes error)
    c.gather.ensures.known
    (subst
    (λ (t : CommitsOnTop). IsCompleteRefusal mid.kind (finds (facts mid.base)) (may_fail (known mid.base)) t new ids asked bytes
    error)
    c.gather.ensures.commits (refused ids bytes)))))
    c.add_all.ensures.refused

pub returns-in-Err-clause-asked : goal.returns-in-Err-clause-asked
returns-in-Err-clause-asked g c = c.gather.ensures.asked c.num_waiting-some.ensures.distinct

pub returns-in-Err-clause-added : goal.returns-in-Err-clause-added
returns-in-Err-clause-added g c = ([], c.gather.ensures.commits, All-nil _)

pub returns-in-Err-clause-written : goal.returns-in-Err-clause-written
returns-in-Err-clause-written g c =
    λ other.
    c.in-Err.ensures.written
    (λ is.
    not_told_of_write c.args.ids.now c.in-Err.error c.told_of.result c.told_of.ensures (λ same. other (ap (λ e. Err e) same))
    (same_error _ _ is))

pub returns-in-Err-clause-refused : goal.returns-in-Err-clause-refused
returns-in-Err-clause-refused g c =
    let old = c.args.newer.now in
    told_refused old.kind (g.S.CommitSource.may_fail (g.S.CommitSource.known old.base)) old.commits c.gather.new.requests.asked
    (prepend_known c.args.requests.now.ahead (g.R.Read.remaining c.args.reader.now)) (g.S.Base.finds (g.S.Base.facts old.base))
    c.gather.new.newer.commits c.args.ids.now c.in-Err.error c.told_of.result c.in-Err.ensures.refused c.told_of.ensures
