use Rattle.std.proofs.Common.{rules, ◌≡◌, ◌+◌, ◌<◌, ◌∙◌, ◌∷◌, ◌++◌, [], ℕ, List, Contains, ap, arith, length, map, refl, subst}
use Rattle.std.proofs.Common.{sym, take}
use Rattle.std.proofs.lemmas.List.{length-append, length-map, take_at}
use Rattle.std.proofs.lemmas.List.Elements.{All-contains}
use Rattle.newer_commits.specs.CommitsOnTop.{CommitsOnTop, newer_commit}
use Rattle.newer_commits.specs.KeptCommits.{AreWellKept, AreWhole, commit_of, fields_name}
use Rattle.newer_commits.specs.declared.commits.Stored.{Stored}
use Rattle.newer_commits.proofs.KeptLemmas.{commits_pushed, kept_pushed, kept_same, room_left}
use Rattle.newer_commits.proofs.commits.NewerCommits.push.Goals as goal

pub invariant_of-self-in-Ok : goal.invariant_of-self-in-Ok
invariant_of-self-in-Ok c =
    let below = c.self.inside.below in
    let commits = c.self.inside.commits.items in
    let words = c.self.inside.words.items in
    let more = c.in_ok-fields.ensures.more.0 in
    let grown : c.store_parents.new.words.items ≡ words ++ more = c.in_ok-fields.ensures.more.1 in
    let stored : Stored = record { id = c.args.id; generation = c.args.generation; fields = c.in_ok-fields.fields } in
    let same_below = ap (λ (t : CommitsOnTop). t.below) c.self.view_is in
    let many = ap (λ (t : CommitsOnTop). length t.commits) c.self.view_is in
    let same_words = ap (λ (t : CommitsOnTop). length t.words) c.self.view_is in
    let counted = length-map commits (commit_of words) in
    let left = room_left c.args.self.now (length c.args.parents.now) c.requires.room in
    let whole : AreWhole (words ++ more) stored.fields =
    subst (λ (ws : List ℕ). AreWhole ws stored.fields) grown c.in_ok-fields.ensures.whole in
    let named : fields_name (words ++ more) stored.fields ≡ c.args.parents.now =
    subst (λ (ws : List ℕ). fields_name ws stored.fields ≡ c.args.parents.now) grown c.in_ok-fields.ensures.named in
    let before : (q : ℕ) → Contains (fields_name (words ++ more) stored.fields) q → q < below + length commits =
    λ q contained.
    let there = All-contains (λ (x : ℕ). x < c.args.self.now.below + length c.args.self.now.commits) c.args.parents.now q
    c.requires.before (subst (λ (ps : List ℕ). Contains ps q) named contained) in
    omega (arith, there, same_below, many, counted) in
    let room : below + length commits < 0x70000000 = omega (arith, left.0, same_below, many, counted) in
    let short : length (words ++ more) < 4294967296 =
    omega (arith, length-append words more, c.in_ok-fields.ensures.more.2, left.1, same_words) in
    let kept = kept_pushed below c.self.inside.numbers c.keep.new.numbers commits words more stored c.self.invariant whole before
    c.in-Ok.ensures.numbers room short in
    subst (λ (ws : List ℕ). AreWellKept below c.keep.new.numbers c.keep.new.commits.items ws) (sym grown)
    (subst (λ (cs : List Stored). AreWellKept below c.keep.new.numbers cs (words ++ more)) (sym c.in-Ok.ensures.commits) kept)

pub invariant_of-self-in-Err : goal.invariant_of-self-in-Err
invariant_of-self-in-Err c =
    let below = c.self.inside.below in
    let words = c.self.inside.words.items in
    let more = c.in_ok-fields.ensures.more.0 in
    let grown : c.store_parents.new.words.items ≡ words ++ more = c.in_ok-fields.ensures.more.1 in
    let size : c.len-before.result ≡ length words = search rules in
    let cut : c.truncate.new.self.items ≡ words =
    c.truncate.ensures.items ∙ ap (λ (ws : List ℕ). take c.len-before.result ws) grown
    ∙ take_at words more c.len-before.result (sym size) in
    subst (λ (ws : List ℕ). AreWellKept below c.keep.new.numbers c.keep.new.commits.items ws) (sym cut)
    (subst (λ (cs : List Stored). AreWellKept below c.keep.new.numbers cs words) (sym c.in-Err.ensures.commits_err)
    (kept_same below c.self.inside.numbers c.keep.new.numbers c.self.inside.commits.items words c.self.invariant
    c.in-Err.ensures.numbers_err))

pub returns-in-Ok-clause-added : goal.returns-in-Ok-clause-added
returns-in-Ok-clause-added c =
    let below = c.self.inside.below in
    let commits = c.self.inside.commits.items in
    let words = c.self.inside.words.items in
    let more = c.in_ok-fields.ensures.more.0 in
    let grown : c.store_parents.new.words.items ≡ words ++ more = c.in_ok-fields.ensures.more.1 in
    let stored : Stored = record { id = c.args.id; generation = c.args.generation; fields = c.in_ok-fields.fields } in
    let named : fields_name (words ++ more) stored.fields ≡ c.args.parents.now =
    subst (λ (ws : List ℕ). fields_name ws stored.fields ≡ c.args.parents.now) grown c.in_ok-fields.ensures.named in
    ap (λ (cs : List Stored). map (commit_of c.store_parents.new.words.items) cs) c.in-Ok.ensures.commits
    ∙ ap (λ (ws : List ℕ). map (commit_of ws) (commits ++ stored ∷ [])) grown
    ∙ commits_pushed below c.self.inside.numbers commits words more stored c.self.invariant c.args.id c.args.generation
    c.args.parents.now refl refl named
    ∙ ap (λ (t : CommitsOnTop). t.commits ++ newer_commit c.args.id c.args.generation c.args.parents.now ∷ []) c.self.view_is
