use Rattle.std.proofs.Common.{◌≡◌, ◌+◌, ◌≤◌, ◌∷◌, ◌∙◌, ℕ, List, All, Contains, ap, arith, length, refl, subst, sym}
use Rattle.std.proofs.lemmas.List.{length-append}
use Rattle.std.proofs.lemmas.List.Elements.{All-head}
use Rattle.object_requests.specs.Asked.{Asked}
use Rattle.commit_requests.proofs.GatherLemmas.{asks_none, asks_step, count_all, few_step, still_all, still_step}
use Rattle.commit_requests.proofs.StreamLemmas.{ok_is_no_error}
use Rattle.commit_requests.proofs.gather.Gathered.ask_ahead.Goals as goal

pub loop-self-init : goal.loop-self-init
loop-self-init g c =
    let asked = c.args.requests.now.asked in
    let wanted = c.args.self.now.wanted.items in
    record {
      held = refl;
      requests = refl;
      asked = asks_none asked wanted;
      few = c.requires.few;
      wanted = still_all asked wanted;
      written = λ start appended. appended;
    }

pub loop-self-preserved : goal.loop-self-preserved
loop-self-preserved g c =
    let start : List (List ℕ) = c.args.self.now.wanted.items in
    let wanted : List (List ℕ) = c.loop-self.self.wanted.items in
    let rest : List (List ℕ) = c.pop_front.new.self.items in
    let id : List ℕ = c.in-Some.id in
    let first : wanted ≡ id ∷ rest = c.in-Some.ensures.items in
    let contained : Contains start id =
    All-head (Contains start) id rest (subst (All (Contains start)) first c.loop-self.invariant.wanted.none) in
    let now : Asked = c.loop-self.requests in
    let asked : List (List ℕ) = now.asked in
    let after : List (List ℕ) = c.ask_one.new.requests.asked in
    let count : ℕ = c.len.result + c.num_waiting.result in
    let most : ℕ = c.args.most in
    let taken : now.taken ≡ c.args.requests.now.taken = ap (λ (r : Asked). r.taken) c.loop-self.invariant.requests in
    let held : now.taken ≡ c.len.result =
    taken ∙ c.requires.taken ∙ sym (c.len.ensures ∙ ap length c.loop-self.invariant.held) in
    let within : now.taken ≤ length asked =
    omega (
      arith,
      taken,
      c.requires.within,
      ap length c.loop-self.invariant.asked.added,
      length-append c.args.requests.now.asked c.loop-self.invariant.asked.more,
    ) in
    let is : count ≡ length asked = count_all now c.len.result c.num_waiting.result held within c.num_waiting.ensures.count in
    record {
      held = c.loop-self.invariant.held;
      requests = c.in-Ok.ensures.requests ∙ ap (λ (r : Asked). record r { asked = after }) c.loop-self.invariant.requests;
      asked = asks_step c.args.requests.now.asked asked after start id count most c.loop-self.invariant.asked contained
          c.in-Ok.ensures.asked;
      few = few_step asked after id count most c.in-Ok.ensures.asked is c.loop-self.invariant.few;
      wanted = still_step start asked after wanted rest id count most c.loop-self.invariant.wanted first c.in-Ok.ensures.asked
          c.in-Ok.ensures.done;
      written = λ begin appended.
          c.in-Ok.ensures.written (ok_is_no_error _ _) begin (c.loop-self.invariant.written begin appended);
    }

pub returns-in-Err-clause-asked : goal.returns-in-Err-clause-asked
returns-in-Err-clause-asked g c =
    let start : List (List ℕ) = c.args.self.now.wanted.items in
    let rest : List (List ℕ) = c.pop_front.new.self.items in
    let id : List ℕ = c.in-Some.id in
    let contained : Contains start id =
    All-head (Contains start) id rest
    (subst (All (Contains start)) c.in-Some.ensures.items c.loop-self.invariant.wanted.none) in
    asks_step c.args.requests.now.asked c.loop-self.requests.asked c.ask_one.new.requests.asked start id
    (c.len.result + c.num_waiting.result) c.args.most c.loop-self.invariant.asked contained c.in-Err.ensures.asked

pub returns-in-Err-clause-written : goal.returns-in-Err-clause-written
returns-in-Err-clause-written g c =
    λ other begin appended. c.in-Err.ensures.written other begin (c.loop-self.invariant.written begin appended)
