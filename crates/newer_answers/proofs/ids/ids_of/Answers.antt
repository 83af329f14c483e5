-- One id more is read, after those before it.
use Rattle.std.proofs.Common.{◌≡◌, ◌∷◌, ◌++◌, [], get_or, rules, ◌∙◌}
use Rattle.std.proofs.lemmas.Option.{slice_get-get_or}
use Rattle.graph_format.specs.declared.Position.{Position}
use Rattle.newer_commits.specs.FindingOnTop.{HasId}
use Rattle.newer_answers.proofs.PlaceOnTopLemmas.{has_as, id_more}
use Rattle.newer_answers.proofs.ids.ids_of.Goals as goal

pub loop-pos-preserved : goal.loop-pos-preserved
loop-pos-preserved g c =
    let facts = g.S.Base.facts in
    let base = c.args.commits.now.base in
    let top = c.args.commits.now.commits in
    let mid = c.loop-pos.commits in
    let positions = c.args.positions.now in
    let i = c.loop-pos.pos-index in
    let none : Position = record { 0 = 0 } in
    let pos = get_or positions i none in
    let id = c.in_ok-id.id in
    let same = g.met.S.Base.follow mid.base base c.loop-pos.invariant.known in
    let pushed : c.push.new.self.items ≡ c.loop-pos.ids.items ++ id ∷ [] = search rules in
    record {
      known = c.id_at.ensures.known ∙ c.loop-pos.invariant.known;
      kept = λ t told. c.loop-pos.invariant.kept t (c.id_at.ensures.kept t told);
      kind = c.id_at.ensures.kind ∙ c.loop-pos.invariant.kind;
      same = c.id_at.ensures.commits ∙ c.loop-pos.invariant.same;
      ids = rw pushed (id_more (HasId (g.S.Base.has_id (facts base)) top) positions c.loop-pos.ids.items i pos id
          c.loop-pos.invariant.ids (slice_get-get_or positions i none c.loop-pos-test.true)
          (has_as g.S.Base.has_id (facts base) (facts mid.base) top mid.commits pos.0 id same c.loop-pos.invariant.same
          c.in_ok-id.ensures.id));
    }
