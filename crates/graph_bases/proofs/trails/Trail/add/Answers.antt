use Rattle.std.proofs.Common.{◌≡◌, ◌<◌, ◌∙◌, ◌-◌, length, sym, ap, inl, inr, arith}
use Rattle.std.proofs.lemmas.Bool.{both_ways}
use Rattle.std.proofs.lemmas.List.{get_or_read}
use Rattle.std.proofs.lemmas.List.Elements.{Contains-push, Contains-append_left}
use Rattle.graph_bases.specs.Trails.{trail_at}
use Rattle.graph_bases.specs.declared.paint.Paint.TheVariants.{Bare}
use Rattle.graph_bases.proofs.TrailLemmas.{starts_added, joined_some}
use Rattle.graph_bases.proofs.trails.Trail.add.Goals as goal
use Rattle.graph_bases.proofs.trails.Trail.add.Goals.{then-at-eq0+in_ok-push, then-at-eq0-via-then-at-eq0}
use Rattle.graph_bases.proofs.trails.Trail.add.Goals.{then-at-eq0-via-else-at-eq0+then-is_bare, else-at-eq0+else-is_bare}

pub invariant_of-self-2 : goal.invariant_of-self-2
invariant_of-self-2 c =
    let a = c.self.inside in
    let trail = a.words.items in
    let within : c.args.word < length trail = omega (arith, c.requires, ap length c.self.view_is) in
    elim c.if-at-eq0.branch [
      | then-at-eq0+in_ok-push w ↦
          let same = ap (λ i. i.words.items) w.self-inside-is in
          let read : c.index-2.result.now ≡ trail_at trail c.args.word =
          get_or_read trail c.args.word c.index-2.result.now within (rw same at c.index-2.ensures) Bare in
          rw (w.self-inside-is, w.in_ok-push.ensures.items)
          (starts_added trail a.starts.items _ c.args.word c.join.result within
          (λ is none. joined_some c.index-2.result.now c.args.paint (λ bare. is (sym read ∙ bare)) (sym c.join.ensures ∙ none))
          c.self.invariant (λ v s. Contains-append_left a.starts.items _ v s) (inl (Contains-push a.starts.items c.args.word)))
      | else-at-eq0+else-is_bare w ↦
          let same = ap (λ i. i.words.items) w.self-inside-is in
          let read : c.index-2.result.now ≡ trail_at trail c.args.word =
          get_or_read trail c.args.word c.index-2.result.now within (rw same at c.index-2.ensures) Bare in
          let before : w.index.result.now ≡ trail_at trail (c.args.word - 1) =
          get_or_read trail (c.args.word - 1) w.index.result.now (omega (arith, within)) w.index.ensures Bare in
          rw w.self-inside-is
          (starts_added trail a.starts.items a.starts.items c.args.word c.join.result within
          (λ is none. joined_some c.index-2.result.now c.args.paint (λ bare. is (sym read ∙ bare)) (sym c.join.ensures ∙ none))
          c.self.invariant (λ v s. s)
          (inr (
            c.args.word - 1,
            omega (arith, w.if-at-eq0.false),
            λ bare. both_ways w.is_bare.result w.if-is_bare.false (w.is_bare.ensures.1 (before ∙ bare)),
          )))
    ]
