use Rattle.std.proofs.Common.{ap, ◌∙◌}
use Rattle.graph_bases.specs.Paint.{is_fresh, is_ahead, is_behind}
use Rattle.graph_bases.specs.declared.paint.Coat.{Coat}
use Rattle.graph_bases.proofs.CoatLemmas.{recount_fits}
use Rattle.graph_bases.proofs.paint.Coats.set.Goals as goal

pub recounted-self-requires-clause-few : goal.recounted-self-requires-clause-few
recounted-self-requires-clause-few g c =
    recount_fits is_fresh c.args.self.now.all c.args.commit.0 c.args.coat _ _ _ c.requires.within c.requires.few
    c.requires.counted.fresh (c.is_fresh.ensures ∙ ap is_fresh c.requires.old) c.is_fresh-2.ensures

pub recounted-self-requires-2-clause-few : goal.recounted-self-requires-2-clause-few
recounted-self-requires-2-clause-few g c =
    recount_fits (λ (m : Coat). is_ahead m.paint) c.args.self.now.all c.args.commit.0 c.args.coat _ _ _
    c.requires.within c.requires.few c.requires.counted.ahead
    (c.is_ahead.ensures ∙ ap (λ (m : Coat). is_ahead m.paint) c.requires.old) c.is_ahead-2.ensures

pub recounted-self-requires-3-clause-few : goal.recounted-self-requires-3-clause-few
recounted-self-requires-3-clause-few g c =
    recount_fits (λ (m : Coat). is_behind m.paint) c.args.self.now.all c.args.commit.0 c.args.coat _ _ _
    c.requires.within c.requires.few c.requires.counted.behind
    (c.is_behind.ensures ∙ ap (λ (m : Coat). is_behind m.paint) c.requires.old) c.is_behind-2.ensures
