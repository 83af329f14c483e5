use Rattle.commit_search.proofs.any.MarkSearcher.is_ancestor.Goals as goal

pub returns-clause-yes : goal.returns-clause-yes
returns-clause-yes g c = λ t said found.
    let led = c.in_ok-found.ensures.yes t said found in (led.0, led.1)
