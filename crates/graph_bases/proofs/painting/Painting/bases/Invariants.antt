use Rattle.std.proofs.Common.{◌≡◌, take}
use Rattle.std.specs.List.{filter}
use Rattle.commit_search.specs.Positions.{numbers_of}
use Rattle.graph_bases.specs.Paint.{is_base, paint_at}
use Rattle.graph_bases.proofs.painting.Painting.bases.Given as goal

-- those so far that are merge bases
abbrev pub invariant-loop-number : goal.invariant-loop-number
invariant-loop-number g l =
    numbers_of l.bases.items ≡ filter (λ p. is_base (paint_at l.fn.self.coats.all p)) (take l.number-index l.number-items)
