-- The test of the closure, over the places before the entry.
use Rattle.std.proofs.Common.{bytes_eq, refl, arith, rules, tests}
use Rattle.std.proofs.lemmas.Iterator.Search.{any_from_yields_List}
use Rattle.std.proofs.lemmas.Iterator.{YieldsList-from_range}
use Rattle.gix_chunk_core.specs.Entry.{entry_at}
use Rattle.gix_chunk_core.specs.FirstBytes.{filled}
use Rattle.gix_chunk_core.specs.Fault.{has_earlier}
use Rattle.gix_chunk_core.proofs.index.has_earlier.Goals as goal

pub returns : goal.returns
unfolding has_earlier
returns c =
    let bytes = filled c.args.front.now c.args.len in
    any_from_yields_List (λ j. bytes_eq (entry_at bytes c.args.at j).id (entry_at bytes c.args.at c.args.i).id) _ _ _
    c.any.ensures.ran (YieldsList-from_range 0 c.args.i c.args.i refl (omega arith)) (λ x b q k. search (rules, tests))
