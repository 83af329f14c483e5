use Rattle.std.proofs.Common.{◌≡◌, Bool, false, [], refl, sym, count_by}
use Rattle.graph_bases.specs.Paint.{is_fresh, is_ahead, is_behind, bare}
use Rattle.graph_bases.specs.declared.paint.Coat.{Coat}
use Rattle.graph_bases.proofs.EdgeLemmas.{none_counted}
use Rattle.graph_bases.proofs.paint.Coats.into_idle.Goals as goal

pub returns : goal.returns
returns g c =
    let coats = c.clear.new.self in
    let none : (t : Coat → Bool) → t bare ≡ false → 0 ≡ count_by t coats = λ t unmet.
    sym (none_counted [] 0 [] coats c.clear.ensures.bare t unmet) in
    record {
      coats_len = c.clear.ensures.len;
      bare = c.clear.ensures.bare;
      trails = search;
      counted = record {
        fresh = none is_fresh refl;
        ahead = none (λ (m : Coat). is_ahead m.paint) refl;
        behind = none (λ (m : Coat). is_behind m.paint) refl;
      };
    }
