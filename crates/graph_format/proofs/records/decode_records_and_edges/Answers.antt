use Rattle.std.proofs.Common.{ℕ, List, Option, Some, option_map, refl, ap, ◌∙◌, Vec, Global}
use Rattle.graph_format.specs.Format.{words}
use Rattle.graph_format.proofs.LayoutLemmas.{view-edges}
use Rattle.graph_format.proofs.records.decode_records_and_edges.Goals as goal
use Rattle.graph_format.proofs.records.decode_records_and_edges.Goals.{in-Some+in_ok-decode_words-in-Some, in-None}

pub returns-clause-edges : goal.returns-clause-edges
returns-clause-edges c path =
    let bytes = c.args.bytes.now in
    let items : Option (Vec ℕ Global) → Option (List ℕ) = option_map (λ edges. edges.items) in
    let chunk = view-edges bytes path c.args.layout.now _ c.requires refl in
    elim c.match-layout.branch [
      | in-Some+in_ok-decode_words-in-Some w ↦
          ap items w.extra_edges-is ∙ ap (λ (e : List ℕ). Some e) w.in_ok-decode_words-in-Some.ensures
          ∙ ap (option_map words) (rw w.in-Some.is at chunk)
      | in-None w ↦ ap items w.extra_edges-is ∙ ap (option_map words) (rw w.in-None.is at chunk)
    ]
