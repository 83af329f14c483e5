use Rattle.std.proofs.Common.{[], ℕ, List, sym, subst, arith, ap, length, ◌∙◌}
use Rattle.graph_levels.specs.ListEnds.{HasEnds}
use Rattle.graph_levels.proofs.ListLemmas.{no_ends}
use Rattle.graph_writer.proofs.filters.NewFilters.new.Goals as goal

pub invariant_of-result : goal.invariant_of-result
invariant_of-result c = record {
  whole =
      subst (λ (bs : List ℕ). HasEnds bs c.new.result.items) (sym c.new-2.ensures.items)
      (subst (HasEnds []) (sym c.new.ensures.items) no_ends);
  few = omega (arith, ap length c.new-2.ensures.items);
  fit = c.numbers_of.ensures.fit;
}

pub returns-clause-numbers : goal.returns-clause-numbers
returns-clause-numbers c =
    let given = c.args.numbers in
    let made = c.numbers_of in
    ap (λ (n : ℕ). record { version = n; hashes = made.result.hashes; bits_per_entry = made.result.bits_per_entry })
    made.ensures.version
    ∙ ap (λ (n : ℕ). record { version = given.version; hashes = n; bits_per_entry = made.result.bits_per_entry })
    made.ensures.hashes
    ∙ ap (λ (n : ℕ). record { version = given.version; hashes = given.hashes; bits_per_entry = n }) made.ensures.bits
