-- what the vectors of decoded records hold ("Commit Data")
use Rattle.std.specs.Prelude.{◌≡◌, ℕ, List, map}
use Rattle.graph_format.specs.Format.{Record}
use Rattle.graph_format.specs.declared.records.Records.{Records}

-- both parent fields of a record, as they are stored
abbrev pub stored_parents : Record → ℕ × ℕ
stored_parents r = (r.parent1, r.parent2)

-- Each vector has one field of the records, in their order, and one of them both parent fields.
pub record AreDecoded (records : List Record) (decoded : Records) : Type 0 where
  pub generations : decoded.generations.items ≡ map (λ r. r.generation) records
  pub times : decoded.times.items ≡ map (λ r. r.time) records
  pub parent_fields : decoded.parent_fields.items ≡ map stored_parents records
