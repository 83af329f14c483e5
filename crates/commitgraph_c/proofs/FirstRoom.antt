-- the first parents of a commit, as many as there is room for
use Rattle.std.proofs.Common.{◌≡◌, refl, sym, ap, subst, ◌∙◌, ℕ, ◌+◌, ◌-◌, ◌^◌, ◌<◌, ◌≤◌, List, [], ◌∷◌, ◌++◌, length}
use Rattle.std.proofs.Common.{arith, set, min, Bool, false, Option, Result, Ok, if◌then◌else◌, length-append}
use Rattle.std.proofs.lemmas.Bool.{le-leb}
use Rattle.std.proofs.lemmas.Bool.Decides.{leb_tells}
use Rattle.std.specs.Bool.{nat_le}
use Rattle.std.specs.Option.{option_map}
use Rattle.std.specs.Prelude.{IsSomeAnd, None, Some, slice_get, unwrap_or}
use Rattle.graph_format.specs.Layer.{Layer, record_at}
use Rattle.graph_format.specs.Parents.{DecodedParents, both_parents, edge_of, first_of, items_of}
use Rattle.graph_format.specs.declared.Position.{Position}
use Rattle.graph_format.specs.declared.parents.ParentEdge.{ParentEdge}
use Rattle.graph_format.specs.declared.parents.ParentEdge.TheVariants as edge
use Rattle.graph_format.specs.declared.parents.ParentError.{ParentError}
use Rattle.commit_search.specs.Positions.{numbers_of}
use Rattle.gix_commitgraph.specs.Graph.{graph_commits}
use Rattle.c_opening.specs.Answers.{HasCommit, HasRecord, written}
use Rattle.c_opening.specs.Codes.{more_parents, parent_code}
use Rattle.commitgraph_c.specs.FirstParents.{TellsFirstParents, told_first}
use Rattle.commitgraph_c.specs.QueryAnswers.{parents_in}
use Rattle.commitgraph_c.specs.declared.first_parent.CgParent.{CgParent}
use Rattle.commitgraph_c.specs.declared.parents.CgParents.{CgParents}
use Rattle.commitgraph_c.proofs.ParentRoom.{AreSeen, AreTold, next_of}
use Rattle.c_opening.proofs.Written.{numbers_length, none_written, one_written, two_written}

-- what comes after items that fill the room is not written
past_room : (items more room : List ℕ) → length room ≤ length items → written (items ++ more) room ≡ written items room
past_room [] [] [] le = refl
past_room [] (m ∷ more) [] le = refl
past_room [] more (x ∷ room) le = absurd (omega (arith, le))
past_room (i ∷ items) more [] le = refl
past_room (i ∷ items) more (x ∷ room) le = ap (λ r. i ∷ r) (past_room items more room (omega (arith, le)))

numbers_append : (xs ys : List Position) → numbers_of (xs ++ ys) ≡ numbers_of xs ++ numbers_of ys
numbers_append [] ys = refl
numbers_append (x ∷ xs) ys = ap (λ ns. x.0 ∷ ns) (numbers_append xs ys)

lt-leb : (a b : ℕ) → b < a → nat_le a b ≡ false
lt-leb a b lt = grind (arith, leb_tells a b, lt)

module _ (parents : DecodedParents) (count : ℕ) (room now : List ℕ) (few : length room < 2 ^ 64 - 1)
    (fits : count ≤ length room) where
  -- where another parent comes, and the room is full
  pub more_told : (pos : Position) (left : List (Result Position ParentError)) → length room ≤ count
      → AreSeen parents count room now (Ok pos ∷ left)
      → TellsFirstParents parents (record { code = more_parents; count = count }) room now
  more_told pos left full s =
      let n = next_of s.ahead parents.fault pos left s.items in
      let all : length parents.positions ≡ length s.seen + length (pos ∷ n.rest) =
      ap length (s.split ∙ ap (λ (ps : List Position). s.seen ++ ps) n.first) ∙ length-append s.seen (pos ∷ n.rest) in
      let past : length room < length parents.positions = omega (arith, all, s.count_of, full, few) in
      let filled : length room ≤ length (numbers_of s.seen) = omega (arith, s.count_of, full, numbers_length s.seen) in
      record {
        count_of = omega (arith, fits, full, past);
        code_of =
            ap (λ (b : Bool). if b then unwrap_or (option_map parent_code parents.fault) 0 else more_parents)
            (sym (lt-leb (length parents.positions) (length room) past));
        room = s.room_of ∙ sym (past_room (numbers_of s.seen) (numbers_of s.ahead) room filled)
            ∙ ap (λ (ns : List ℕ). written ns room) (sym (numbers_append s.seen s.ahead))
            ∙ ap (λ (ps : List Position). written (numbers_of ps) room) (sym s.split);
      }

  -- where all parents are told
  pub all_fit : (fault : Option ParentError) → AreTold parents count room now fault
      → TellsFirstParents parents (record { code = unwrap_or (option_map parent_code fault) 0; count = count }) room now
  all_fit fault told =
      let within : length parents.positions ≤ length room = omega (arith, told.count_is, fits, few) in
      record {
        count_of = omega (arith, told.count_is, fits, few, within);
        code_of =
            ap (λ (f : Option ParentError). unwrap_or (option_map parent_code f) 0) (sym told.fault_is)
            ∙ ap (λ (b : Bool). if b then unwrap_or (option_map parent_code parents.fault) 0 else more_parents)
            (sym (le-leb (length parents.positions) (length room) within));
        room = told.room_is;
      }

-- what is told of parents that both fields of a commit give by themselves
module _ (first second : ParentEdge) (edges : Option (List ℕ)) (room : List ℕ) (told : CgParents) where
  pub none_first : first ≡ edge.None → second ≡ edge.None → told.count ≡ min 0 (length room)
      → told.code ≡ (if nat_le 0 (length room) then 0 else more_parents)
      → TellsFirstParents (both_parents first second edges) told room room
  none_first f s count code = rw (f, s) (record { count_of = count; code_of = code; room = sym (none_written room) })

  pub one_first : (pos : Position) → first ≡ edge.GraphPosition pos → second ≡ edge.None → told.count ≡ min 1 (length room)
      → told.code ≡ (if nat_le 1 (length room) then 0 else more_parents)
      → TellsFirstParents (both_parents first second edges) told room (set room 0 pos.0)
  one_first pos f s count code = rw (f, s) (record { count_of = count; code_of = code; room = one_written pos.0 room })

  pub two_first : (pos next : Position) → first ≡ edge.GraphPosition pos → second ≡ edge.GraphPosition next
      → told.count ≡ min 2 (length room) → told.code ≡ (if nat_le 2 (length room) then 0 else more_parents)
      → TellsFirstParents (both_parents first second edges) told room (set (set room 0 pos.0) 1 next.0)
  two_first pos next f s count code = rw (f, s)
      (record { count_of = count; code_of = code; room = two_written pos.0 next.0 room })

-- what holds where a property does that it follows from
some_and : {T : Type 0} (m : Option T) (P Q : T → Type 0) → ((x : T) → P x → Q x) → IsSomeAnd m P → IsSomeAnd m Q
some_and (Some x) P Q follows holds = follows x holds
some_and None P Q follows holds = holds

-- what is told of parents by what both fields of a record say is told of those of its commit
pub told_by_record : (layers : List Layer) (pos : ℕ) (first second : ParentEdge) (told : CgParents) (old new : List ℕ)
    → HasRecord (Some layers) pos (λ r. (first ≡ edge_of r.parent1) × (second ≡ edge_of r.parent2))
    → ((edges : Option (List ℕ)) → TellsFirstParents (both_parents first second edges) told old new)
    → HasCommit (Some layers) pos (λ commit. TellsFirstParents (parents_in commit) told old new)
told_by_record layers pos first second told old new has tells =
    some_and (slice_get (graph_commits layers) pos)
    (λ c. let r = record_at c.0 c.1 in (first ≡ edge_of r.parent1) × (second ≡ edge_of r.parent2))
    (λ c. TellsFirstParents (parents_in c) told old new) (λ c is. let r = record_at c.0 c.1 in
    subst (λ (edge : ParentEdge). TellsFirstParents (both_parents edge (edge_of r.parent2) c.0.edges) told old new) is.0
    (subst (λ (edge : ParentEdge). TellsFirstParents (both_parents first edge c.0.edges) told old new) is.1
    (tells c.0.edges))) has

-- the first parent is what the first field says, where that is a position
pub told_by_first_field : (layers : List Layer) (pos : ℕ) (first : Position) (second : ParentEdge) (told : CgParent)
    → HasRecord (Some layers) pos (λ r. (edge.GraphPosition first ≡ edge_of r.parent1) × (second ≡ edge_of r.parent2))
    → told ≡ record { code = 0; position = first.0 }
    → HasCommit (Some layers) pos (λ commit. told ≡ told_first (first_of (items_of (parents_in commit))))
told_by_first_field layers pos first second told has tells =
    some_and (slice_get (graph_commits layers) pos)
    (λ c. let r = record_at c.0 c.1 in (edge.GraphPosition first ≡ edge_of r.parent1) × (second ≡ edge_of r.parent2))
    (λ c. told ≡ told_first (first_of (items_of (parents_in c)))) (λ c is. let r = record_at c.0 c.1 in
    subst (λ (edge : ParentEdge). told ≡ told_first (first_of (items_of (both_parents edge (edge_of r.parent2) c.0.edges)))) is.0
    tells) has
