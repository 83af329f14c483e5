-- what is told of the first parents of a commit, as many as there is room for
use Rattle.std.specs.Prelude.{◌≡◌, ℕ, List, length, min, nat_le, if◌then◌else◌, option_map, unwrap_or}
use Rattle.std.specs.Prelude.{Err, None, Ok, Option, Result, Some}
use Rattle.graph_format.specs.Parents.{DecodedParents}
use Rattle.graph_format.specs.declared.Position.{Position}
use Rattle.graph_format.specs.declared.parents.ParentError.{ParentError}
use Rattle.commit_search.specs.Positions.{numbers_of}
use Rattle.c_opening.specs.Answers.{nowhere, written}
use Rattle.c_opening.specs.Codes.{more_parents, parent_code}
use Rattle.commitgraph_c.specs.declared.first_parent.CgParent.{CgParent}
use Rattle.commitgraph_c.specs.declared.parents.CgParents.{CgParents}

-- How many are written, and what comes after them: more parents, the number of the fault, or 0 where these are all.
pub record TellsFirstParents (parents : DecodedParents) (told : CgParents) (old new : List ℕ) : Type 0 where
  pub count_of : told.count ≡ min (length parents.positions) (length old)
  pub code_of : told.code
      ≡ (if nat_le (length parents.positions) (length old)
      then unwrap_or (option_map parent_code parents.fault) 0 else more_parents)
  pub room : new ≡ written (numbers_of parents.positions) old

-- what is told where there is no first parent
abbrev pub no_first : ℕ → CgParent
no_first code = record { code = code; position = nowhere }

-- what is told of the first of a commit's parents: its position, that there is none, or the number of the fault in its place
abbrev pub told_first : Result (Option Position) ParentError → CgParent
told_first (Ok (Some pos)) = record { code = 0; position = pos.0 }
told_first (Ok None) = no_first 0
told_first (Err error) = no_first (parent_code error)
