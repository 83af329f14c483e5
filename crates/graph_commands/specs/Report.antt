-- the lines of what a check and a search found
use Rattle.std.specs.Prelude.{ℕ, List, Option, Some, None, codes, decimal}
use Rattle.std.specs.List.{flat_map}
use Rattle.gix_commitgraph.specs.declared.verify.Outcome.{Outcome}
use Rattle.graph_commands.specs.declared.report.Found.{Found}
use Rattle.graph_commands.specs.Text.{◌⧺◌, newline}

-- a length, or that there is none
abbrev pub longest_text : Option ℕ → List ℕ
longest_text (Some longest) = decimal longest
longest_text None = codes "none"

-- the line of the whole graph
abbrev pub ok_line : Outcome → List ℕ
ok_line outcome =
    codes "ok commits " ⧺ decimal outcome.num_commits ⧺ codes " longest " ⧺ longest_text outcome.longest_path_length ⧺ newline

-- the line of a number of parents, and how many commits have it
abbrev pub count_line : ℕ × ℕ → List ℕ
count_line (parents, commits) = codes "parents " ⧺ decimal parents ⧺ codes " commits " ⧺ decimal commits ⧺ newline

-- what a check found: the line of the graph, and those of the numbers of parents
abbrev pub outcome_text : Outcome → List ℕ
outcome_text outcome = ok_line outcome ⧺ flat_map count_line outcome.parent_counts.entries

-- the text for a commit
abbrev pub commit_text : Found → List ℕ
commit_text found =
    codes "position " ⧺ decimal found.pos.0 ⧺ codes " generation " ⧺ decimal found.generation ⧺ codes " time " ⧺ decimal
    found.time

-- what a search found
abbrev pub found_line : Option Found → List ℕ
found_line (Some found) = commit_text found ⧺ newline
found_line None = codes "none" ⧺ newline
