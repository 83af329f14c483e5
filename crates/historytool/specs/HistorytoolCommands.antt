-- The commands of `historytool`: which words ask for each, and what it may write. The table tables/commands lists the words:
-- is-ancestor PATH HEX HEX, ids PATH [FROM TO] and so on; beside these --help or -h, and --version.
use Rattle.std.specs.Prelude.{◌≡◌, ◌≢◌, ◌⊎◌, ℕ, List, [], ◌∷◌, Some, None, codes, map, string_bytes, Result, Option}
use Rattle.std.specs.Prelude.{◌<◌, ◌^◌, decimal, option_map}
use Rattle.gix_hash_core.specs.Hexadecimal.{SpellsId}
use Rattle.object_commands.specs.AskedRange.{SpellsRange}
use Rattle.historytool.specs.declared.command.Command.{Command}
use Rattle.std.specs.Io.KnownBytes.{Appends, Keeps}
use Rattle.graph_format.specs.Layer.{Layer}
use Rattle.graph_layer.specs.declared.opening.error.OpenError.{OpenError}
use Rattle.graph_commands.specs.Text.{◌⧺◌, newline}
use Rattle.graph_commands.specs.WrittenAnswer.{WritesAnswer}
use Rattle.show_commands.specs.Show.{MayShow, show_text, show_status}
use Rattle.object_commands.specs.CommitIds.{MayListIds, ids_text, ids_status}
use Rattle.object_commands.specs.ComparedObjects.{MayCompareObjects, objects_text, objects_status}
use Rattle.path_commands.specs.ToldPaths.{MayTellPaths, most_trees, paths_text, paths_status}
use Rattle.path_commands.specs.declared.standard.Standard.{Standard}
use Rattle.path_commands.specs.declared.standard.Standard.TheVariants.{Right, Exact}
use Rattle.question_commands.specs.Asking.{MayAsk, ask_text, ask_status}
use Rattle.write_commands.specs.LayerAnswer.{written_text, written_status}
use Rattle.write_commands.specs.WrittenCommits.{MayWriteLayer}
use Rattle.write_commands.specs.MergedCommits.{MayMerge}
use Rattle.history_commands.specs.Check.{MayFindInAll, check_text, check_status}
use Rattle.history_commands.specs.AskedOnce.{MayAskOnce, MayReplyAt}
use Rattle.unchecked_commands.specs.TrustedReplies.{MayReplyTrusted}
use Rattle.newer_commands.specs.AskedNewer.{MayAskNewer, MayReplyNewer}
use Rattle.newer_commands.specs.AskedReply.{asked_text, asked_status}
use Rattle.newer_unchecked.specs.TrustedOnTop.{MayReplyTrustedNewer}
use Rattle.answer_lines.specs.Replies.{response_text, response_status}
use Rattle.answer_lines.specs.declared.reply.Form.{Form}
use Rattle.answer_lines.specs.declared.reply.Form.TheVariants.{Whole, IdsAlone}
use Rattle.question_lines.specs.declared.question.Name.{Name}
use Rattle.question_lines.specs.declared.question.Name.TheVariants as named
use Rattle.unchecked_questions.specs.Trusting.{MayAskTrusted, trusted_text, trusted_status}
use Rattle.historytool.specs.declared.command.AskedGraph.{AskedGraph}
use Rattle.historytool.specs.declared.command.AskedGraph.TheVariants as graph
use Rattle.historytool.specs.declared.command.Command.TheVariants as command

-- a text spells an id, so it is no path of a graph on which newer commits stand
abbrev pub IsId : List ℕ → Type 0
IsId text = (id : List ℕ) × SpellsId text id

abbrev pub StartWithId : List (List ℕ) → Type 0
StartWithId [] = ⊥
StartWithId (text ∷ texts) = IsId text

-- a word says how the graph behind it is asked, so it is no path itself
abbrev pub IsOption : List ℕ → Type 0
IsOption word = (word ≡ codes "--unchecked") ⊎ (word ≡ codes "--newer")

-- a word says how filters are checked, so it is no path itself
abbrev pub IsPathsOption : List ℕ → Type 0
IsPathsOption word = (word ≡ codes "--exact") ⊎ (word ≡ codes "--trees")

-- These are the words of a command about a graph, and ids if it takes some, after the program's own name: the path alone where
-- the graph is checked; the word `--unchecked` before it where it is not; and the word `--newer`, behind that one, where newer
-- commits stand on it, with no path where they stand on none.
abbrev pub AreQuestionWords : List ℕ → AskedGraph → List (List ℕ) → List (List ℕ) → Type 0
AreQuestionWords name (graph.Checked path) ids words = (words ≡ name ∷ path.now ∷ ids) × (¬ IsOption path.now)
AreQuestionWords name (graph.Unchecked path) ids words =
    (words ≡ name ∷ codes "--unchecked" ∷ path.now ∷ ids) × (path.now ≢ codes "--newer")
AreQuestionWords name (graph.Newer None) ids words = (words ≡ name ∷ codes "--newer" ∷ ids) × StartWithId ids
AreQuestionWords name (graph.Newer (Some path)) ids words =
    (words ≡ name ∷ codes "--newer" ∷ path.now ∷ ids) × (¬ IsId path.now)
AreQuestionWords name (graph.NewerUnchecked None) ids words =
    (words ≡ name ∷ codes "--unchecked" ∷ codes "--newer" ∷ ids) × StartWithId ids
AreQuestionWords name (graph.NewerUnchecked (Some path)) ids words =
    (words ≡ name ∷ codes "--unchecked" ∷ codes "--newer" ∷ path.now ∷ ids) × (¬ IsId path.now)

-- These are the words of `paths`: the path alone; the word `--exact` before it where filters have to be those that Git writes;
-- and `--trees` with a number, behind that one, where it is said how many trees may be read.
abbrev pub ArePathsWords : Standard → Option ℕ → List ℕ → List (List ℕ) → Type 0
ArePathsWords Right None path words = (words ≡ codes "paths" ∷ path ∷ []) × (¬ IsPathsOption path)
ArePathsWords Right (Some trees) path words =
    (words ≡ codes "paths" ∷ codes "--trees" ∷ decimal trees ∷ path ∷ []) × (trees < 2 ^ 32)
ArePathsWords Exact None path words = (words ≡ codes "paths" ∷ codes "--exact" ∷ path ∷ []) × (path ≢ codes "--trees")
ArePathsWords Exact (Some trees) path words =
    (words ≡ codes "paths" ∷ codes "--exact" ∷ codes "--trees" ∷ decimal trees ∷ path ∷ []) × (trees < 2 ^ 32)

-- the words after the program's own name ask for this command, given the texts of the help and of the version
abbrev pub AskAfterName : List ℕ → List ℕ → List (List ℕ) → Command → Type 0
AskAfterName help version words (command.Help text) =
    ((words ≡ codes "--help" ∷ []) ⊎ (words ≡ codes "-h" ∷ [])) × (text.now ≡ help)
AskAfterName help version words (command.Version text) = (words ≡ codes "--version" ∷ []) × (text.now ≡ version)
AskAfterName help version words (command.IsAncestor pair) =
    AreQuestionWords (codes "is-ancestor") pair.graph (pair.first.now ∷ pair.second.now ∷ []) words
AskAfterName help version words (command.Walk pair) =
    AreQuestionWords (codes "walk") pair.graph (pair.first.now ∷ pair.second.now ∷ []) words
AskAfterName help version words (command.MergeBase group) =
    AreQuestionWords (codes "merge-base") group.graph (group.first.now ∷ map string_bytes group.others.now) words
    × (group.others.now ≢ [])
AskAfterName help version words (command.MergeBaseIds group) =
    AreQuestionWords (codes "merge-base-ids") group.graph (group.first.now ∷ map string_bytes group.others.now) words
    × (group.others.now ≢ [])
AskAfterName help version words (command.Check path) = words ≡ codes "check" ∷ path.now ∷ []
AskAfterName help version words (command.Show path) = words ≡ codes "show" ∷ path.now ∷ []
AskAfterName help version words (command.Ask path) = AreQuestionWords (codes "ask") (graph.Checked path) [] words
AskAfterName help version words (command.AskUnchecked path) = AreQuestionWords (codes "ask") (graph.Unchecked path) [] words
AskAfterName help version words (command.Ids path None) = words ≡ codes "ids" ∷ path.now ∷ []
AskAfterName help version words (command.Ids path (Some range)) =
    (from to : List ℕ) × (words ≡ codes "ids" ∷ path.now ∷ from ∷ to ∷ []) × SpellsRange from to range
AskAfterName help version words (command.Objects path None) = words ≡ codes "objects" ∷ path.now ∷ []
AskAfterName help version words (command.Objects path (Some range)) =
    (from to : List ℕ) × (words ≡ codes "objects" ∷ path.now ∷ from ∷ to ∷ []) × SpellsRange from to range
AskAfterName help version words (command.Paths path standard trees) = ArePathsWords standard trees path.now words
AskAfterName help version words (command.Write None) = words ≡ codes "write" ∷ []
AskAfterName help version words (command.Write (Some path)) = words ≡ codes "write" ∷ path.now ∷ []
AskAfterName help version words (command.Merge path) = words ≡ codes "merge" ∷ path.now ∷ []

-- the words of a command line ask for this command; the first of them is the program's own name
abbrev pub AskHistorytool : List ℕ → List ℕ → List (List ℕ) → Command → Type 0
AskHistorytool help version words asked =
    (name : List ℕ) × (others : List (List ℕ)) × (words ≡ name ∷ others) × AskAfterName help version others asked

-- a text is written, and the status is 0
abbrev pub TellsOfItself : List ℕ → Option (List ℕ) → Option (List ℕ) → ℕ → Type 0
TellsOfItself text old new status = Appends old new (text ⧺ newline) × (status ≡ 0)

-- an answer to the question of a name about the ids that texts spell: one that its command may give, where the graph is checked;
-- one that it may give where it is not; or one about the graph, or none, and the newer commits that are asked for, over a graph
-- that is checked, or over one that is not
abbrev pub TellsOf : AskedGraph → Form → Name → List (List ℕ) → Option (List ℕ) → Option (List ℕ) → Type 0
    → (List ℕ → ℕ → ℕ → Result (List Layer) OpenError → Type 0) → ℕ → ℕ → Option (List ℕ) → Option (List ℕ) → ℕ → Type 0
TellsOf (graph.Checked path) form name texts input unread IsLeftAlone MayOpenAt before after old new status =
    WritesAnswer (response_text form) response_status
    (MayAskOnce name texts IsLeftAlone (MayReplyAt (MayOpenAt path.now before after))) old new status
TellsOf (graph.Unchecked path) form name texts input unread IsLeftAlone MayOpenAt before after old new status =
    WritesAnswer (response_text form) response_status
    (MayAskOnce name texts IsLeftAlone (MayReplyTrusted (MayOpenAt path.now) before after)) old new status
TellsOf (graph.Newer path) form name texts input unread IsLeftAlone MayOpenAt before after old new status =
    WritesAnswer (asked_text form) asked_status
    (MayAskNewer name texts (IsLeftAlone × Keeps input unread)
    (MayReplyNewer (option_map (λ p. p.now) path) IsLeftAlone (λ at. MayOpenAt at before after) input unread)) old new status
TellsOf (graph.NewerUnchecked path) form name texts input unread IsLeftAlone MayOpenAt before after old new status =
    WritesAnswer (asked_text form) asked_status
    (MayAskNewer name texts (IsLeftAlone × Keeps input unread)
    (MayReplyTrustedNewer (option_map (λ p. p.now) path) IsLeftAlone MayOpenAt before after input unread)) old new status

-- an answer that the command may give is written, with its status: help and version leave the folder alone; each other command
-- answers of what the opener may answer at its path, while the count of failures goes from `before` to `after`, where it has a
-- path; `ask` of what it may answer in several calls, one after another. `objects`, `ask`, `paths`, `write` and
-- questions about newer commits answer of what the input has left before and after, where that is known; none of the others
-- asks for it
abbrev pub HistorytoolMayWrite : Command → Option (List ℕ) → Option (List ℕ) → Type 0
    → (List ℕ → ℕ → ℕ → Result (List Layer) OpenError → Type 0) → ℕ → ℕ → Option (List ℕ) → Option (List ℕ) → ℕ → Type 0
HistorytoolMayWrite (command.Help text) input unread IsLeftAlone MayOpenAt before after old new status =
    IsLeftAlone × TellsOfItself text.now old new status
HistorytoolMayWrite (command.Version text) input unread IsLeftAlone MayOpenAt before after old new status =
    IsLeftAlone × TellsOfItself text.now old new status
HistorytoolMayWrite (command.IsAncestor pair) input unread IsLeftAlone MayOpenAt before after old new status =
    TellsOf pair.graph Whole named.IsAncestor (pair.first.now ∷ pair.second.now ∷ []) input unread
    IsLeftAlone MayOpenAt before after old new status
HistorytoolMayWrite (command.Walk pair) input unread IsLeftAlone MayOpenAt before after old new status =
    TellsOf pair.graph Whole named.Walk (pair.first.now ∷ pair.second.now ∷ []) input unread
    IsLeftAlone MayOpenAt before after old new status
HistorytoolMayWrite (command.MergeBase group) input unread IsLeftAlone MayOpenAt before after old new status =
    TellsOf group.graph Whole named.MergeBase (group.first.now ∷ map string_bytes group.others.now) input unread
    IsLeftAlone MayOpenAt before after old new status
HistorytoolMayWrite (command.MergeBaseIds group) input unread IsLeftAlone MayOpenAt before after old new status =
    TellsOf group.graph IdsAlone named.MergeBase (group.first.now ∷ map string_bytes group.others.now) input unread
    IsLeftAlone MayOpenAt before after old new status
HistorytoolMayWrite (command.Check path) input unread IsLeftAlone MayOpenAt before after old new status =
    WritesAnswer check_text check_status (MayFindInAll (MayOpenAt path.now before after)) old new status
HistorytoolMayWrite (command.Show path) input unread IsLeftAlone MayOpenAt before after old new status =
    WritesAnswer show_text show_status (MayShow (MayOpenAt path.now before after)) old new status
HistorytoolMayWrite (command.Ask path) input unread IsLeftAlone MayOpenAt before after old new status =
    WritesAnswer ask_text ask_status (MayAsk (λ _. MayOpenAt path.now) before after input unread) old new status
HistorytoolMayWrite (command.AskUnchecked path) input unread IsLeftAlone MayOpenAt before after old new status =
    WritesAnswer trusted_text trusted_status (MayAskTrusted (MayOpenAt path.now) before after input unread) old new status
HistorytoolMayWrite (command.Ids path range) input unread IsLeftAlone MayOpenAt before after old new status =
    WritesAnswer ids_text ids_status (MayListIds range (MayOpenAt path.now before after)) old new status
HistorytoolMayWrite (command.Objects path range) input unread IsLeftAlone MayOpenAt before after old new status =
    WritesAnswer objects_text objects_status
    (MayCompareObjects range input unread (MayOpenAt path.now before after)) old new status
HistorytoolMayWrite (command.Paths path standard trees) input unread IsLeftAlone MayOpenAt before after old new status =
    WritesAnswer paths_text paths_status
    (MayTellPaths standard (most_trees trees) input unread (MayOpenAt path.now before after)) old new status
HistorytoolMayWrite (command.Write path) input unread IsLeftAlone MayOpenAt before after old new status =
    WritesAnswer written_text written_status
    (MayWriteLayer (option_map (λ p. p.now) path) IsLeftAlone (λ at. MayOpenAt at before after) input unread) old new status
HistorytoolMayWrite (command.Merge path) input unread IsLeftAlone MayOpenAt before after old new status =
    WritesAnswer written_text written_status (MayMerge (MayOpenAt path.now before after)) old new status
