-- Which names ask for commands, by the number of words after them.
use Rattle.std.proofs.Common.{◌≡◌, ◌≢◌, ◌⊎◌, ℕ, ◌-◌, ◌<◌, ◌≤◌, List, [], ◌∷◌, length, map, get_or, take, drop}
use Rattle.std.proofs.Common.{inl, inr, refl, sym, ap, subst, string_bytes, ◌∙◌, arith}
use Rattle.std.proofs.lemmas.List.{length-map, take_all}
use Rattle.hex.proofs.HexLemmas.{decode_of-ok}
use Rattle.gix_hash_core.specs.Hexadecimal.{SpellsId, SpellsNone}
use Rattle.gix_hash_core.specs.declared.object_id.IdError.{IdError}
use Rattle.gix_hash_core.specs.declared.object_id.IdError.TheVariants.{Length, Digit}
use Rattle.std.specs.Prelude.{◌↔◌, ◌^◌, String, Option, Some, None, IfSome, IfOk, IfErr, IsTrue, codes, decimal}
use Rattle.std.specs.Prelude.{Bool, Result, Ok, Err, is_ok}
use Rattle.std.specs.Global.{Global}
use Rattle.object_commands.specs.AskedRange.{SpellsRange}
use Rattle.object_commands.specs.declared.range.PositionRange.{PositionRange}
use Rattle.path_commands.specs.declared.standard.Standard.{Standard}
use Rattle.path_commands.specs.declared.standard.Standard.TheVariants.{Right, Exact}
use Rattle.historytool.specs.HistorytoolCommands.{ArePathsWords, AreQuestionWords, AskAfterName, AskHistorytool, IsId, IsOption}
use Rattle.historytool.specs.HistorytoolCommands.{IsPathsOption}
use Rattle.historytool.specs.declared.command.AskedGraph.{AskedGraph}
use Rattle.historytool.specs.declared.command.AskedGraph.TheVariants as on
use Rattle.historytool.specs.declared.command.Command.{Command}
use Rattle.historytool.specs.declared.command.Command.TheVariants as command

-- the two words that say how a graph is asked are not the same
apart : codes "--unchecked" ≡ codes "--newer" → ⊥
apart same = cc

-- the words of a question are its name and two more or others
long : (name one : List ℕ) (graph : AskedGraph) (more words : List (List ℕ))
    → AreQuestionWords name graph (one ∷ more) words
    → (second third : List ℕ) × (others : List (List ℕ)) × (words ≡ name ∷ second ∷ third ∷ others)
long name one (on.Checked path) more words is = (path.now, one, more, is.0)
long name one (on.Unchecked path) more words is = (codes "--unchecked", path.now, one ∷ more, is.0)
long name one (on.Newer None) more words is = (codes "--newer", one, more, is.0)
long name one (on.Newer (Some path)) more words is = (codes "--newer", path.now, one ∷ more, is.0)
long name one (on.NewerUnchecked None) more words is = (codes "--unchecked", codes "--newer", one ∷ more, is.0)
long name one (on.NewerUnchecked (Some path)) more words is =
    (codes "--unchecked", codes "--newer", path.now ∷ one ∷ more, is.0)

-- the words of `paths` begin with its name, and go on
paths_name : (standard : Standard) (trees : Option ℕ) (at name : List ℕ) (words : List (List ℕ))
    → ArePathsWords standard trees at (name ∷ words) → name ≡ codes "paths"
paths_name Right None at name words is = let e = is.0 in cc
paths_name Right (Some trees) at name words is = let e = is.0 in cc
paths_name Exact None at name words is = let e = is.0 in cc
paths_name Exact (Some trees) at name words is = let e = is.0 in cc

paths_some : (standard : Standard) (trees : Option ℕ) (at : List ℕ) → ¬ ArePathsWords standard trees at []
paths_some Right None at is = let e = is.0 in cc
paths_some Right (Some trees) at is = let e = is.0 in cc
paths_some Exact None at is = let e = is.0 in cc
paths_some Exact (Some trees) at is = let e = is.0 in cc

paths_more : (standard : Standard) (trees : Option ℕ) (at name : List ℕ) → ¬ ArePathsWords standard trees at (name ∷ [])
paths_more Right None at name is = let e = is.0 in cc
paths_more Right (Some trees) at name is = let e = is.0 in cc
paths_more Exact None at name is = let e = is.0 in cc
paths_more Exact (Some trees) at name is = let e = is.0 in cc

-- the word behind it is no option, if it is the last
paths_last : (standard : Standard) (trees : Option ℕ) (at name word : List ℕ)
    → ArePathsWords standard trees at (name ∷ word ∷ []) → ¬ IsPathsOption word
paths_last Right None at name word is =
    let e = is.0 in let same : at ≡ word = cc in subst (λ (w : List ℕ). ¬ IsPathsOption w) same is.1
paths_last Right (Some trees) at name word is = let e = is.0 in cc
paths_last Exact None at name word is = let e = is.0 in cc
paths_last Exact (Some trees) at name word is = let e = is.0 in cc

-- the options of `paths` are not the same, and the words behind each
paths_apart : codes "--exact" ≡ codes "--trees" → ⊥
paths_apart same =
    let third : ◌≡◌ {A = ℕ} 101 116 = ap (λ (word : List ℕ). get_or word 2 0) same in omega arith

pub limited_words : (standard : Standard) (trees : Option ℕ) (at number : List ℕ) (others : List (List ℕ))
    → ArePathsWords standard trees at (codes "paths" ∷ codes "--trees" ∷ number ∷ others)
    → (n : ℕ) × (number ≡ decimal n) × (n < 2 ^ 32) × (others ≡ at ∷ [])
limited_words Right None at number others is = let e = is.0 in cc
limited_words Right (Some n) at number others is = let e = is.0 in (n, cc, is.1, cc)
limited_words Exact None at number others is =
    let e = is.0 in let same : codes "--exact" ≡ codes "--trees" = cc in absurd (paths_apart same)
limited_words Exact (Some n) at number others is =
    let e = is.0 in let same : codes "--exact" ≡ codes "--trees" = cc in absurd (paths_apart same)

pub exact_words : (standard : Standard) (trees : Option ℕ) (at first : List ℕ) (others : List (List ℕ))
    → ArePathsWords standard trees at (codes "paths" ∷ codes "--exact" ∷ first ∷ others)
    → ((first ≢ codes "--trees") × (others ≡ []))
    ⊎ ((n : ℕ) × (first ≡ codes "--trees") × (n < 2 ^ 32) × (others ≡ decimal n ∷ at ∷ []))
exact_words Right None at first others is = let e = is.0 in cc
exact_words Right (Some n) at first others is =
    let e = is.0 in let same : codes "--exact" ≡ codes "--trees" = cc in absurd (paths_apart same)
exact_words Exact None at first others is =
    let e = is.0 in let same : at ≡ first = cc in inl (subst (λ (w : List ℕ). w ≢ codes "--trees") same is.1, cc)
exact_words Exact (Some n) at first others is = let e = is.0 in inr (n, cc, is.1, cc)

-- as many words behind an option as it takes
pub limited_count : (standard : Standard) (trees : Option ℕ) (at number : List ℕ) (others : List (String Global))
    → ArePathsWords standard trees at (codes "paths" ∷ codes "--trees" ∷ number ∷ map string_bytes others)
    → length others ≡ 1
limited_count standard trees at number others is =
    let words = limited_words standard trees at number (map string_bytes others) is in
    sym (length-map others string_bytes) ∙ ap length words.3

pub exact_count : (standard : Standard) (trees : Option ℕ) (at first : List ℕ) (others : List (String Global))
    → ArePathsWords standard trees at (codes "paths" ∷ codes "--exact" ∷ first ∷ map string_bytes others)
    → ((first ≢ codes "--trees") × (length others ≡ 0)) ⊎ ((first ≡ codes "--trees") × (length others ≡ 2))
exact_count standard trees at first others is =
    elim (exact_words standard trees at first (map string_bytes others) is) [
      | inl plain ↦ inl (plain.0, sym (length-map others string_bytes) ∙ ap length plain.1)
      | inr limited ↦ inr (limited.1, sym (length-map others string_bytes) ∙ ap length limited.3)
    ]

-- a name that asks alone
pub named_alone : (help version name : List ℕ) (asked : Command) → AskAfterName help version (name ∷ []) asked
    → (name ≡ codes "--help") ⊎ (name ≡ codes "-h") ⊎ (name ≡ codes "--version") ⊎ (name ≡ codes "write")
named_alone help version name (command.Help text) is = elim is.0 [ inl e ↦ inl cc | inr e ↦ inr (inl cc) ]
named_alone help version name (command.Version text) is = let e = is.0 in inr (inr (inl cc))
named_alone help version name (command.IsAncestor pair) is =
    let more = pair.second.now ∷ [] in
    let e = (long (codes "is-ancestor") pair.first.now pair.graph more (name ∷ []) is).3 in cc
named_alone help version name (command.Walk pair) is =
    let more = pair.second.now ∷ [] in
    let e = (long (codes "walk") pair.first.now pair.graph more (name ∷ []) is).3 in cc
named_alone help version name (command.MergeBase group) is =
    let more = map string_bytes group.others.now in
    let e = (long (codes "merge-base") group.first.now group.graph more (name ∷ []) is.0).3 in cc
named_alone help version name (command.MergeBaseIds group) is =
    let more = map string_bytes group.others.now in
    let e = (long (codes "merge-base-ids") group.first.now group.graph more (name ∷ []) is.0).3 in cc
named_alone help version name (command.Check path) is = let e = is in cc
named_alone help version name (command.Show path) is = let e = is in cc
named_alone help version name (command.Ask path) is = let e = is.0 in cc
named_alone help version name (command.AskUnchecked path) is = let e = is.0 in cc
named_alone help version name (command.Ids path None) is = let e = is in cc
named_alone help version name (command.Ids path (Some range)) is = let e = is.2 in cc
named_alone help version name (command.Objects path None) is = let e = is in cc
named_alone help version name (command.Objects path (Some range)) is = let e = is.2 in cc
named_alone help version name (command.Paths path standard trees) is = absurd (paths_more standard trees path.now name is)
named_alone help version name (command.Write None) is = let e = is in inr (inr (inr cc))
named_alone help version name (command.Write (Some path)) is = let e = is in cc
named_alone help version name (command.Merge path) is = let e = is in cc

-- a name that asks with a path
pub named_with_path : (help version name path : List ℕ) (asked : Command) → AskAfterName help version (name ∷ path ∷ []) asked
    → (name ≡ codes "check") ⊎ (name ≡ codes "show") ⊎ ((name ≡ codes "ask") × (¬ IsOption path))
    ⊎ (name ≡ codes "ids") ⊎ (name ≡ codes "objects")
    ⊎ (name ≡ codes "write") ⊎ (name ≡ codes "merge") ⊎ ((name ≡ codes "paths") × (¬ IsPathsOption path))
named_with_path help version name path (command.Help text) is = elim is.0 [ inl e ↦ cc | inr e ↦ cc ]
named_with_path help version name path (command.Version text) is = let e = is.0 in cc
named_with_path help version name path (command.IsAncestor pair) is =
    let more = pair.second.now ∷ [] in
    let e = (long (codes "is-ancestor") pair.first.now pair.graph more (name ∷ path ∷ []) is).3 in cc
named_with_path help version name path (command.Walk pair) is =
    let more = pair.second.now ∷ [] in
    let e = (long (codes "walk") pair.first.now pair.graph more (name ∷ path ∷ []) is).3 in cc
named_with_path help version name path (command.MergeBase group) is =
    let more = map string_bytes group.others.now in
    let e = (long (codes "merge-base") group.first.now group.graph more (name ∷ path ∷ []) is.0).3 in cc
named_with_path help version name path (command.MergeBaseIds group) is =
    let more = map string_bytes group.others.now in
    let e = (long (codes "merge-base-ids") group.first.now group.graph more (name ∷ path ∷ []) is.0).3 in cc
named_with_path help version name path (command.Check at) is = let e = is in inl cc
named_with_path help version name path (command.Show at) is = let e = is in inr (inl cc)
named_with_path help version name path (command.Ask at) is =
    let e = is.0 in let same : at.now ≡ path = cc in
    inr (inr (inl (cc, subst (λ (p : List ℕ). ¬ IsOption p) same is.1)))
named_with_path help version name path (command.AskUnchecked at) is = let e = is.0 in cc
named_with_path help version name path (command.Ids at None) is = let e = is in inr (inr (inr (inl cc)))
named_with_path help version name path (command.Ids at (Some range)) is = let e = is.2 in cc
named_with_path help version name path (command.Objects at None) is = let e = is in inr (inr (inr (inr (inl cc))))
named_with_path help version name path (command.Objects at (Some range)) is = let e = is.2 in cc
named_with_path help version name path (command.Paths at standard trees) is =
    let named = paths_name standard trees at.now name (path ∷ []) is in
    inr (inr (inr (inr (inr (inr (inr (named, paths_last standard trees at.now name path is)))))))
named_with_path help version name path (command.Write None) is = let e = is in cc
named_with_path help version name path (command.Write (Some at)) is = let e = is in inr (inr (inr (inr (inr (inl cc)))))
named_with_path help version name path (command.Merge at) is = let e = is in inr (inr (inr (inr (inr (inr (inl cc))))))

just_one : (others : List (String Global)) (other : List ℕ) → map string_bytes others ≡ other ∷ [] → length others ≡ 1
just_one others other are = sym (length-map others string_bytes) ∙ ap length are

no_others : (others : List (String Global)) → map string_bytes others ≡ [] → others ≡ []
no_others [] none = refl
no_others (other ∷ others) none = cc

-- the name of a question about two ids, and its words
abbrev pub IsOfTwo : List ℕ → Type 0
IsOfTwo name = (name ≡ codes "is-ancestor") ⊎ (name ≡ codes "walk")

abbrev pub AskOfTwo : List ℕ → List (List ℕ) → Type 0
AskOfTwo name words =
    (graph : AskedGraph) × (one other : List ℕ) × AreQuestionWords name graph (one ∷ other ∷ []) words

-- the same of a question about one id and some others
abbrev pub IsOfMany : List ℕ → Type 0
IsOfMany name = (name ≡ codes "merge-base") ⊎ (name ≡ codes "merge-base-ids")

abbrev pub AskOfMany : List ℕ → List (List ℕ) → Type 0
AskOfMany name words =
    (graph : AskedGraph) × (one other : List ℕ) × (more : List (List ℕ))
    × AreQuestionWords name graph (one ∷ other ∷ more) words

-- the name of a command that takes a range, and that it is one
abbrev pub IsOfRange : List ℕ → Type 0
IsOfRange name = (name ≡ codes "ids") ⊎ (name ≡ codes "objects")

abbrev pub AskOfRange : List ℕ → List (String Global) → Type 0
AskOfRange first others =
    (to : List ℕ) × (range : PositionRange) × (map string_bytes others ≡ to ∷ []) × SpellsRange first to range

-- the words behind `paths`, which have an option
abbrev pub AskOfPaths : List ℕ → List ℕ → List (String Global) → Type 0
AskOfPaths option first others =
    (standard : Standard) × (trees : Option ℕ) × (at : List ℕ)
    × ArePathsWords standard trees at (codes "paths" ∷ option ∷ first ∷ map string_bytes others)

-- which name asks with a path and ids, and with which words
abbrev pub NamedWithIds : List ℕ → List ℕ → List ℕ → List (String Global) → Type 0
NamedWithIds name path first others =
    (IsOfTwo name × AskOfTwo name (name ∷ path ∷ first ∷ map string_bytes others))
    ⊎ (IsOfRange name × AskOfRange first others)
    ⊎ (IsOfMany name × AskOfMany name (name ∷ path ∷ first ∷ map string_bytes others))
    ⊎ ((name ≡ codes "ask") × (path ≡ codes "--unchecked") × (first ≢ codes "--newer") × (others ≡ []))
    ⊎ ((name ≡ codes "paths") × AskOfPaths path first others)

-- the name of a question is the first of its words
named : (name other one : List ℕ) (graph : AskedGraph) (more rest : List (List ℕ))
    → AreQuestionWords other graph (one ∷ more) (name ∷ rest)
    → (name ≡ other) × AreQuestionWords name graph (one ∷ more) (name ∷ rest)
named name other one (on.Checked path) more rest is = let e = is.0 in (cc, (cc, is.1))
named name other one (on.Unchecked path) more rest is = let e = is.0 in (cc, (cc, is.1))
named name other one (on.Newer None) more rest is = let e = is.0 in (cc, (cc, is.1))
named name other one (on.Newer (Some path)) more rest is = let e = is.0 in (cc, (cc, is.1))
named name other one (on.NewerUnchecked None) more rest is = let e = is.0 in (cc, (cc, is.1))
named name other one (on.NewerUnchecked (Some path)) more rest is = let e = is.0 in (cc, (cc, is.1))

-- where there are others, there is a first of them
many : (name one : List ℕ) (graph : AskedGraph) (others : List (String Global)) (words : List (List ℕ))
    → AreQuestionWords name graph (one ∷ map string_bytes others) words → (others ≡ [] → ⊥) → AskOfMany name words
many name one graph [] words is some = absurd (some refl)
many name one graph (other ∷ others) words is some = (graph, one, string_bytes other, map string_bytes others, is)

range_asked : (name first from to other : List ℕ) (path at : List ℕ) (others : List (String Global)) (range : PositionRange)
    → name ∷ path ∷ first ∷ map string_bytes others ≡ other ∷ at ∷ from ∷ to ∷ [] → SpellsRange from to range
    → (name ≡ other) × AskOfRange first others
range_asked name first from to other path at others range words spells =
    let same : from ≡ first = cc in
    (cc, (to, range, cc, subst (λ (t : List ℕ). SpellsRange t to range) same spells))

pub named_with_ids : (help version name path first : List ℕ) (others : List (String Global)) (asked : Command)
    → AskAfterName help version (name ∷ path ∷ first ∷ map string_bytes others) asked → NamedWithIds name path first others
named_with_ids help version name path first others (command.Help text) is = elim is.0 [ inl e ↦ cc | inr e ↦ cc ]
named_with_ids help version name path first others (command.Version text) is = let e = is.0 in cc
named_with_ids help version name path first others (command.IsAncestor pair) is =
    let both =
    named name (codes "is-ancestor") pair.first.now pair.graph (pair.second.now ∷ [])
    (path ∷ first ∷ map string_bytes others) is in
    inl (inl both.0, (pair.graph, pair.first.now, pair.second.now, both.1))
named_with_ids help version name path first others (command.Walk pair) is =
    let both =
    named name (codes "walk") pair.first.now pair.graph (pair.second.now ∷ [])
    (path ∷ first ∷ map string_bytes others) is in
    inl (inr both.0, (pair.graph, pair.first.now, pair.second.now, both.1))
named_with_ids help version name path first others (command.MergeBase group) is =
    let both =
    named name (codes "merge-base") group.first.now group.graph (map string_bytes group.others.now)
    (path ∷ first ∷ map string_bytes others) is.0 in
    inr (inr (inl (inl both.0, many name group.first.now group.graph group.others.now _ both.1 is.1)))
named_with_ids help version name path first others (command.MergeBaseIds group) is =
    let both =
    named name (codes "merge-base-ids") group.first.now group.graph (map string_bytes group.others.now)
    (path ∷ first ∷ map string_bytes others) is.0 in
    inr (inr (inl (inr both.0, many name group.first.now group.graph group.others.now _ both.1 is.1)))
named_with_ids help version name path first others (command.Check at) is = let e = is in cc
named_with_ids help version name path first others (command.Show at) is = let e = is in cc
named_with_ids help version name path first others (command.Ask at) is = let e = is.0 in cc
named_with_ids help version name path first others (command.AskUnchecked at) is =
    let e = is.0 in
    let none : map string_bytes others ≡ [] = cc in inr (inr (inr (inl (cc, cc, λ newer. is.1 cc, no_others others none))))
named_with_ids help version name path first others (command.Ids at None) is = let e = is in cc
named_with_ids help version name path first others (command.Ids at (Some range)) is =
    let both = range_asked name first is.0 is.1 (codes "ids") path at.now others range is.2 is.3 in
    inr (inl (inl both.0, both.1))
named_with_ids help version name path first others (command.Objects at None) is = let e = is in cc
named_with_ids help version name path first others (command.Objects at (Some range)) is =
    let both = range_asked name first is.0 is.1 (codes "objects") path at.now others range is.2 is.3 in
    inr (inl (inr both.0, both.1))
named_with_ids help version name path first others (command.Paths at standard trees) is =
    let named = paths_name standard trees at.now name (path ∷ first ∷ map string_bytes others) is in
    let words = subst
    (λ (n : List ℕ). ArePathsWords standard trees at.now (n ∷ path ∷ first ∷ map string_bytes others)) named is in
    inr (inr (inr (inr (named, (standard, trees, at.now, words)))))
named_with_ids help version name path first others (command.Write None) is = let e = is in cc
named_with_ids help version name path first others (command.Write (Some at)) is = let e = is in cc
named_with_ids help version name path first others (command.Merge at) is = let e = is in cc

-- words that are those of two questions have the same ids
as_many_words : (name one other : List ℕ) (graph asks : AskedGraph) (more those words : List (List ℕ))
    → AreQuestionWords name graph (one ∷ more) words → AreQuestionWords name asks (other ∷ those) words
    → one ∷ more ≡ other ∷ those
as_many_words name one other (on.Checked path) (on.Checked at) more those words is are = let e = is.0 in let f = are.0 in cc
as_many_words name one other (on.Checked path) (on.Unchecked at) more those words is are =
    let e = is.0 in let f = are.0 in let same : path.now ≡ codes "--unchecked" = cc in absurd (is.1 (inl same))
as_many_words name one other (on.Checked path) (on.Newer None) more those words is are =
    let e = is.0 in let f = are.0 in let same : path.now ≡ codes "--newer" = cc in absurd (is.1 (inr same))
as_many_words name one other (on.Checked path) (on.Newer (Some at)) more those words is are =
    let e = is.0 in let f = are.0 in let same : path.now ≡ codes "--newer" = cc in absurd (is.1 (inr same))
as_many_words name one other (on.Checked path) (on.NewerUnchecked None) more those words is are =
    let e = is.0 in let f = are.0 in let same : path.now ≡ codes "--unchecked" = cc in absurd (is.1 (inl same))
as_many_words name one other (on.Checked path) (on.NewerUnchecked (Some at)) more those words is are =
    let e = is.0 in let f = are.0 in let same : path.now ≡ codes "--unchecked" = cc in absurd (is.1 (inl same))
as_many_words name one other (on.Unchecked path) (on.Checked at) more those words is are =
    let e = is.0 in let f = are.0 in let same : at.now ≡ codes "--unchecked" = cc in absurd (are.1 (inl same))
as_many_words name one other (on.Unchecked path) (on.Unchecked at) more those words is are =
    let e = is.0 in let f = are.0 in cc
as_many_words name one other (on.Unchecked path) (on.Newer None) more those words is are =
    let e = is.0 in let f = are.0 in let same : codes "--unchecked" ≡ codes "--newer" = cc in absurd (apart same)
as_many_words name one other (on.Unchecked path) (on.Newer (Some at)) more those words is are =
    let e = is.0 in let f = are.0 in let same : codes "--unchecked" ≡ codes "--newer" = cc in absurd (apart same)
as_many_words name one other (on.Unchecked path) (on.NewerUnchecked None) more those words is are =
    let e = is.0 in let f = are.0 in let same : path.now ≡ codes "--newer" = cc in absurd (is.1 same)
as_many_words name one other (on.Unchecked path) (on.NewerUnchecked (Some at)) more those words is are =
    let e = is.0 in let f = are.0 in let same : path.now ≡ codes "--newer" = cc in absurd (is.1 same)
as_many_words name one other (on.Newer None) (on.Checked at) more those words is are =
    let e = is.0 in let f = are.0 in let same : at.now ≡ codes "--newer" = cc in absurd (are.1 (inr same))
as_many_words name one other (on.Newer None) (on.Unchecked at) more those words is are =
    let e = is.0 in let f = are.0 in let same : codes "--unchecked" ≡ codes "--newer" = cc in absurd (apart same)
as_many_words name one other (on.Newer None) (on.Newer None) more those words is are = let e = is.0 in let f = are.0 in cc
as_many_words name one other (on.Newer None) (on.Newer (Some at)) more those words is are =
    let e = is.0 in let f = are.0 in let same : one ≡ at.now = cc in absurd (are.1 (subst IsId same is.1))
as_many_words name one other (on.Newer None) (on.NewerUnchecked None) more those words is are =
    let e = is.0 in let f = are.0 in let same : codes "--unchecked" ≡ codes "--newer" = cc in absurd (apart same)
as_many_words name one other (on.Newer None) (on.NewerUnchecked (Some at)) more those words is are =
    let e = is.0 in let f = are.0 in let same : codes "--unchecked" ≡ codes "--newer" = cc in absurd (apart same)
as_many_words name one other (on.Newer (Some path)) (on.Checked at) more those words is are =
    let e = is.0 in let f = are.0 in let same : at.now ≡ codes "--newer" = cc in absurd (are.1 (inr same))
as_many_words name one other (on.Newer (Some path)) (on.Unchecked at) more those words is are =
    let e = is.0 in let f = are.0 in let same : codes "--unchecked" ≡ codes "--newer" = cc in absurd (apart same)
as_many_words name one other (on.Newer (Some path)) (on.Newer None) more those words is are =
    let e = is.0 in let f = are.0 in let same : other ≡ path.now = cc in absurd (is.1 (subst IsId same are.1))
as_many_words name one other (on.Newer (Some path)) (on.Newer (Some at)) more those words is are =
    let e = is.0 in let f = are.0 in cc
as_many_words name one other (on.Newer (Some path)) (on.NewerUnchecked None) more those words is are =
    let e = is.0 in let f = are.0 in let same : codes "--unchecked" ≡ codes "--newer" = cc in absurd (apart same)
as_many_words name one other (on.Newer (Some path)) (on.NewerUnchecked (Some at)) more those words is are =
    let e = is.0 in let f = are.0 in let same : codes "--unchecked" ≡ codes "--newer" = cc in absurd (apart same)
as_many_words name one other (on.NewerUnchecked None) (on.Checked at) more those words is are =
    let e = is.0 in let f = are.0 in let same : at.now ≡ codes "--unchecked" = cc in absurd (are.1 (inl same))
as_many_words name one other (on.NewerUnchecked None) (on.Unchecked at) more those words is are =
    let e = is.0 in let f = are.0 in let same : at.now ≡ codes "--newer" = cc in absurd (are.1 same)
as_many_words name one other (on.NewerUnchecked None) (on.Newer None) more those words is are =
    let e = is.0 in let f = are.0 in let same : codes "--unchecked" ≡ codes "--newer" = cc in absurd (apart same)
as_many_words name one other (on.NewerUnchecked None) (on.Newer (Some at)) more those words is are =
    let e = is.0 in let f = are.0 in let same : codes "--unchecked" ≡ codes "--newer" = cc in absurd (apart same)
as_many_words name one other (on.NewerUnchecked None) (on.NewerUnchecked None) more those words is are =
    let e = is.0 in let f = are.0 in cc
as_many_words name one other (on.NewerUnchecked None) (on.NewerUnchecked (Some at)) more those words is are =
    let e = is.0 in let f = are.0 in let same : one ≡ at.now = cc in absurd (are.1 (subst IsId same is.1))
as_many_words name one other (on.NewerUnchecked (Some path)) (on.Checked at) more those words is are =
    let e = is.0 in let f = are.0 in let same : at.now ≡ codes "--unchecked" = cc in absurd (are.1 (inl same))
as_many_words name one other (on.NewerUnchecked (Some path)) (on.Unchecked at) more those words is are =
    let e = is.0 in let f = are.0 in let same : at.now ≡ codes "--newer" = cc in absurd (are.1 same)
as_many_words name one other (on.NewerUnchecked (Some path)) (on.Newer None) more those words is are =
    let e = is.0 in let f = are.0 in let same : codes "--unchecked" ≡ codes "--newer" = cc in absurd (apart same)
as_many_words name one other (on.NewerUnchecked (Some path)) (on.Newer (Some at)) more those words is are =
    let e = is.0 in let f = are.0 in let same : codes "--unchecked" ≡ codes "--newer" = cc in absurd (apart same)
as_many_words name one other (on.NewerUnchecked (Some path)) (on.NewerUnchecked None) more those words is are =
    let e = is.0 in let f = are.0 in let same : other ≡ path.now = cc in absurd (is.1 (subst IsId same are.1))
as_many_words name one other (on.NewerUnchecked (Some path)) (on.NewerUnchecked (Some at)) more those words is are =
    let e = is.0 in let f = are.0 in cc

-- where one other id is asked for, there is just one
pub two_words : (name first one other : List ℕ) (graph asks : AskedGraph) (others : List (String Global))
    (words : List (List ℕ)) → AreQuestionWords name graph (first ∷ map string_bytes others) words
    → AreQuestionWords name asks (one ∷ other ∷ []) words → length others ≡ 1
two_words name first one other graph asks others words is are =
    let same = as_many_words name first one graph asks (map string_bytes others) (other ∷ []) words is are in
    just_one others other cc

-- one word and others
pub first_word : (words : List (String Global)) (b : String Global) → 1 ≤ length words → b ≡ get_or words 0 b
    → map string_bytes words ≡ string_bytes b ∷ map string_bytes (take (length words - 1) (drop 1 words))
first_word [] b least first = absurd (omega arith)
first_word (w ∷ words) b least first = let all = take_all (length (w ∷ words) - 1) words (omega arith) in cc

-- no words after the program's name ask for nothing
pub none_asked : (help version : List ℕ) (asked : Command) → AskAfterName help version [] asked → ⊥
none_asked help version (command.Help text) is = elim is.0 [ inl e ↦ cc | inr e ↦ cc ]
none_asked help version (command.Version text) is = let e = is.0 in cc
none_asked help version (command.IsAncestor pair) is =
    let more = pair.second.now ∷ [] in
    let e = (long (codes "is-ancestor") pair.first.now pair.graph more [] is).3 in cc
none_asked help version (command.Walk pair) is =
    let more = pair.second.now ∷ [] in
    let e = (long (codes "walk") pair.first.now pair.graph more [] is).3 in cc
none_asked help version (command.MergeBase group) is =
    let more = map string_bytes group.others.now in
    let e = (long (codes "merge-base") group.first.now group.graph more [] is.0).3 in cc
none_asked help version (command.MergeBaseIds group) is =
    let more = map string_bytes group.others.now in
    let e = (long (codes "merge-base-ids") group.first.now group.graph more [] is.0).3 in cc
none_asked help version (command.Check path) is = let e = is in cc
none_asked help version (command.Show path) is = let e = is in cc
none_asked help version (command.Ask path) is = let e = is.0 in cc
none_asked help version (command.AskUnchecked path) is = let e = is.0 in cc
none_asked help version (command.Ids path None) is = let e = is in cc
none_asked help version (command.Ids path (Some range)) is = let e = is.2 in cc
none_asked help version (command.Objects path None) is = let e = is in cc
none_asked help version (command.Objects path (Some range)) is = let e = is.2 in cc
none_asked help version (command.Paths path standard trees) is = absurd (paths_some standard trees path.now is)
none_asked help version (command.Write None) is = let e = is in cc
none_asked help version (command.Write (Some path)) is = let e = is in cc
none_asked help version (command.Merge path) is = let e = is in cc

-- four words and more, of which the last three are known
pub four_words : (words : List (String Global)) (b c d : String Global)
    → 4 ≤ length words → b ≡ get_or words 1 b → c ≡ get_or words 2 c → d ≡ get_or words 3 d
    → map string_bytes words ≡ string_bytes (get_or words 0 b) ∷ string_bytes b ∷ string_bytes c ∷ string_bytes d
    ∷ map string_bytes (take (length words - 4) (drop 4 words))
four_words [] b c d least second third fourth = absurd (omega arith)
four_words (w ∷ []) b c d least second third fourth = absurd (omega arith)
four_words (w ∷ x ∷ []) b c d least second third fourth = absurd (omega arith)
four_words (w ∷ x ∷ y ∷ []) b c d least second third fourth = absurd (omega arith)
four_words (w ∷ x ∷ y ∷ z ∷ words) b c d least second third fourth =
    let all = take_all (length (w ∷ x ∷ y ∷ z ∷ words) - 4) words (omega arith) in cc

-- just one word
pub one_word : (words : List (String Global)) (b : String Global) → 1 ≤ length words → length words < 2 → b ≡ get_or words 0 b
    → map string_bytes words ≡ string_bytes b ∷ []
one_word [] b least below first = absurd (omega arith)
one_word (w ∷ []) b least below first = cc
one_word (w ∷ x ∷ more) b least below first = absurd (omega arith)

-- what the words after the program's name ask for is asked by all words
pub asked_by_all : (help version name : List ℕ) (words others : List (List ℕ)) (result : Option Command)
    → words ≡ name ∷ others → IfSome result (AskAfterName help version others)
    → IfSome result (AskHistorytool help version words)
asked_by_all help version name words others None are is = tt
asked_by_all help version name words others (Some asked) are is = (name, others, are, is)

-- a text that spells no id, for whatever reason, spells none
none_spelled : (text id : List ℕ) (error : IdError) → SpellsNone text error → ¬ (SpellsId text id)
none_spelled text id Length none spells = none spells.0
none_spelled text id Digit none spells = none.1 (decode_of-ok text id spells.1).1

-- what was read of a text tells whether it spells an id
read_tells : (text : List ℕ) (read : Result (List ℕ) IdError) → IfOk read (SpellsId text) → IfErr read (SpellsNone text)
    → IsTrue (is_ok read) ↔ IsId text
read_tells text (Ok id) spells none = (λ yes. (id, spells), λ is. refl)
read_tells text (Err error) spells none = (λ yes. cc, λ is. absurd (none_spelled text is.0 error none is.1))

pub id_read : (text bytes : List ℕ) (read : Result (List ℕ) IdError) (told : Bool) → bytes ≡ text → told ≡ is_ok read
    → IfOk read (SpellsId bytes) → IfErr read (SpellsNone bytes) → IsTrue told ↔ IsId text
id_read text bytes read told same is spells none =
    subst (λ (b : Bool). IsTrue b ↔ IsId text) (sym is)
    (subst (λ (t : List ℕ). IsTrue (is_ok read) ↔ IsId t) same (read_tells bytes read spells none))

-- what is so of an answer, if there is one, and what follows from it
pub some_weaker : {A : Type 0} {P Q : A → Type 0} (answer : Option A) → ((a : A) → P a → Q a) → IfSome answer P
    → IfSome answer Q
some_weaker None follows is = tt
some_weaker (Some a) follows is = follows a is
