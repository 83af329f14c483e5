-- The lookup of an id in a right graph, or where there is none, is a scan; and what the base says is what its layers tell.
use Rattle.std.proofs.Common.{◌≡◌, ◌∙◌, ℕ, List, [], Option, Some, None, ap, arith, refl, slice_get, subst, sym}
use Rattle.std.specs.Prelude.{IfSome}
use Rattle.std.specs.Option.{MatchOption, option_map, option_map_or}
use Rattle.graph_walks.specs.Walks.{CountWalks}
use Rattle.graph_format.specs.Layer.{Layer}
use Rattle.graph_format.specs.Lookup.{scan}
use Rattle.graph_format.specs.StoredHistory.{history_of}
use Rattle.gix_commitgraph.specs.Graph.{graph_ids, total}
use Rattle.gix_commitgraph.specs.GraphLookup.{FoundIn}
use Rattle.gix_commitgraph.specs.Sound.{Sound}
use Rattle.gix_commitgraph.proofs.sound.SoundLemmas.{sound-scanned}
use Rattle.commit_search.specs.Source.{Told, told_of}
use Rattle.history_commands.specs.CheckedReplies.{Scans}
use Rattle.newer_commits.specs.declared.base_or_none.BaseOrNone.{BaseOrNone}
use Rattle.newer_commands.specs.KindOver.{layers_of_base}

scan_none : (id : List ℕ) → scan [] id ≡ None
unfolding scan
scan_none id = refl

-- the layers of a graph, if there is one
abbrev pub layers_known : Option (List Layer) → Option (List Layer)
layers_known base = option_map (λ (layers : List Layer). layers) base

-- what the lookup of an id in it may answer
abbrev pub LooksUp : Option (List Layer) → List ℕ → Option ℕ → Type 0
LooksUp base id answer = MatchOption (layers_known base) (answer ≡ None) (λ layers. FoundIn layers id answer)

-- which id a commit of it has
abbrev pub HasIdBelow : Option (List Layer) → ℕ → List ℕ → Type 0
HasIdBelow base p id = MatchOption (layers_known base) ⊥ (λ layers. slice_get (graph_ids layers) p ≡ Some id)

-- in none nothing is found
scans_option : (base : Option (List Layer)) → IfSome base Sound → (id : List ℕ) (answer : Option ℕ) → LooksUp base id answer
    → Scans (layers_of_base (record { base = base })) id answer
scans_option None right id answer found = scan_none id ∙ sym found
scans_option (Some layers) right id answer found = sym (sound-scanned layers id answer right found)

pub scans_base : (base : BaseOrNone (List Layer)) → IfSome base.base Sound → (id : List ℕ) (answer : Option ℕ)
    → LooksUp base.base id answer → Scans (layers_of_base base) id answer
scans_base base right id answer found = scans_option base.base right id answer found

same_option : (one other : Option (List Layer)) → layers_known one ≡ layers_known other → one ≡ other
same_option None None same = refl
same_option None (Some other) same = cc
same_option (Some one) None same = cc
same_option (Some one) (Some other) same = same

-- a base of which the same is known is the same
pub same_base : (one other : BaseOrNone (List Layer)) → layers_known one.base ≡ layers_known other.base → one ≡ other
same_base one other same =
    ap (λ (base : Option (List Layer)). record { base = base }) (same_option one.base other.base same)

-- it may say this
abbrev pub SaysBelow : Option (List Layer) → Told → Type 0
SaysBelow base t = MatchOption base (t ≡ told_of []) (λ layers. t ≡ told_of layers)

says_option : (base : Option (List Layer)) → SaysBelow base (told_of (layers_of_base (record { base = base })))
says_option None = refl
says_option (Some layers) = refl

-- what its layers tell is said
pub says_base : (one other : BaseOrNone (List Layer)) → one ≡ other → SaysBelow one.base (told_of (layers_of_base other))
says_base one other same =
    subst (λ (base : BaseOrNone (List Layer)). SaysBelow base.base (told_of (layers_of_base other))) (sym same)
    (says_option other.base)

counts_option : (base : Option (List Layer)) → IfSome base Sound
    → CountWalks (history_of (layers_of_base (record { base = base })))
unfolding history_of
counts_option None right = λ p below. absurd (omega (arith, below))
counts_option (Some layers) right = right.generations

-- the numbers of the base count walks
pub counts_base : (base : BaseOrNone (List Layer)) → IfSome base.base Sound → CountWalks (history_of (layers_of_base base))
counts_base base right = counts_option base.base right

total_option : (base : Option (List Layer))
    → option_map_or total (layers_known base) 0 ≡ total (layers_of_base (record { base = base }))
total_option None = refl
total_option (Some layers) = refl

-- its commits are those of the layers
pub total_base : (base : BaseOrNone (List Layer))
    → option_map_or total (layers_known base.base) 0 ≡ total (layers_of_base base)
total_base base = total_option base.base

ids_option : (base : Option (List Layer)) (p : ℕ) (id : List ℕ) → HasIdBelow base p id
    → slice_get (graph_ids (layers_of_base (record { base = base }))) p ≡ Some id
ids_option None p id found = absurd found
ids_option (Some layers) p id found = found

-- and so are their ids
pub ids_base : (base : BaseOrNone (List Layer)) (p : ℕ) (id : List ℕ) → HasIdBelow base.base p id
    → slice_get (graph_ids (layers_of_base base)) p ≡ Some id
ids_base base p id found = ids_option base.base p id found
