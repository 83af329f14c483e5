-- Joined paths.
use Rattle.std.proofs.Common.{◌≡◌, ℕ, Bool, true, false, List, ◌++◌, if◌then◌else◌, codes, ap, ◌∙◌, append_assoc}
use Rattle.gix_commitgraph.specs.Paths.{join_path, layer_path}

joined-more : (alone : Bool) (a b c : List ℕ)
    → (if alone then a ++ b else (a ++ codes "/") ++ b) ++ c ≡ (if alone then a ++ (b ++ c) else (a ++ codes "/") ++ (b ++ c))
joined-more true a b c = append_assoc a b c
joined-more false a b c = append_assoc (a ++ codes "/") b c

-- a name can be made longer after it was joined
pub join_path-more : (a b c : List ℕ) → join_path a b ++ c ≡ join_path a (b ++ c)
join_path-more a b c = joined-more _ a b c

-- as the path of a layer is made
pub layer_path-joined : (folder line : List ℕ)
    → (join_path folder (codes "graph-") ++ line) ++ codes ".graph" ≡ layer_path folder line
layer_path-joined folder line =
    ap (λ (path : List ℕ). path ++ codes ".graph") (join_path-more folder (codes "graph-") line)
    ∙ join_path-more folder (codes "graph-" ++ line) (codes ".graph")
    ∙ ap (join_path folder) (append_assoc (codes "graph-") line (codes ".graph"))

pub ruleset join_laws = (layer_path-joined)
