-- what stands in the tree of known paths
use Rattle.std.proofs.Common.{◌≡◌, ◌==◌, ℕ, Bool, true, false, cond, List, [], ◌∷◌, Option, Some, None, option_and_then, bytes_eq}
use Rattle.std.proofs.Common.{if◌then◌else◌, refl, sym, ap, ◌∙◌}
use Rattle.std.specs.Cmp.Lexicographic.{slice_cmp, nat_list_cmp_total, nat_list_eq_equiv, texts_ties}
use Rattle.std.specs.FinMap.{get, get-empty, get-insert, get-remove}
use Rattle.std.specs.Option.{option_map_or}
use Rattle.std.specs.Ordering.{nat_cmp, eq_by_cmp}
use Rattle.graph_folder.specs.Tree.{Tree, TreeEntry, RegularFile, file_at, file_bytes, is_directory, is_folder}
use Rattle.c_opening.specs.KnownPaths.{known_at, known_entry, known_tree, with_entry}
use Rattle.c_opening.specs.declared.known.CgKnown.{CgKnown}

-- the order of paths ties equal ones
same_path : (key path : List ℕ) → eq_by_cmp (slice_cmp nat_cmp) path key ≡ bytes_eq key path
same_path key path = sym (nat_list_eq_equiv.symm key path ∙ texts_ties path key)

get-with_entry : (key : List ℕ) (entry : Option TreeEntry) (tree : Tree) (path : List ℕ)
    → get (with_entry key entry tree) path ≡ cond (bytes_eq key path) entry (get tree path)
get-with_entry key (Some entry) tree path =
    get-insert nat_list_cmp_total tree key entry path ∙ ap (λ b. cond b (Some entry) (get tree path)) (same_path key path)
get-with_entry key None tree path =
    get-remove nat_list_cmp_total tree key path ∙ ap (λ b. cond b None (get tree path)) (same_path key path)

chosen : (b : Bool) (k : CgKnown) (o : Option CgKnown)
    → cond b (known_entry k) (option_and_then known_entry o) ≡ option_and_then known_entry (cond b (Some k) o)
chosen true k o = refl
chosen false k o = refl

-- the tree has at a path what is known of it
get-known_tree : (known : List CgKnown) (path : List ℕ)
    → get (known_tree known) path ≡ option_and_then known_entry (known_at known path)
get-known_tree [] path = get-empty (slice_cmp nat_cmp) path
get-known_tree (k ∷ known) path =
    get-with_entry k.path.now (known_entry k) (known_tree known) path
    ∙ ap (cond (bytes_eq k.path.now path) (known_entry k)) (get-known_tree known path)
    ∙ chosen (bytes_eq k.path.now path) k (known_at known path)

-- of a file that was read, its bytes
abbrev pub read_of : CgKnown → Option (List ℕ)
read_of k = if k.kind == 1 then Some k.bytes.now else None

bytes_by_kind : (b : Bool) (bytes : List ℕ)
    → option_and_then file_bytes (if b then Some (RegularFile bytes) else None) ≡ (if b then Some bytes else None)
bytes_by_kind true bytes = refl
bytes_by_kind false bytes = refl

bytes_of_entry : (o : Option CgKnown) → option_and_then file_bytes (option_and_then known_entry o) ≡ option_and_then read_of o
bytes_of_entry None = refl
bytes_of_entry (Some k) = bytes_by_kind (k.kind == 1) k.bytes.now

pub file_at_known : (known : List CgKnown) (path : List ℕ)
    → file_at (known_tree known) path ≡ option_and_then read_of (known_at known path)
file_at_known known path = ap (option_and_then file_bytes) (get-known_tree known path) ∙ bytes_of_entry (known_at known path)

no_folder_by_kind : (b : Bool) (bytes : List ℕ)
    → option_map_or is_directory (if b then Some (RegularFile bytes) else None) false ≡ false
no_folder_by_kind true bytes = refl
no_folder_by_kind false bytes = refl

no_folder : (o : Option CgKnown) → option_map_or is_directory (option_and_then known_entry o) false ≡ false
no_folder None = refl
no_folder (Some k) = no_folder_by_kind (k.kind == 1) k.bytes.now

pub is_folder_known : (known : List CgKnown) (path : List ℕ) → is_folder (known_tree known) path ≡ false
is_folder_known known path =
    ap (λ (o : Option TreeEntry). option_map_or is_directory o false) (get-known_tree known path)
    ∙ no_folder (known_at known path)

pub ruleset known_laws = (file_at_known, is_folder_known)
