-- Parts of files.
use Rattle.std.specs.Prelude.{◌≡◌, ℕ, List, length, take, drop, Option, Some, None, IsSomeAnd}
use Rattle.std.specs.declared.result.Result.{Result}
use Rattle.std.specs.declared.result.Result.TheVariants.{Ok, Err}
use Rattle.graph_folder.specs.Tree.{Tree, file_at}
use Rattle.graph_folder.specs.declared.folder.Part.{Part}

-- the bytes of a file from a place on, at most so many, and the file's length
abbrev pub IsPartOf : List ℕ → ℕ → ℕ → Part → Type 0
IsPartOf file start len part = (part.bytes.items ≡ take len (drop start file)) × (part.file_len ≡ length file)

-- of the file that stands at a path
abbrev pub IsPartAt : Tree → List ℕ → ℕ → ℕ → Part → Type 0
IsPartAt tree path start len part = IsSomeAnd (file_at tree path) (λ file. IsPartOf file start len part)

-- an answer with a part
abbrev pub IfPart : {E : Type 0} → Result (Option Part) E → (Part → Type 0) → Type 0
IfPart (Ok (Some part)) P = P part
IfPart (Ok None) P = Unit
IfPart (Err e) P = Unit
