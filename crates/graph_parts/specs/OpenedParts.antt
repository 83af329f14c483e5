-- Parts of a graph as they were opened: which files they are of, and that reads gave what is kept of them, whatever others write
-- meanwhile. ("Commit-Graphs Chains" of Git's commit-graph design.)
use Rattle.std.specs.Prelude.{◌≡◌, ◌⊎◌, ℕ, List, [], ◌∷◌, IfOk, IfSome, Option, Result, map, string_bytes}
use Rattle.graph_folder.specs.declared.folder.Part.{Part}
use Rattle.graph_folder.specs.declared.folder.ReadError.{ReadError}
use Rattle.graph_layer.specs.declared.opening.error.OpenError.{OpenError}
use Rattle.gix_commitgraph.specs.Paths.{info_chain, info_file}
use Rattle.graph_find.specs.PartsRead.{HeadsWereRead}
use Rattle.graph_find.specs.declared.chain.ChainLayer.{ChainLayer}
use Rattle.graph_parts.specs.PathOpening.{parts_answer}
use Rattle.graph_parts.specs.PiecesRead.{PartsWereRead}
use Rattle.graph_parts.specs.Shown.{files_of}
use Rattle.graph_parts.specs.declared.parts.GraphParts.{GraphParts}

-- they are of the one file at the path
abbrev pub FilePartsWereRead : (List ℕ → ℕ → Part → Type 0) → List ℕ → GraphParts → Type 0
FilePartsWereRead gives_part path parts =
    (map (λ (file : ChainLayer). string_bytes file.path) (files_of parts) ≡ path ∷ []) × PartsWereRead gives_part parts

-- they are of the files that the chain file of the folder names, as a read gave that
abbrev pub ChainPartsWereRead : (List ℕ → List ℕ → Type 0) → (List ℕ → ℕ → Part → Type 0) → List ℕ → GraphParts → Type 0
ChainPartsWereRead gives gives_part folder parts =
    HeadsWereRead gives gives_part folder (files_of parts) × PartsWereRead gives_part parts

-- they are of the info folder's file, or of those of its chain
abbrev pub InfoPartsWereRead : (List ℕ → List ℕ → Type 0) → (List ℕ → ℕ → Part → Type 0) → List ℕ → GraphParts → Type 0
InfoPartsWereRead gives gives_part folder parts =
    FilePartsWereRead gives_part (info_file folder) parts ⊎ ChainPartsWereRead gives gives_part (info_chain folder) parts

-- they are of a file, of a chain folder or of an info folder at the path
abbrev pub PathPartsWereRead : (List ℕ → List ℕ → Type 0) → (List ℕ → ℕ → Part → Type 0) → List ℕ → GraphParts → Type 0
PathPartsWereRead gives gives_part path parts =
    FilePartsWereRead gives_part path parts
    ⊎ (ChainPartsWereRead gives gives_part path parts ⊎ InfoPartsWereRead gives gives_part path parts)

-- For private contracts: where parts were opened, they were read so.
abbrev pub IfPartsOpened : (GraphParts → Type 0) → Result (Result (Option GraphParts) ReadError) OpenError → Type 0
IfPartsOpened WereRead answer = IfOk (parts_answer answer) (λ found. IfSome found WereRead)
