-- The pieces that lie one after another in a file, and what is kept of them.
use Rattle.std.specs.Prelude.{◌≡◌, ◌↔◌, ◌⊎◌, ℕ, ◌+◌, ◌-◌, ◌*◌, ◌/◌, ◌≤◌, List, Option, Some, Vec}
use Rattle.std.specs.Prelude.{length, min, slice_get, slice_range, ⊤}
use Rattle.std.specs.Global.{Global}
use Rattle.std.specs.Option.{ForSome}
use Rattle.graph_folder.specs.Tree.{Tree, file_at}
use Rattle.graph_parts.specs.declared.pieces.TheConstants.{BLOCK_LEN}
use Rattle.graph_parts.specs.declared.pieces.Kept.{Kept}
use Rattle.graph_parts.specs.declared.pieces.Kept.TheVariants.{InBlock, At}
use Rattle.graph_parts.specs.declared.pieces.Pieces.{Pieces}
use Rattle.graph_parts.specs.declared.pieces.Series.{Series}
use Rattle.graph_parts.specs.declared.pieces.Stretch.{Stretch}
use Rattle.graph_parts.specs.declared.pieces.Stretch.TheVariants.{Alone, Block}

-- the first piece of a stretch
abbrev pub stretch_first : Stretch → ℕ
stretch_first (Block number) = BLOCK_LEN * number
stretch_first (Alone index) = index

-- how many pieces it has: the last block has those that are left
abbrev pub stretch_count : Series → Stretch → ℕ
stretch_count series (Block number) = min BLOCK_LEN (series.count - BLOCK_LEN * number)
stretch_count series (Alone index) = 1

-- where it begins in the file
abbrev pub stretch_start : Series → Stretch → ℕ
stretch_start series stretch = series.start + series.size * stretch_first stretch

-- how many bytes it has
abbrev pub stretch_len : Series → Stretch → ℕ
stretch_len series stretch = series.size * stretch_count series stretch

-- a file of this length has room for the pieces
abbrev pub FitsIn : Series → ℕ → Type 0
FitsIn series len = series.start + series.size * series.count ≤ len

-- the piece of an index is one of a stretch
abbrev pub IsPieceOf : Stretch → ℕ → Type 0
IsPieceOf (Block number) index = number ≡ index / BLOCK_LEN
IsPieceOf (Alone one) index = one ≡ index

-- the block of this number is kept
abbrev pub HasBlock : Pieces → ℕ → Vec ℕ Global → Type 0
HasBlock pieces number block = slice_get pieces.blocks.items number ≡ Some (Some block)

-- it is not
abbrev pub LacksBlock : Pieces → ℕ → Type 0
LacksBlock pieces number = (block : Vec ℕ Global) → ¬ HasBlock pieces number block

-- the stretch is kept, with these bytes
abbrev pub HasStretch : Pieces → Stretch → List ℕ → Type 0
HasStretch pieces (Block number) bytes = (block : Vec ℕ Global) × HasBlock pieces number block × (block.items ≡ bytes)
HasStretch pieces (Alone index) bytes =
    (number : ℕ) × (slice_get pieces.alone number ≡ Some index)
    × (slice_range pieces.bytes.items (pieces.series.size * number) (pieces.series.size * number + pieces.series.size) ≡ bytes)

-- nothing is kept
abbrev pub KeepsNothing : Pieces → Type 0
KeepsNothing pieces = (stretch : Stretch) (bytes : List ℕ) → ¬ HasStretch pieces stretch bytes

-- a stretch can be kept: a block once
abbrev pub CanKeep : Pieces → Stretch → Type 0
CanKeep pieces (Block number) = LacksBlock pieces number
CanKeep pieces (Alone index) = ⊤

-- the piece of an index is kept so
abbrev pub IsPieceKept : Pieces → ℕ → Kept → Type 0
IsPieceKept pieces index InBlock = (block : Vec ℕ Global) × HasBlock pieces (index / BLOCK_LEN) block
IsPieceKept pieces index (At start) =
    (number : ℕ) × (slice_get pieces.alone number ≡ Some index) × (start ≡ pieces.series.size * number)

-- Each block that is kept has its length, and the pieces that are kept alone have theirs.
pub record AreSized (pieces : Pieces) : Type 0 where
  pub blocks : (number : ℕ) (block : Vec ℕ Global) → HasBlock pieces number block
      → length block.items ≡ stretch_len pieces.series (Block number)
  pub alone : length pieces.bytes.items ≡ pieces.series.size * length pieces.alone

-- the stretches that are kept are those of a file
abbrev pub AreOf : Pieces → List ℕ → Type 0
AreOf pieces file = (stretch : Stretch) (bytes : List ℕ) → HasStretch pieces stretch bytes
    → slice_range file (stretch_start pieces.series stretch)
    (stretch_start pieces.series stretch + stretch_len pieces.series stretch)
    ≡ bytes

-- The same is kept of the same pieces.
pub record KeepsSame (old new : Pieces) : Type 0 where
  pub series : new.series ≡ old.series
  pub alone : new.alone ≡ old.alone
  pub bytes : new.bytes.items ≡ old.bytes.items
  pub blocks : (number : ℕ) (block : Vec ℕ Global) → HasBlock new number block ↔ HasBlock old number block

-- One stretch more is kept of the same pieces.
pub record AddsStretch (old new : Pieces) (added : Stretch) (bytes : List ℕ) : Type 0 where
  pub series : new.series ≡ old.series
  pub stays : (stretch : Stretch) (b : List ℕ) → HasStretch old stretch b → HasStretch new stretch b
  pub only : (stretch : Stretch) (b : List ℕ) → HasStretch new stretch b
      → HasStretch old stretch b ⊎ ((stretch ≡ added) × (b ≡ bytes))
  pub there : HasStretch new added bytes

-- More may be kept: where the tree is known, of the file at the path.
pub record ReadsMore (known : Option Tree) (path : List ℕ) (old new : Pieces) : Type 0 where
  pub series : new.series ≡ old.series
  pub sized : AreSized new
  pub kept : (file : List ℕ) → AreOf new file → AreOf old file
  pub told : ForSome known (λ (tree : Tree). (file : List ℕ) → file_at tree path ≡ Some file → AreOf old file → AreOf new file)
