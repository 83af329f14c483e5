-- what is kept of pieces after a read
use Rattle.std.proofs.Common.{◌≡◌, ℕ, suc, zero, ◌+◌, ◌-◌, ◌*◌, ◌/◌, ◌%◌, ◌<◌, ◌≤◌, ◌⊎◌, List, [], ◌∷◌, ◌++◌, length, min, Bool}
use Rattle.std.proofs.Common.{true, false, take, drop, if◌then◌else◌, Result, Ok, Err, IfOk, is_ok, is_err}
use Rattle.std.proofs.Common.{Option, Some, None, Vec, slice_range, refl, sym, ap, subst, ◌∙◌, arith, inl, inr, get_or}
use Rattle.std.specs.Global.{Global}
use Rattle.std.specs.List.{slice_get, slice_index_or}
use Rattle.std.specs.Option.{ForSome, IfNone, IfSome, IsSomeAnd, is_some}
use Rattle.std.proofs.Math.ListN.{set}
use Rattle.std.proofs.Math.Nat.{mul-add, mul-le-mul_left}
use Rattle.std.proofs.lemmas.List.{drop-append-le, drop_at, length-append, length-drop, length_push, take-append-le, take_all}
use Rattle.std.proofs.lemmas.Option.{same_Some, slice_get-get_or, slice_get_read, slice_get_within}
use Rattle.graph_format.proofs.PieceLemmas.{slice_range-slice_range}
use Rattle.graph_folder.specs.Tree.{Tree, file_at}
use Rattle.graph_parts.specs.PieceBlocks.{AddsStretch, AreOf, AreSized, CanKeep, HasBlock, HasStretch, IsPieceKept, IsPieceOf}
use Rattle.graph_parts.specs.PieceBlocks.{KeepsNothing, KeepsSame, LacksBlock, ReadsMore, stretch_first, stretch_len}
use Rattle.graph_parts.specs.PieceBlocks.{stretch_start}
use Rattle.graph_parts.specs.declared.pieces.TheConstants.{BLOCK_LEN}
use Rattle.graph_parts.specs.declared.pieces.Kept.{Kept}
use Rattle.graph_parts.specs.declared.pieces.Kept.TheVariants.{At}
use Rattle.graph_parts.specs.declared.pieces.Pieces.{Pieces}
use Rattle.graph_parts.specs.declared.pieces.Series.{Series}
use Rattle.graph_parts.specs.declared.pieces.Stretch.{Stretch}
use Rattle.graph_parts.specs.declared.pieces.Stretch.TheVariants.{Alone, Block}

-- a piece in its block
pub piece-in : (size at some : ℕ) → at < some → size * at + size ≤ size * some
piece-in size at some h = omega (arith, mul-add size at 1, mul-le-mul_left {m = at + 1} {n = some} size (omega arith))

pub piece-fits : (series : Series) (index : ℕ) → index < series.count
    → series.size * (index % BLOCK_LEN) + series.size ≤ stretch_len series (Block (index / BLOCK_LEN))
piece-fits series index within =
    piece-in series.size (index % BLOCK_LEN) (min BLOCK_LEN (series.count - BLOCK_LEN * (index / BLOCK_LEN))) (omega arith)

-- the bytes of a stretch are those of a file
abbrev IsStretchOf : List ℕ → Stretch → List ℕ → Series → Type 0
IsStretchOf file stretch bytes series =
    slice_range file (stretch_start series stretch) (stretch_start series stretch + stretch_len series stretch) ≡ bytes

module _ (old new : Pieces) (added : Stretch) (bytes : List ℕ) (adds : AddsStretch old new added bytes) where
  adds-kept : (file : List ℕ) → AreOf new file → AreOf old file
  adds-kept file of s b keeps = subst (IsStretchOf file s b) adds.series (of s b (adds.stays s b keeps))

  adds-of : (file : List ℕ) → AreOf old file → IsStretchOf file added bytes old.series → AreOf new file
  adds-of file of part s b keeps =
      subst (IsStretchOf file s b) (sym adds.series)
      (elim (adds.only s b keeps) [
        | inl kept ↦ of s b kept
        | inr is ↦ rw (is.0, is.1) part
      ])

-- the same is kept
pub same-start : (pieces : Pieces) → KeepsSame pieces pieces
same-start pieces = record {
  series = refl;
  alone = refl;
  bytes = refl;
  blocks = λ number block. ((λ has. has), (λ has. has));
}

module _ (old new : Pieces) (is : KeepsSame old new) where
  same-there : (s : Stretch) (b : List ℕ) → HasStretch old s b → HasStretch new s b
  same-there (Block number) b keeps = (keeps.0, (is.blocks number keeps.0).1 keeps.1, keeps.2)
  same-there (Alone index) b keeps = (keeps.0, rw is.alone keeps.1, rw (is.bytes, is.series) keeps.2)

  pub same-back : (s : Stretch) (b : List ℕ) → HasStretch new s b → HasStretch old s b
  same-back (Block number) b keeps = (keeps.0, (is.blocks number keeps.0).0 keeps.1, keeps.2)
  same-back (Alone index) b keeps = (keeps.0, rw is.alone at keeps.1, rw (is.bytes, is.series) at keeps.2)

  pub same-sized : AreSized old → AreSized new
  same-sized sized = record {
    blocks = λ number block has. rw is.series (sized.blocks number block ((is.blocks number block).0 has));
    alone = rw (is.bytes, is.series, is.alone) sized.alone;
  }

-- nothing was read
pub reads-same : (known : Option Tree) (path : List ℕ) (old new : Pieces) → KeepsSame old new → AreSized old
    → ReadsMore known path old new
reads-same known path old new is sized = record {
  series = is.series;
  sized = same-sized old new is sized;
  kept = λ file of s b keeps. subst (IsStretchOf file s b) is.series (of s b (same-there old new is s b keeps));
  told = λ tree known_as file stands of s b keeps.
      subst (IsStretchOf file s b) (sym is.series) (of s b (same-back old new is s b keeps));
}

-- a stretch was read
pub reads-stretch : (known : Option Tree) (path : List ℕ) (old new : Pieces) (added : Stretch) (bytes : List ℕ)
    → AddsStretch old new added bytes → AreSized new
    → ForSome known (λ (tree : Tree). IsSomeAnd (file_at tree path) (λ file. slice_range file (stretch_start old.series added)
    (stretch_start old.series added + stretch_len old.series added) ≡ bytes))
    → ReadsMore known path old new
reads-stretch known path old new added bytes adds sized part = record {
  series = adds.series;
  sized = sized;
  kept = adds-kept old new added bytes adds;
  told = λ tree is file stands of.
      adds-of old new added bytes adds file of (rw stands at (part tree is));
}

-- room for one block more, of which none is kept
get-pushed : {X : Type 0} (xs : List (Option X)) (k : ℕ) (x : X) → slice_get (xs ++ None ∷ []) k ≡ Some (Some x)
    → slice_get xs k ≡ Some (Some x)
get-pushed [] zero x is = let clash : None ≡ Some x = same_Some _ _ is in cc
get-pushed [] (suc k) x is = is
get-pushed (y ∷ ys) zero x is = is
get-pushed (y ∷ ys) (suc k) x is = get-pushed ys k x is

get-push : {X : Type 0} (xs : List (Option X)) (k : ℕ) (x : X) → slice_get xs k ≡ Some (Some x)
    → slice_get (xs ++ None ∷ []) k ≡ Some (Some x)
get-push [] k x is = let clash : None ≡ Some (Some x) = is in cc
get-push (y ∷ ys) zero x is = is
get-push (y ∷ ys) (suc k) x is = get-push ys k x is

same-push : (old now new : Pieces) → KeepsSame old now → new.series ≡ now.series → new.alone ≡ now.alone → new.bytes ≡ now.bytes
    → new.blocks.items ≡ now.blocks.items ++ None ∷ [] → KeepsSame old new
same-push old now new before series alone bytes is = record {
  series = series ∙ before.series;
  alone = alone ∙ before.alone;
  bytes = ap (λ (v : Vec ℕ Global). v.items) bytes ∙ before.bytes;
  blocks = λ k block. (
    (λ has. (before.blocks k block).0 (get-pushed now.blocks.items k block (rw is at has))),
    (λ has. rw is (get-push now.blocks.items k block ((before.blocks k block).1 has))),
  );
}

same-items : (old now new : Pieces) → KeepsSame old now → new.series ≡ now.series → new.alone ≡ now.alone → new.bytes ≡ now.bytes
    → new.blocks.items ≡ now.blocks.items → KeepsSame old new
same-items old now new before series alone bytes is = record {
  series = series ∙ before.series;
  alone = alone ∙ before.alone;
  bytes = ap (λ (v : Vec ℕ Global). v.items) bytes ∙ before.bytes;
  blocks = λ k block. (
    (λ has. (before.blocks k block).0 (rw is at has)),
    (λ has. rw is ((before.blocks k block).1 has)),
  );
}

-- room for one block more, unless there was no memory for it
pub same-unless : (old now new : Pieces) (b : Bool) → KeepsSame old now → new.series ≡ now.series → new.alone ≡ now.alone
    → new.bytes ≡ now.bytes → new.blocks.items ≡ (if b then now.blocks.items ++ None ∷ [] else now.blocks.items)
    → KeepsSame old new
same-unless old now new true before series alone bytes is = same-push old now new before series alone bytes is
same-unless old now new false before series alone bytes is = same-items old now new before series alone bytes is

set-there : {X : Type 0} (xs : List X) (i : ℕ) (x : X) → i < length xs → slice_get (set xs i x) i ≡ Some x
set-there [] i x h = absurd (omega (arith, h))
set-there (y ∷ ys) zero x h = refl
set-there (y ∷ ys) (suc i) x h = set-there ys i x (omega (arith, h))

-- an element of a list with one replaced is one of the list, or the new one
set-either : {X : Type 0} (xs : List X) (i j : ℕ) (x y : X) → slice_get (set xs i x) j ≡ Some y
    → (slice_get xs j ≡ Some y) ⊎ ((j ≡ i) × (y ≡ x))
set-either [] i j x y is = inl is
set-either (z ∷ zs) zero zero x y is = inr (refl, sym (same_Some _ _ is))
set-either (z ∷ zs) zero (suc j) x y is = inl is
set-either (z ∷ zs) (suc i) zero x y is = inl is
set-either (z ∷ zs) (suc i) (suc j) x y is =
    elim (set-either zs i j x y is) [ inl kept ↦ inl kept | inr same ↦ inr (ap suc same.0, same.1) ]

-- an element other than the one replaced stays
set-stays : {X : Type 0} (xs : List X) (i j : ℕ) (x y : X) → slice_get xs j ≡ Some y → ((j ≡ i) → ⊥)
    → slice_get (set xs i x) j ≡ Some y
set-stays [] i j x y is other = is
set-stays (z ∷ zs) zero zero x y is other = absurd (other refl)
set-stays (z ∷ zs) zero (suc j) x y is other = is
set-stays (z ∷ zs) (suc i) zero x y is other = is
set-stays (z ∷ zs) (suc i) (suc j) x y is other = set-stays zs i j x y is (λ e. other (ap suc e))

-- a block is put where none is kept
module _ (old grown new : Pieces) (number : ℕ) (block : Vec ℕ Global) (before : KeepsSame old grown)
    (room : number < length grown.blocks.items) (none : LacksBlock old number) (series : new.series ≡ grown.series)
    (alone : new.alone ≡ grown.alone) (bytes : new.bytes ≡ grown.bytes)
    (is : new.blocks.items ≡ set grown.blocks.items number (Some block)) where
  same-series : new.series ≡ old.series
  same-series = series ∙ before.series

  same-alone : new.alone ≡ old.alone
  same-alone = alone ∙ before.alone

  same-bytes : new.bytes.items ≡ old.bytes.items
  same-bytes = ap (λ (v : Vec ℕ Global). v.items) bytes ∙ before.bytes

  block-there : HasBlock new number block
  block-there = rw is (set-there grown.blocks.items number (Some block) room)

  block-stays : (k : ℕ) (b : Vec ℕ Global) → HasBlock old k b → HasBlock new k b
  block-stays k b has =
      rw is (set-stays grown.blocks.items number k (Some block) (Some b) ((before.blocks k b).1 has)
      (λ e. none b (subst (λ (n : ℕ). HasBlock old n b) e has)))

  block-only : (k : ℕ) (b : Vec ℕ Global) → HasBlock new k b → HasBlock old k b ⊎ ((k ≡ number) × (b ≡ block))
  block-only k b has =
      elim (set-either grown.blocks.items number k (Some block) (Some b) (rw is at has)) [
        | inl here ↦ inl ((before.blocks k b).0 here)
        | inr at ↦ inr (at.0, same_Some _ _ at.1)
      ]

  stays : (s : Stretch) (b : List ℕ) → HasStretch old s b → HasStretch new s b
  stays (Block k) b keeps = (keeps.0, block-stays k keeps.0 keeps.1, keeps.2)
  stays (Alone k) b keeps = (keeps.0, rw same-alone keeps.1, rw (same-bytes, same-series) keeps.2)

  only : (s : Stretch) (b : List ℕ) → HasStretch new s b
      → HasStretch old s b ⊎ ((s ≡ Block number) × (b ≡ block.items))
  only (Block k) b keeps =
      elim (block-only k keeps.0 keeps.1) [
        | inl here ↦ inl (keeps.0, here, keeps.2)
        | inr at ↦ inr (ap Block at.0, sym keeps.2 ∙ ap (λ (v : Vec ℕ Global). v.items) at.1)
      ]
  only (Alone k) b keeps = inl (keeps.0, rw same-alone at keeps.1, rw (same-bytes, same-series) at keeps.2)

  pub adds-block : AddsStretch old new (Block number) block.items
  adds-block = record { series = same-series; stays = stays; only = only; there = (block, block-there, refl) }

  pub block-sized : AreSized old → length block.items ≡ stretch_len old.series (Block number) → AreSized new
  block-sized sized long = record {
    blocks = λ k b has.
        rw same-series
        (elim (block-only k b has) [
          | inl here ↦ sized.blocks k b here
          | inr at ↦ rw (at.0, at.1) long
        ]);
    alone = rw (same-bytes, same-series, same-alone) sized.alone;
  }

-- a piece of a block that was put
pub block-kept : (blocks : List (Option (Vec ℕ Global))) (number index : ℕ) (block : Vec ℕ Global) → number < length blocks
    → number ≡ index / BLOCK_LEN
    → (b : Vec ℕ Global) × (slice_get (set blocks number (Some block)) (index / BLOCK_LEN) ≡ Some (Some b))
block-kept blocks number index block room at = (
  block,
  subst (λ (n : ℕ). slice_get (set blocks number (Some block)) n ≡ Some (Some block)) at
      (set-there blocks number (Some block) room),
)

-- parts of lists with more behind them
slice-left : (xs ys : List ℕ) (i j : ℕ) → i ≤ j → j ≤ length xs → slice_range (xs ++ ys) i j ≡ slice_range xs i j
slice-left xs ys i j up within =
    ap (take (j - i)) (drop-append-le i xs ys (omega (arith, up, within)))
    ∙ take-append-le (j - i) (drop i xs) ys (omega (arith, within, length-drop i xs))

slice-right : (xs ys : List ℕ) (i j : ℕ) → i ≡ length xs → j ≡ length xs + length ys → slice_range (xs ++ ys) i j ≡ ys
slice-right xs ys i j start end =
    ap (take (j - i)) (drop_at xs ys i (sym start)) ∙ take_all (j - i) ys (omega (arith, start, end))

get-left : {X : Type 0} (xs ys : List X) (k : ℕ) (x : X) → slice_get xs k ≡ Some x → slice_get (xs ++ ys) k ≡ Some x
get-left [] ys k x is = let clash : None ≡ Some x = is in cc
get-left (z ∷ zs) ys zero x is = is
get-left (z ∷ zs) ys (suc k) x is = get-left zs ys k x is

get-last : {X : Type 0} (xs : List X) (x : X) → slice_get (xs ++ x ∷ []) (length xs) ≡ Some x
get-last [] x = refl
get-last (z ∷ zs) x = get-last zs x

-- an element of a list with one more is one of the list, or the new one
get-either : {X : Type 0} (xs : List X) (x y : X) (k : ℕ) → slice_get (xs ++ x ∷ []) k ≡ Some y
    → (slice_get xs k ≡ Some y) ⊎ ((k ≡ length xs) × (y ≡ x))
get-either [] x y zero is = inr (refl, sym (same_Some _ _ is))
get-either [] x y (suc k) is = inl is
get-either (z ∷ zs) x y zero is = inl is
get-either (z ∷ zs) x y (suc k) is =
    elim (get-either zs x y k is) [ inl kept ↦ inl kept | inr same ↦ inr (ap suc same.0, same.1) ]

-- a piece that is kept alone lies among the bytes
pub alone-within : (pieces : Pieces) (number index : ℕ) → AreSized pieces → slice_get pieces.alone number ≡ Some index
    → pieces.series.size * number + pieces.series.size ≤ length pieces.bytes.items
alone-within pieces number index sized at =
    omega (
      arith,
      sized.alone,
      piece-in pieces.series.size number (length pieces.alone) (slice_get_within pieces.alone number index at),
    )

-- a piece is put after those that are kept alone
module _ (old new : Pieces) (index : ℕ) (piece : List ℕ) (long : length piece ≡ old.series.size) (sized : AreSized old)
    (series : new.series ≡ old.series) (blocks : new.blocks ≡ old.blocks) (alone : new.alone ≡ old.alone ++ index ∷ [])
    (bytes : new.bytes.items ≡ old.bytes.items ++ piece) where
  alone-stays : (s : Stretch) (b : List ℕ) → HasStretch old s b → HasStretch new s b
  alone-stays (Block k) b keeps = (keeps.0, rw blocks keeps.1, keeps.2)
  alone-stays (Alone k) b keeps = (
    keeps.0,
    rw alone (get-left old.alone (index ∷ []) keeps.0 k keeps.1),
    rw (bytes, series)
        (slice-left old.bytes.items piece (old.series.size * keeps.0) (old.series.size * keeps.0 + old.series.size) (omega arith)
        (alone-within old keeps.0 k sized keeps.1)
        ∙ keeps.2),
  )

  piece-last : slice_range (old.bytes.items ++ piece) (old.series.size * length old.alone)
      (old.series.size * length old.alone + old.series.size)
      ≡ piece
  piece-last =
      slice-right old.bytes.items piece (old.series.size * length old.alone)
      (old.series.size * length old.alone + old.series.size) (sym sized.alone) (omega (arith, sized.alone, long))

  alone-only : (s : Stretch) (b : List ℕ) → HasStretch new s b
      → HasStretch old s b ⊎ ((s ≡ Alone index) × (b ≡ piece))
  alone-only (Block k) b keeps = inl (keeps.0, rw blocks at keeps.1, keeps.2)
  alone-only (Alone k) b keeps =
      let part : slice_range (old.bytes.items ++ piece) (old.series.size * keeps.0) (old.series.size * keeps.0 + old.series.size)
      ≡ b =
      rw (bytes, series) at keeps.2 in
      elim (get-either old.alone index k keeps.0 (rw alone at keeps.1)) [
        | inl here ↦
            inl (
              keeps.0,
              here,
              sym (slice-left old.bytes.items piece (old.series.size * keeps.0) (old.series.size * keeps.0 + old.series.size)
                  (omega arith) (alone-within old keeps.0 k sized here))
                  ∙ part,
            )
        | inr at ↦
            inr (
              ap Alone at.1,
              sym part
                  ∙ ap (λ (n : ℕ). slice_range (old.bytes.items ++ piece) (old.series.size * n)
                  (old.series.size * n + old.series.size)) at.0
                  ∙ piece-last,
            )
      ]

  alone-kept : slice_get new.alone (length old.alone) ≡ Some index
  alone-kept = rw alone (get-last old.alone index)

  pub adds-alone : AddsStretch old new (Alone index) piece
  adds-alone = record {
    series = series;
    stays = alone-stays;
    only = alone-only;
    there = (length old.alone, alone-kept, rw (bytes, series) piece-last);
  }

  pub alone-at : (start : ℕ) → start ≡ length old.bytes.items → IsPieceKept new index (At start)
  alone-at start is = (
    length old.alone,
    alone-kept,
    is ∙ sized.alone ∙ sym (ap (λ (p : Series). p.size * length old.alone) series),
  )

  pub alone-sized : AreSized new
  alone-sized = record {
    blocks = λ k b has. rw series (sized.blocks k b (rw blocks at has));
    alone =
        ap length bytes
        ∙ length-append old.bytes.items piece
        ∙ omega (arith, sized.alone, long, mul-add old.series.size (length old.alone) 1)
        ∙ sym (ap (λ (xs : List ℕ). new.series.size * length xs) alone
        ∙ ap (λ (n : ℕ). new.series.size * n) (length_push old.alone index)
        ∙ ap (λ (p : Series). p.size * (length old.alone + 1)) series);
  }

-- bytes that were appended
pub taken : {A E : Type 0} (r : Result A E) (old more new : List ℕ) → is_err r ≡ false → new ≡ (if is_ok r then more else old)
    → new ≡ more
taken (Ok x) old more new passed is = is
taken (Err e) old more new passed is = let clash : true ≡ false = passed in cc

-- a piece that was found among those that are kept alone
pub found-alone : (alone : List ℕ) (place index : ℕ) → place < length alone → slice_index_or alone place 0 ≡ index
    → slice_get alone place ≡ Some index
found-alone alone place index within is = slice_get-get_or alone place 0 within ∙ ap Some is

-- a piece of a block that is a file's is the file's
pub piece-of : (pieces : Pieces) (file block : List ℕ) (index : ℕ) → index < pieces.series.count
    → slice_range file (stretch_start pieces.series (Block (index / BLOCK_LEN)))
    (stretch_start pieces.series (Block (index / BLOCK_LEN)) + stretch_len pieces.series (Block (index / BLOCK_LEN)))
    ≡ block
    → slice_range block (pieces.series.size * (index % BLOCK_LEN)) (pieces.series.size * (index % BLOCK_LEN) + pieces.series.size)
    ≡ slice_range file (pieces.series.start + pieces.series.size * index)
    (pieces.series.start + pieces.series.size * index + pieces.series.size)
piece-of pieces file block index within is =
    let size = pieces.series.size in
    let number = index / BLOCK_LEN in
    let at = index % BLOCK_LEN in
    let start = stretch_start pieces.series (Block number) in
    let long = stretch_len pieces.series (Block number) in
    let room = piece-fits pieces.series index within in
    let whole : index ≡ BLOCK_LEN * number + at = omega arith in
    let shift : size * index ≡ size * (BLOCK_LEN * number) + size * at =
    ap (λ (n : ℕ). size * n) whole ∙ mul-add size (BLOCK_LEN * number) at in
    ap (λ (b : List ℕ). slice_range b (size * at) (size * at + size)) (sym is)
    ∙ slice_range-slice_range file start (start + long) (size * at) (size * at + size) (omega (arith, room))
    ∙ ap (λ (n : ℕ). slice_range file n (start + (size * at + size))) (omega (arith, shift))
    ∙ ap (λ (n : ℕ). slice_range file (pieces.series.start + size * index) n) (omega (arith, shift))

-- a block was found, or none
pub some-there : (pieces : Pieces) (number : ℕ) (o : Option (Vec ℕ Global)) (block : Vec ℕ Global)
    → o ≡ get_or pieces.blocks.items number o → number < length pieces.blocks.items → o ≡ Some block
    → HasBlock pieces number block
some-there pieces number o block is within found =
    slice_get_read pieces.blocks.items (length pieces.blocks.items) number o refl within is
    ∙ ap (λ (b : Option (Vec ℕ Global)). Some b) found

pub none-past : (pieces : Pieces) (number : ℕ) → length pieces.blocks.items ≤ number → LacksBlock pieces number
none-past pieces number past other has =
    absurd (omega (arith, past, slice_get_within pieces.blocks.items number (Some other) has))

pub none-there : (pieces : Pieces) (number : ℕ) (o : Option (Vec ℕ Global)) → o ≡ get_or pieces.blocks.items number o
    → number < length pieces.blocks.items → o ≡ None → LacksBlock pieces number
none-there pieces number o is within missed other has =
    let here = slice_get_read pieces.blocks.items (length pieces.blocks.items) number o refl within is in
    let clash : None ≡ Some other = sym missed ∙ same_Some _ _ (sym here ∙ has) in cc

-- the stretch of a piece begins with one of the pieces
pub stretch-within : (stretch : Stretch) (index count : ℕ) → IsPieceOf stretch index → index < count
    → stretch_first stretch < count
stretch-within (Block number) index count is within = omega (arith, is, within)
stretch-within (Alone one) index count is within = omega (arith, is, within)

-- what an answer says where it is one
pub if-there : {T : Type 0} (o : Option T) (P : Type 0) → IfSome o (λ _. P) → is_some o ≡ true → P
if-there None P says there = let clash : false ≡ true = there in cc
if-there (Some x) P says there = says

pub if-missing : {T : Type 0} (o : Option T) (P : Type 0) → IfNone o P → is_some o ≡ false → P
if-missing None P says missed = says
if-missing (Some x) P says missed = let clash : true ≡ false = missed in cc

-- a stretch of a piece whose block is not kept can be kept
pub can-keep : (pieces : Pieces) (stretch : Stretch) (index : ℕ) → IsPieceOf stretch index
    → LacksBlock pieces (index / BLOCK_LEN) → CanKeep pieces stretch
can-keep pieces (Block number) index is none = subst (LacksBlock pieces) (sym is) none
can-keep pieces (Alone one) index is none = tt

-- the piece of a stretch that is kept alone
pub kept-alone : {E : Type 0} (new : Pieces) (stretch : Stretch) (one : ℕ) (r : Result Kept E) → stretch ≡ Alone one
    → IfOk r (IsPieceKept new one) → IfOk r (λ kept. (index : ℕ) → IsPieceOf stretch index → IsPieceKept new index kept)
kept-alone new stretch one (Ok kept) is at = λ index of.
    subst (λ (n : ℕ). IsPieceKept new n kept) (subst (λ (s : Stretch). IsPieceOf s index) is of) at
kept-alone new stretch one (Err e) is at = tt

-- the bytes of a piece that is kept alone are those of a file
pub alone-of : (pieces : Pieces) (number index : ℕ) (file : List ℕ) → AreOf pieces file
    → slice_get pieces.alone number ≡ Some index
    → slice_range pieces.bytes.items (pieces.series.size * number) (pieces.series.size * number + pieces.series.size)
    ≡ slice_range file (pieces.series.start + pieces.series.size * index)
    (pieces.series.start + pieces.series.size * index + pieces.series.size)
alone-of pieces number index file of at =
    sym (of (Alone index) _ (number, at, refl))
    ∙ ap (λ (n : ℕ). slice_range file (pieces.series.start + pieces.series.size * index) n) (omega arith)

-- nothing was read
pub nothing-kept : (pieces : Pieces) → pieces.blocks.items ≡ [] → pieces.alone ≡ [] → KeepsNothing pieces
nothing-kept pieces blocks alone (Block number) bytes keeps =
    let clash : None ≡ Some (Some keeps.0) = rw blocks at keeps.1 in cc
nothing-kept pieces blocks alone (Alone index) bytes keeps = let clash : None ≡ Some index = rw alone at keeps.1 in cc

pub nothing-sized : (pieces : Pieces) → pieces.blocks.items ≡ [] → pieces.alone ≡ [] → pieces.bytes.items ≡ [] → AreSized pieces
nothing-sized pieces blocks alone bytes = record {
  blocks = λ k block has.
      let clash : None ≡ Some (Some block) = rw blocks at has in cc;
  alone = rw (bytes, alone) (omega arith);
}

pub none_of : (pieces : Pieces) (file : List ℕ) → KeepsNothing pieces → AreOf pieces file
none_of pieces file none stretch bytes keeps = absurd (none stretch bytes keeps)

pub ruleset none_kept = (none_of)
