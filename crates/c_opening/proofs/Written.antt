-- a room that items are written to, one after another
use Rattle.std.proofs.Common.{◌≡◌, refl, sym, ap, subst, ◌∙◌, ℕ, suc, zero, ◌+◌, ◌<◌, ◌≤◌, List, [], ◌∷◌, ◌++◌, length, take}
use Rattle.std.proofs.Common.{set, arith}
use Rattle.std.proofs.Common.{get_or, drop, Some, slice_get}
use Rattle.std.proofs.lemmas.List.{take_more}
use Rattle.std.proofs.lemmas.Option.{get_or_from_slice_get, slice_get_within}
use Rattle.commit_search.specs.Positions.{numbers_of}
use Rattle.graph_format.specs.declared.Position.{Position}
use Rattle.c_opening.specs.Answers.{written}

-- what a list has from a place on begins with the item there
pub item_at : {T : Type 0} (xs : List T) (i : ℕ) (x : T) (rest : List T) → drop i xs ≡ x ∷ rest → slice_get xs i ≡ Some x
item_at [] zero x rest is = cc
item_at [] (suc i) x rest is = cc
item_at (y ∷ ys) zero x rest is = cc
item_at (y ∷ ys) (suc i) x rest is = item_at ys i x rest is

-- and goes on with what it has from the next place on
pub items_after : {T : Type 0} (xs : List T) (i : ℕ) (x : T) (rest : List T) → drop i xs ≡ x ∷ rest → rest ≡ drop (i + 1) xs
items_after [] zero x rest is = cc
items_after [] (suc i) x rest is = cc
items_after (y ∷ ys) zero x rest is = cc
items_after (y ∷ ys) (suc i) x rest is = items_after ys i x rest is ∙ ap (λ n. drop n (y ∷ ys)) (next i)
  where
    next : (n : ℕ) → suc (n + 1) ≡ suc n + 1
    next n = omega arith

-- the first places of a list are so many
pub first_places : {T : Type 0} (xs : List T) (i : ℕ) → i ≤ length xs → length (take i xs) ≡ i
first_places xs zero le = refl
first_places [] (suc i) le = absurd (omega (arith, le))
first_places (x ∷ xs) (suc i) le = ap suc (first_places xs i (omega (arith, le)))

module _ {T : Type 0} where
  -- before any item
  pub none_written : (room : List T) → written [] room ≡ room
  none_written [] = refl
  none_written (x ∷ room) = refl

  -- as many as the room has places for stay as they are
  pub past_the_room : (items : List T) (item : T) (room : List T) → length room ≤ length items
      → written (items ++ item ∷ []) room ≡ written items room
  past_the_room [] item [] le = refl
  past_the_room [] item (x ∷ room) le = absurd (omega (arith, le))
  past_the_room (i ∷ items) item [] le = refl
  past_the_room (i ∷ items) item (x ∷ room) le = ap (λ r. i ∷ r) (past_the_room items item room (omega (arith, le)))

  -- the next one
  pub one_more : (items : List T) (item : T) (room : List T) → length items < length room
      → set (written items room) (length items) item ≡ written (items ++ item ∷ []) room
  one_more [] item [] lt = absurd (omega (arith, lt))
  one_more [] item (x ∷ []) lt = refl
  one_more [] item (x ∷ y ∷ room) lt = refl
  one_more (i ∷ items) item [] lt = absurd (omega (arith, lt))
  one_more (i ∷ items) item (x ∷ room) lt = ap (λ r. i ∷ r) (one_more items item room (omega (arith, lt)))

  -- one item, or two, each in its place
  pub one_written : (item : T) (room : List T) → set room 0 item ≡ written (item ∷ []) room
  one_written item [] = refl
  one_written item (x ∷ []) = refl
  one_written item (x ∷ y ∷ room) = refl

  pub two_written : (first second : T) (room : List T) → set (set room 0 first) 1 second ≡ written (first ∷ second ∷ []) room
  two_written first second [] = refl
  two_written first second (x ∷ []) = refl
  two_written first second (x ∷ y ∷ []) = refl
  two_written first second (x ∷ y ∷ z ∷ room) = refl

  -- the room keeps its size
  pub written_length : (items room : List T) → length (written items room) ≡ length room
  written_length [] [] = refl
  written_length [] (x ∷ room) = refl
  written_length (i ∷ items) [] = refl
  written_length (i ∷ items) (x ∷ room) = ap suc (written_length items room)

  -- the items up to the next one
  pub next_taken : (items : List T) (i : ℕ) (item : T) → slice_get items i ≡ Some item
      → take (i + 1) items ≡ take i items ++ item ∷ []
  next_taken items i item here =
      take_more items i item (slice_get_within items i item here)
      ∙ ap (λ x. take i items ++ x ∷ []) (get_or_from_slice_get items i item item here)

  -- it is written in its place
  pub next_item : (items : List T) (i : ℕ) (item : T) (room : List T) → slice_get items i ≡ Some item → i < length room
      → set (written (take i items) room) i item ≡ written (take (i + 1) items) room
  next_item items i item room here fits =
      let within = slice_get_within items i item here in
      let so_far = first_places items i (omega (arith, within)) in
      ap (λ k. set (written (take i items) room) k item) (sym so_far)
      ∙ one_more (take i items) item room (subst (λ k. k < length room) (sym so_far) fits)
      ∙ ap (λ xs. written xs room) (sym (next_taken items i item here))

  -- what the room has no places for is not written
  pub as_many_as_fit : (items room : List T) (k : ℕ) → length room ≤ k → written (take k items) room ≡ written items room
  as_many_as_fit [] room zero le = refl
  as_many_as_fit [] room (suc k) le = refl
  as_many_as_fit (i ∷ items) [] zero le = refl
  as_many_as_fit (i ∷ items) [] (suc k) le = refl
  as_many_as_fit (i ∷ items) (x ∷ room) zero le = absurd (omega (arith, le))
  as_many_as_fit (i ∷ items) (x ∷ room) (suc k) le = ap (λ r. i ∷ r) (as_many_as_fit items room k (omega (arith, le)))

  -- items that are written after others, from where those end
  pub written_after : (items more room : List T) → length items ≤ length room
      → take (length items) (written items room) ++ written more (drop (length items) (written items room))
      ≡ written (items ++ more) room
  written_after [] more room le = ap (written more) (none_written room)
  written_after (i ∷ items) more [] le = absurd (omega (arith, le))
  written_after (i ∷ items) more (x ∷ room) le = ap (λ r. i ∷ r) (written_after items more room (omega (arith, le)))

-- as many numbers as positions
pub numbers_length : (xs : List Position) → length (numbers_of xs) ≡ length xs
numbers_length [] = refl
numbers_length (x ∷ xs) = ap suc (numbers_length xs)

-- those of one position more
pub numbers_end : (xs : List Position) (x : Position) → numbers_of (xs ++ x ∷ []) ≡ numbers_of xs ++ x.0 ∷ []
numbers_end [] x = refl
numbers_end (y ∷ xs) x = ap (λ ns. y.0 ∷ ns) (numbers_end xs x)

more : (xs : List Position) (i : ℕ) (d : Position) → i < length xs
    → numbers_of (take (i + 1) xs) ≡ numbers_of (take i xs) ++ (get_or xs i d).0 ∷ []
more xs i d lt = ap numbers_of (take_more xs i d lt) ∙ numbers_end (take i xs) (get_or xs i d)

so_far : (xs : List Position) (i : ℕ) → i < length xs → length (numbers_of (take i xs)) ≡ i
so_far xs i lt = numbers_length (take i xs) ∙ first_places xs i (omega (arith, lt))

-- the position at a place is written there
pub next_position : (xs : List Position) (i : ℕ) (d : Position) (room : List ℕ) → i < length xs → i < length room
    → set (written (numbers_of (take i xs)) room) i (get_or xs i d).0 ≡ written (numbers_of (take (i + 1) xs)) room
next_position xs i d room lt fits =
    ap (λ k. set (written (numbers_of (take i xs)) room) k (get_or xs i d).0) (sym (so_far xs i lt))
    ∙ one_more (numbers_of (take i xs)) (get_or xs i d).0 room (subst (λ k. k < length room) (sym (so_far xs i lt)) fits)
    ∙ ap (λ ns. written ns room) (sym (more xs i d lt))

-- or there is no place for it
pub no_place : (xs : List Position) (i : ℕ) (d : Position) (room : List ℕ) → i < length xs → length room ≤ i
    → written (numbers_of (take i xs)) room ≡ written (numbers_of (take (i + 1) xs)) room
no_place xs i d room lt past =
    sym (past_the_room (numbers_of (take i xs)) (get_or xs i d).0 room (subst (λ k. length room ≤ k) (sym (so_far xs i lt)) past))
    ∙ ap (λ ns. written ns room) (sym (more xs i d lt))

-- a number at a place is written there
pub next_number : (xs : List ℕ) (i d : ℕ) (room : List ℕ) → i < length xs → i < length room
    → set (written (take i xs) room) i (get_or xs i d) ≡ written (take (i + 1) xs) room
next_number xs i d room lt fits =
    let so_far = first_places xs i (omega (arith, lt)) in
    ap (λ k. set (written (take i xs) room) k (get_or xs i d)) (sym so_far)
    ∙ one_more (take i xs) (get_or xs i d) room (subst (λ k. k < length room) (sym so_far) fits)
    ∙ ap (λ ns. written ns room) (sym (take_more xs i d lt))

-- or there is no place for it
pub no_place_for : (xs : List ℕ) (i d : ℕ) (room : List ℕ) → i < length xs → length room ≤ i
    → written (take i xs) room ≡ written (take (i + 1) xs) room
no_place_for xs i d room lt past =
    let so_far = first_places xs i (omega (arith, lt)) in
    sym (past_the_room (take i xs) (get_or xs i d) room (subst (λ k. length room ≤ k) (sym so_far) past))
    ∙ ap (λ ns. written ns room) (sym (take_more xs i d lt))

pub ruleset position_laws = (next_position, no_place, written_length)
