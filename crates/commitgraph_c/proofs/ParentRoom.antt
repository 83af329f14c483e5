-- the parents of a commit that were written so far
use Rattle.std.proofs.Common.{◌≡◌, refl, sym, ap, subst, ◌∙◌, ℕ, ◌+◌, ◌-◌, ◌^◌, ◌<◌, ◌≤◌, min, List, [], ◌∷◌, ◌++◌, length, map}
use Rattle.std.proofs.Common.{arith, set, Option, Some, None, Result, Ok, Err}
use Rattle.graph_format.specs.Parents.{DecodedParents, fault_items}
use Rattle.graph_format.specs.declared.Position.{Position}
use Rattle.graph_format.specs.declared.parents.ParentError.{ParentError}
use Rattle.commit_search.specs.Positions.{numbers_of}
use Rattle.c_opening.specs.Answers.{written}
use Rattle.c_opening.proofs.Written.{none_written, past_the_room, one_more, numbers_length, numbers_end}

-- Some parents were gone over, and the items to come are those of the others, and the fault after them.
pub record AreSeen (parents : DecodedParents) (count : ℕ) (room now : List ℕ) (left : List (Result Position ParentError))
    : Type 0 where
  pub seen : List Position
  pub ahead : List Position
  pub split : parents.positions ≡ seen ++ ahead
  pub items : left ≡ map (λ pos. Ok pos) ahead ++ fault_items parents.fault
  pub count_of : count ≡ min (length seen) (2 ^ 64 - 1)
  pub room_of : now ≡ written (numbers_of seen) room

-- The first item is a parent's position, and the others come after it.
pub record IsNext (ahead : List Position) (fault : Option ParentError) (pos : Position)
    (left : List (Result Position ParentError)) : Type 0 where
  pub rest : List Position
  pub first : ahead ≡ pos ∷ rest
  pub others : left ≡ map (λ pos. Ok pos) rest ++ fault_items fault

pub next_of : (ahead : List Position) (fault : Option ParentError) (pos : Position) (left : List (Result Position ParentError))
    → Ok pos ∷ left ≡ map (λ pos. Ok pos) ahead ++ fault_items fault → IsNext ahead fault pos left
next_of [] None pos left h = cc h
next_of [] (Some error) pos left h = cc h
next_of (p ∷ ahead) fault pos left h = record { rest = ahead; first = cc; others = cc }

-- The first item is the fault, and no parent comes before it.
fault_of : (ahead : List Position) (fault : Option ParentError) (error : ParentError)
    (left : List (Result Position ParentError))
    → Err error ∷ left ≡ map (λ pos. Ok pos) ahead ++ fault_items fault → (ahead ≡ []) × (fault ≡ Some error)
fault_of [] None error left h = cc h
fault_of [] (Some other) error left h = (refl, cc)
fault_of (p ∷ ahead) fault error left h = cc h

-- no item is left
end_of : (ahead : List Position) (fault : Option ParentError)
    → [] ≡ map (λ pos. Ok pos) ahead ++ fault_items fault → (ahead ≡ []) × (fault ≡ None)
end_of [] None h = (refl, refl)
end_of [] (Some error) h = cc h
end_of (p ∷ ahead) fault h = cc h

nothing_after : {T : Type 0} (xs : List T) → xs ++ [] ≡ xs
nothing_after [] = refl
nothing_after (x ∷ xs) = ap (λ ys. x ∷ ys) (nothing_after xs)

one_by_one : {T : Type 0} (xs : List T) (x : T) (ys : List T) → xs ++ x ∷ ys ≡ (xs ++ x ∷ []) ++ ys
one_by_one [] x ys = refl
one_by_one (z ∷ xs) x ys = ap (λ zs. z ∷ zs) (one_by_one xs x ys)

one_longer : {T : Type 0} (xs : List T) (x : T) → length (xs ++ x ∷ []) ≡ length xs + 1
one_longer [] x = refl
one_longer (z ∷ xs) x = let more = one_longer xs x in omega (arith, more)

-- what the iterator gives before the first item
pub none_seen : (parents : DecodedParents) (room : List ℕ) (left : List (Result Position ParentError))
    → left ≡ map (λ pos. Ok pos) parents.positions ++ fault_items parents.fault → AreSeen parents 0 room room left
none_seen parents room left h = record {
  seen = [];
  ahead = parents.positions;
  split = refl;
  items = h;
  count_of = refl;
  room_of = sym (none_written room);
}

module _ (parents : DecodedParents) (count : ℕ) (room now : List ℕ) where
  -- one more parent, for which there is room
  pub next_written : (pos : Position) (left : List (Result Position ParentError)) → length room < 2 ^ 64
      → count < length room → AreSeen parents count room now (Ok pos ∷ left)
      → AreSeen parents (min (count + 1) (2 ^ 64 - 1)) room (set now count pos.0) left
  next_written pos left few fits s =
      let n = next_of s.ahead parents.fault pos left s.items in
      let at : count ≡ length (numbers_of s.seen) = omega (arith, s.count_of, few, fits, numbers_length s.seen) in
      let more = one_longer s.seen pos in
      record {
        seen = s.seen ++ pos ∷ [];
        ahead = n.rest;
        split = s.split ∙ ap (λ ps. s.seen ++ ps) n.first ∙ one_by_one s.seen pos n.rest;
        items = n.others;
        count_of = omega (arith, s.count_of, more);
        room_of = ap (λ xs. set xs count pos.0) s.room_of
            ∙ ap (λ k. set (written (numbers_of s.seen) room) k pos.0) at
            ∙ one_more (numbers_of s.seen) pos.0 room (subst (λ k. k < length room) at fits)
            ∙ ap (λ ns. written ns room) (sym (numbers_end s.seen pos));
      }

  -- or for which there is none
  pub next_past : (pos : Position) (left : List (Result Position ParentError)) → length room ≤ count
      → AreSeen parents count room now (Ok pos ∷ left) → AreSeen parents (min (count + 1) (2 ^ 64 - 1)) room now left
  next_past pos left past s =
      let n = next_of s.ahead parents.fault pos left s.items in
      let more = one_longer s.seen pos in
      let full : length room ≤ length (numbers_of s.seen) = omega (arith, s.count_of, past, numbers_length s.seen) in
      record {
        seen = s.seen ++ pos ∷ [];
        ahead = n.rest;
        split = s.split ∙ ap (λ ps. s.seen ++ ps) n.first ∙ one_by_one s.seen pos n.rest;
        items = n.others;
        count_of = omega (arith, s.count_of, more);
        room_of = s.room_of ∙ sym (past_the_room (numbers_of s.seen) pos.0 room full)
            ∙ ap (λ ns. written ns room) (sym (numbers_end s.seen pos));
      }

  -- where no parent is ahead, all are seen
  all_of : (s : List Position) (ahead : List Position) → parents.positions ≡ s ++ ahead → ahead ≡ [] → s ≡ parents.positions
  all_of s ahead split none = sym (nothing_after s) ∙ ap (λ ps. s ++ ps) (sym none) ∙ sym split

  -- What is told once no parent is ahead.
  pub record AreTold (fault : Option ParentError) : Type 0 where
    pub fault_is : parents.fault ≡ fault
    pub count_is : count ≡ min (length parents.positions) (2 ^ 64 - 1)
    pub room_is : now ≡ written (numbers_of parents.positions) room

  -- where no item is left
  pub all_told : AreSeen parents count room now [] → AreTold None
  all_told s =
      let last = end_of s.ahead parents.fault s.items in
      let all = all_of s.seen s.ahead s.split last.0 in
      record {
        fault_is = last.1;
        count_is = s.count_of ∙ ap (λ (ps : List Position). min (length ps) (2 ^ 64 - 1)) all;
        room_is = s.room_of ∙ ap (λ ps. written (numbers_of ps) room) all;
      }

  -- where a fault comes
  pub fault_told : (error : ParentError) (left : List (Result Position ParentError))
      → AreSeen parents count room now (Err error ∷ left) → AreTold (Some error)
  fault_told error left s =
      let last = fault_of s.ahead parents.fault error left s.items in
      let all = all_of s.seen s.ahead s.split last.0 in
      record {
        fault_is = last.1;
        count_is = s.count_of ∙ ap (λ (ps : List Position). min (length ps) (2 ^ 64 - 1)) all;
        room_is = s.room_of ∙ ap (λ ps. written (numbers_of ps) room) all;
      }
