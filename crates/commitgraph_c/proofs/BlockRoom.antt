-- the commits of a block that were told so far
use Rattle.std.proofs.Common.{◌≡◌, refl, sym, ap, subst, ◌∙◌, ℕ, zero, suc, ◌+◌, ◌-◌, ◌<◌, ◌≤◌, List, [], ◌∷◌, ◌++◌, length}
use Rattle.std.proofs.Common.{map, take, drop, arith, Some, slice_get, true, false, if◌then◌else◌, length-drop}
use Rattle.std.proofs.Common.{Bool, set, min, ◌^◌, ◌⊎◌, inl, inr, length-append, append_assoc}
use Rattle.std.proofs.Math.Seq.{drop-length}
use Rattle.std.proofs.lemmas.Bool.{le-leb}
use Rattle.std.proofs.lemmas.Bool.Decides.{leb_tells}
use Rattle.std.proofs.lemmas.List.{get_or-drop, flat_map_more, take_all, length-map, map-append, append-nil, drop_all}
use Rattle.std.proofs.lemmas.Option.{get_or_from_slice_get, slice_get-get_or, slice_get_within}
use Rattle.std.specs.List.{flat_map}
use Rattle.std.specs.Bool.{nat_le}
use Rattle.graph_format.specs.Layer.{Layer, record_at}
use Rattle.graph_format.specs.Parents.{edge_of}
use Rattle.graph_format.specs.declared.Position.{Position}
use Rattle.graph_format.specs.declared.parents.ParentEdge.TheVariants as edge
use Rattle.graph_layer.proofs.ElementLemmas.{drop-next}
use Rattle.commitgraph_c.specs.QueryAnswers.{TellsParents, parents_in}
use Rattle.c_opening.specs.Answers.{written}
use Rattle.commitgraph_c.specs.Blocks.{TellsBlock, block_of, parent_positions, told_parents}
use Rattle.commitgraph_c.specs.declared.parents.CgParents.{CgParents}
use Rattle.commitgraph_c.proofs.FieldParents.{one_told}
use Rattle.c_opening.proofs.Written.{first_places, next_taken, none_written, numbers_length, one_more, written_after}

-- the element at an index of what is left from a place on
pub at_drop : {X : Type 0} (xs : List X) (n i : ℕ) (x : X) → slice_get xs (n + i) ≡ Some x → slice_get (drop n xs) i ≡ Some x
at_drop xs n i x here =
    let within = slice_get_within xs (n + i) x here in
    slice_get-get_or (drop n xs) i x (omega (arith, within, length-drop n xs))
    ∙ ap (λ y. Some y) (get_or-drop n xs i x ∙ get_or_from_slice_get xs (n + i) x x here)

-- Of these commits so many are told, and their parents take up so much of the room.
pub record AreTold (commits : List (Layer × ℕ)) (answers : List CgParents) (room : List ℕ) (place used : ℕ)
    (answered : List CgParents) (now : List ℕ) : Type 0 where
  pub answers_of : answered ≡ written (map told_parents (take place commits)) answers
  pub room_of : now ≡ written (flat_map parent_positions (take place commits)) room
  pub used_of : used ≡ length (flat_map parent_positions (take place commits))
  pub fits : used ≤ length room
  pub ahead : block_of (length answers) (length room) commits
      ≡ take place commits ++ block_of (length answers - place) (length room - used) (drop place commits)

-- before the first
pub none_told : (commits : List (Layer × ℕ)) (answers : List CgParents) (room : List ℕ)
    → AreTold commits answers room 0 0 answers room
none_told commits answers room =
    let places : length answers - 0 ≡ length answers = omega arith in
    let left : length room - 0 ≡ length room = omega arith in
    record {
      answers_of = sym (none_written answers);
      room_of = sym (none_written room);
      used_of = refl;
      fits = omega arith;
      ahead = rw (places, left) refl;
    }

-- the block that begins with a commit
block_turn : (places room : ℕ) (commit : Layer × ℕ) (rest : List (Layer × ℕ)) → 0 < places
    → block_of places room (commit ∷ rest)
    ≡ commit ∷ (if nat_le (length (parent_positions commit)) room
    then block_of (places - 1) (room - length (parent_positions commit)) rest else [])
block_turn zero room commit rest lt = absurd (omega (arith, lt))
block_turn (suc places) room commit rest lt =
    let one : suc places - 1 ≡ places = omega arith in
    rw one refl

-- whose parents fit
block_goes_on : (places room : ℕ) (commit : Layer × ℕ) (rest : List (Layer × ℕ)) → 0 < places
    → length (parent_positions commit) ≤ room
    → block_of places room (commit ∷ rest)
    ≡ commit ∷ block_of (places - 1) (room - length (parent_positions commit)) rest
block_goes_on places room commit rest lt fits =
    block_turn places room commit rest lt
    ∙ ap (λ (b : Bool). commit ∷ (if b then block_of (places - 1) (room - length (parent_positions commit)) rest else []))
    (le-leb (length (parent_positions commit)) room fits)

lt-leb : (a b : ℕ) → b < a → nat_le a b ≡ false
lt-leb a b lt = grind (arith, leb_tells a b, lt)

-- or do not
block_ends : (places room : ℕ) (commit : Layer × ℕ) (rest : List (Layer × ℕ)) → 0 < places
    → room < length (parent_positions commit) → block_of places room (commit ∷ rest) ≡ commit ∷ []
block_ends places room commit rest lt past =
    block_turn places room commit rest lt
    ∙ ap (λ (b : Bool). commit ∷ (if b then block_of (places - 1) (room - length (parent_positions commit)) rest else []))
    (lt-leb (length (parent_positions commit)) room past)

-- a block of no commits
block_of_none : (places room : ℕ) → block_of places room [] ≡ []
block_of_none zero room = refl
block_of_none (suc places) room = refl

-- what stands in the room once its rest was written
pub rest_put : (a : ℕ) (xs ys : List ℕ) → take a xs ++ (ys ++ drop (length xs - a) (drop a xs)) ≡ take a xs ++ ys
rest_put a xs ys =
    let none : drop (length xs - a) (drop a xs) ≡ [] =
    ap (λ n. drop n (drop a xs)) (sym (length-drop a xs)) ∙ drop-length (drop a xs) in
    rw (none, append-nil) refl

-- and the rest itself
pub rest_of : (a : ℕ) (xs : List ℕ) → take (length xs - a) (drop a xs) ≡ drop a xs
rest_of a xs = take_all (length xs - a) (drop a xs) (omega (arith, length-drop a xs))

-- what is told of a commit's parents is that
told_is : (commit : Layer × ℕ) (told : CgParents) (old new : List ℕ) → TellsParents (parents_in commit) told old new
    → told ≡ told_parents commit
told_is commit told old new t =
    ap (λ n. record { code = told.code; count = n }) t.count_of
    ∙ ap (λ n. record { code = n; count = min (length (parents_in commit).positions) (2 ^ 64 - 1) }) t.code_of

-- One commit more is told.
module _ {commits : List (Layer × ℕ)} {answers : List CgParents} {room : List ℕ} {place used : ℕ} {answered : List CgParents}
    {now : List ℕ} {commit : Layer × ℕ} {told : CgParents} {new : List ℕ} (here : slice_get commits place ≡ Some commit)
    (fits : place < length answers) (t : AreTold commits answers room place used answered now)
    (s : TellsParents (parents_in commit) told (take (length now - used) (drop used now)) new) where
  -- its parents are told too
  more_parents : flat_map parent_positions (take (place + 1) commits)
      ≡ flat_map parent_positions (take place commits) ++ parent_positions commit
  more_parents =
      ap (flat_map parent_positions) (next_taken commits place commit here)
      ∙ sym (flat_map_more parent_positions [] (take place commits) commit)

  -- its answer is written
  next_answer : set answered place told ≡ written (map told_parents (take (place + 1) commits)) answers
  next_answer =
      let within = slice_get_within commits place commit here in
      let so_far : length (map told_parents (take place commits)) ≡ place =
      length-map (take place commits) told_parents ∙ first_places commits place (omega (arith, within)) in
      ap (λ xs. set xs place told) t.answers_of
      ∙ ap (λ k. set (written (map told_parents (take place commits)) answers) k told) (sym so_far)
      ∙ one_more (map told_parents (take place commits)) told answers
      (subst (λ k. k < length answers) (sym so_far) fits)
      ∙ ap (λ one. written (map told_parents (take place commits) ++ one ∷ []) answers) (told_is commit told _ new s)
      ∙ ap (λ xs. written xs answers)
      (sym (ap (map told_parents) (next_taken commits place commit here)
      ∙ map-append told_parents (take place commits) (commit ∷ [])))

  -- and its parents
  next_room : take used now ++ new ≡ written (flat_map parent_positions (take (place + 1) commits)) room
  next_room =
      let before = flat_map parent_positions (take place commits) in
      ap (λ ys. take used now ++ ys) (s.room ∙ ap (written (parent_positions commit)) (rest_of used now))
      ∙ ap (λ xs. take used xs ++ written (parent_positions commit) (drop used xs)) t.room_of
      ∙ ap (λ k. take k (written before room) ++ written (parent_positions commit) (drop k (written before room))) t.used_of
      ∙ written_after before (parent_positions commit) room (subst (λ k. k ≤ length room) t.used_of t.fits)
      ∙ ap (λ ps. written ps room) (sym more_parents)

  -- what is ahead begins with the commit
  ahead_is : block_of (length answers) (length room) commits
      ≡ take place commits ++ block_of (length answers - place) (length room - used) (commit ∷ drop (place + 1) commits)
  ahead_is =
      t.ahead ∙ ap (λ cs. take place commits ++ block_of (length answers - place) (length room - used) cs)
      (drop-next commits place commit here)

  -- so many positions are written then
  more_used : used + length (parent_positions commit) ≡ length (flat_map parent_positions (take (place + 1) commits))
  more_used =
      ap (λ k. k + length (parent_positions commit)) t.used_of
      ∙ sym (length-append (flat_map parent_positions (take place commits)) (parent_positions commit))
      ∙ ap length (sym more_parents)

  -- where its parents fit
  pub next_told : length room < 2 ^ 64 - 1 → told.count ≤ length room - used
      → AreTold commits answers room (place + 1) (used + told.count) (set answered place told)
      (take used now ++ (new ++ drop (length now - used) (drop used now)))
  next_told few all =
      let parents = length (parent_positions commit) in
      let rest = drop (place + 1) commits in
      let count : told.count ≡ parents =
      omega (arith, s.count_of, numbers_length (parents_in commit).positions, few, all) in
      let places : length answers - place - 1 ≡ length answers - (place + 1) = omega arith in
      let left : length room - used - parents ≡ length room - (used + told.count) = omega (arith, count) in
      record {
        answers_of = next_answer;
        room_of = rest_put used now new ∙ next_room;
        used_of = ap (λ k. used + k) count ∙ more_used;
        fits = omega (arith, all, t.fits);
        ahead =
            ahead_is
            ∙ ap (λ cs. take place commits ++ cs)
            (block_goes_on (length answers - place) (length room - used) commit rest (omega (arith, fits))
            (omega (arith, count, all)))
            ∙ sym (append_assoc (take place commits) (commit ∷ [])
            (block_of (length answers - place - 1) (length room - used - parents) rest))
            ∙ ap (λ cs. cs ++ block_of (length answers - place - 1) (length room - used - parents) rest)
            (sym (next_taken commits place commit here))
            ∙ ap (λ n. take (place + 1) commits ++ block_of n (length room - used - parents) rest) places
            ∙ ap (λ n. take (place + 1) commits ++ block_of (length answers - (place + 1)) n rest) left;
      }

  -- or do not, which ends the block
  pub last_told : length room - used < told.count
      → TellsBlock (block_of (length answers) (length room) commits)
      (record { commits = place + 1; length = min (used + told.count) (2 ^ 64 - 1) })
      answers (set answered place told) room (take used now ++ (new ++ drop (length now - used) (drop used now)))
  last_told past =
      let parents = length (parent_positions commit) in
      let same = numbers_length (parents_in commit).positions in
      let within = slice_get_within commits place commit here in
      let more = more_used in
      let whole : block_of (length answers) (length room) commits ≡ take (place + 1) commits =
      ahead_is
      ∙ ap (λ cs. take place commits ++ cs)
      (block_ends (length answers - place) (length room - used) commit (drop (place + 1) commits) (omega (arith, fits))
      (omega (arith, s.count_of, same, past)))
      ∙ sym (next_taken commits place commit here) in
      rw whole (record {
        commits = sym (first_places commits (place + 1) (omega (arith, within)));
        length_of = omega (arith, s.count_of, same, more);
        answers_of = next_answer;
        room = rest_put used now new ∙ next_room;
      })

-- a number at the first place of the rest
set_in_rest : (place : ℕ) (xs : List ℕ) (x : ℕ) → take place xs ++ set (drop place xs) 0 x ≡ set xs place x
set_in_rest zero xs x = refl
set_in_rest (suc place) [] x = refl
set_in_rest (suc place) (y ∷ xs) x = ap (λ ys. y ∷ ys) (set_in_rest place xs x)

-- One commit more is told, whose fields give one parent.
pub only_told : {commits : List (Layer × ℕ)} {answers : List CgParents} {room : List ℕ} {place used : ℕ}
    {answered : List CgParents} {now : List ℕ} {commit : Layer × ℕ} {pos : Position} → slice_get commits place ≡ Some commit
    → place < length answers → AreTold commits answers room place used answered now → length room < 2 ^ 64 - 1
    → used < length room
    → edge_of (record_at commit.0 commit.1).parent1 ≡ edge.GraphPosition pos
    → edge_of (record_at commit.0 commit.1).parent2 ≡ edge.None
    → AreTold commits answers room (place + 1) (used + 1) (set answered place (record { code = 0; count = 1 }))
    (set now used pos.0)
only_told {commits} {answers} {room} {place} {used} {answered} {now} {commit} {pos} here fits t few free first second =
    let r = record_at commit.0 commit.1 in
    let rest = take (length now - used) (drop used now) in
    let told = one_told (edge_of r.parent1) (edge_of r.parent2) commit.0.edges rest pos first second in
    let is =
    rest_put used now (set rest 0 pos.0) ∙ ap (λ ys. take used now ++ set ys 0 pos.0) (rest_of used now)
    ∙ set_in_rest used now pos.0 in
    subst (AreTold commits answers room (place + 1) (used + 1) (set answered place (record { code = 0; count = 1 }))) is
    (next_told here fits t told few (omega (arith, free)))

module _ {commits : List (Layer × ℕ)} {answers : List CgParents} {room : List ℕ} {place used : ℕ} {answered : List CgParents}
    {now : List ℕ} (t : AreTold commits answers room place used answered now) where
  -- no commit is ahead, or there is no room for its answer
  none_ahead : ((nat_le (length answers) place ≡ true) × (length answers ≤ place))
      ⊎ ((nat_le (length answers) place ≡ false) × (place < length answers))
      → (place < length answers → length commits ≤ place)
      → block_of (length answers - place) (length room - used) (drop place commits) ≡ []
  none_ahead (inl full) end =
      let none : length answers - place ≡ 0 = omega (arith, full.1) in
      ap (λ n. block_of n (length room - used) (drop place commits)) none
  none_ahead (inr free) end =
      ap (block_of (length answers - place) (length room - used)) (drop_all place commits (end free.1))
      ∙ block_of_none (length answers - place) (length room - used)

  -- all of a block is told
  pub block_told : length room < 2 ^ 64 → (place < length answers → length commits ≤ place) → place ≤ length commits
      → TellsBlock (block_of (length answers) (length room) commits) (record { commits = place; length = used }) answers answered
      room now
  block_told few end within =
      let whole : block_of (length answers) (length room) commits ≡ take place commits =
      t.ahead ∙ ap (λ cs. take place commits ++ cs) (none_ahead (leb_tells (length answers) place) end)
      ∙ append-nil (take place commits) in
      let used_of = t.used_of in
      let fits = t.fits in
      rw whole (record {
        commits = sym (first_places commits place within);
        length_of = omega (arith, used_of, fits, few);
        answers_of = t.answers_of;
        room = t.room_of;
      })
