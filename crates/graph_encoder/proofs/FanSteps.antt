-- laws of the counts of first bytes
use Rattle.std.proofs.Common.{◌≡◌, ℕ, zero, suc, ◌+◌, ◌-◌, ◌<◌, ◌≤◌, List, [], ◌∷◌, ◌++◌, length, take, subst, below_more, get_or}
use Rattle.std.proofs.Common.{set, slice_index, nat_le, All, Bool, cond, refl, sym, ap, ◌∙◌, arith, length-set, get_or-set_same}
use Rattle.std.proofs.Common.{get_or-set_other, ⊎_elim, ◌⊎◌}
use Rattle.std.specs.Prelude.{◌==◌}
use Rattle.std.proofs.lemmas.Bool.{le-leb, lt-leb, eq-eqb, ne_eqb, cases_eq, cases_order}
use Rattle.std.proofs.lemmas.List.{length-map, length-take-le, map_more, same_lists, get_or_default}
use Rattle.std.proofs.lemmas.List.Sums.{count_by-le-length, fold_push}
use Rattle.graph_encoder.specs.declared.plan.PlanCommit.{PlanCommit}
use Rattle.graph_encoder.specs.Written.{ids_of, ids_with, ids_up_to, exact_fan}
use Rattle.graph_encoder.proofs.Pieces.{All-cons, All-append}
use Rattle.graph_encoder.proofs.BuiltFan.{count_by-cons, length-exact_fan, exact_fan-at}

ids_of-more : (commits : List PlanCommit) (i : ℕ) (d : PlanCommit) → i < length commits
    → ids_of (take (i + 1) commits) ≡ ids_of (take i commits) ++ (get_or commits i d).id ∷ []
ids_of-more commits i d h = map_more (λ (c : PlanCommit). c.id) commits i d h

ids_with-push : (byte : ℕ) (ids : List (List ℕ)) (id : List ℕ)
    → ids_with byte (ids ++ id ∷ []) ≡ ids_with byte ids + cond (slice_index id 0 == byte) 1 0
ids_with-push byte ids id = fold_push (λ (n : ℕ) (x : List ℕ). n + cond (slice_index x 0 == byte) 1 0) 0 ids id

-- how many of the ids so far begin with a byte: those that are counted, and those of a run of ids that begin with one
abbrev pub counted_with : List ℕ → ℕ → ℕ → ℕ → ℕ
counted_with counts first run byte = slice_index counts byte + cond (byte == first) run 0

-- the run has one more id
run-id : (counts : List ℕ) (ids : List (List ℕ)) (id : List ℕ) (first run byte : ℕ) → first ≡ slice_index id 0
    → counted_with counts first run byte ≡ ids_with byte ids
    → counted_with counts first (run + 1) byte ≡ ids_with byte (ids ++ id ∷ [])
run-id counts ids id first run byte h k =
    ⊎_elim
    (λ (same : byte ≡ first).
    let one : ◌≡◌ {A = ℕ} (cond (slice_index id 0 == byte) 1 0) 1 =
    ap (λ (b : Bool). cond b 1 0) (eq-eqb (slice_index id 0) byte (sym h ∙ sym same)) in
    let now : ◌≡◌ {A = ℕ} (cond (byte == first) run 0) run = ap (λ (b : Bool). cond b run 0) (eq-eqb byte first same) in
    let then : ◌≡◌ {A = ℕ} (cond (byte == first) (run + 1) 0) (run + 1) =
    ap (λ (b : Bool). cond b (run + 1) 0) (eq-eqb byte first same) in
    omega (arith, one, now, then, k, ids_with-push byte ids id))
    (λ (other : byte ≡ first → ⊥).
    let none : ◌≡◌ {A = ℕ} (cond (slice_index id 0 == byte) 1 0) 0 =
    ap (λ (b : Bool). cond b 1 0) (ne_eqb (slice_index id 0) byte (λ same. other (sym same ∙ sym h))) in
    let now : ◌≡◌ {A = ℕ} (cond (byte == first) run 0) 0 = ap (λ (b : Bool). cond b run 0) (ne_eqb byte first other) in
    let then : ◌≡◌ {A = ℕ} (cond (byte == first) (run + 1) 0) 0 =
    ap (λ (b : Bool). cond b (run + 1) 0) (ne_eqb byte first other) in
    omega (arith, none, now, then, k, ids_with-push byte ids id))
    (cases_eq byte first)

pub run-more : (counts : List ℕ) (commits : List PlanCommit) (i first run byte : ℕ) (commit : PlanCommit) → i < length commits
    → commit ≡ get_or commits i commit → first ≡ slice_index commit.id 0
    → counted_with counts first run byte ≡ ids_with byte (ids_of (take i commits))
    → counted_with counts first (run + 1) byte ≡ ids_with byte (ids_of (take (i + 1) commits))
run-more counts commits i first run byte commit h e f k =
    run-id counts (ids_of (take i commits)) commit.id first run byte f k
    ∙ ap (λ (c : PlanCommit). ids_with byte (ids_of (take i commits) ++ c.id ∷ [])) e
    ∙ ap (ids_with byte) (sym (ids_of-more commits i commit h))

-- the ids of the run are counted
pub run-counted : (counts : List ℕ) (first run byte : ℕ) → first < length counts
    → slice_index (set counts first (get_or counts first 0 + run)) byte ≡ counted_with counts first run byte
run-counted counts first run byte e =
    ⊎_elim
    (λ (same : byte ≡ first).
    let now : ◌≡◌ {A = ℕ} (cond (byte == first) run 0) run = ap (λ (b : Bool). cond b run 0) (eq-eqb byte first same) in
    let held : slice_index counts byte ≡ get_or counts first 0 = ap (λ (n : ℕ). get_or counts n 0) same in
    ap (λ (n : ℕ). get_or (set counts first (get_or counts first 0 + run)) n 0) same
    ∙ get_or-set_same counts first (get_or counts first 0 + run) 0 e
    ∙ omega (arith, now, held))
    (λ (other : byte ≡ first → ⊥).
    let now : ◌≡◌ {A = ℕ} (cond (byte == first) run 0) 0 = ap (λ (b : Bool). cond b run 0) (ne_eqb byte first other) in
    get_or-set_other counts first byte (get_or counts first 0 + run) 0 other
    ∙ omega (arith, now))
    (cases_eq byte first)

-- and the next run has none yet
pub run-begins : (counts : List ℕ) (first byte : ℕ) → counted_with counts first 0 byte ≡ slice_index counts byte
run-begins counts first byte =
    ⊎_elim
    (λ (same : byte ≡ first).
    let now : ◌≡◌ {A = ℕ} (cond (byte == first) 0 0) 0 = ap (λ (b : Bool). cond b 0 0) (eq-eqb byte first same) in
    omega (arith, now))
    (λ (other : byte ≡ first → ⊥).
    let now : ◌≡◌ {A = ℕ} (cond (byte == first) 0 0) 0 = ap (λ (b : Bool). cond b 0 0) (ne_eqb byte first other) in
    omega (arith, now))
    (cases_eq byte first)

-- no run has more ids than there are
pub run-small : (counts : List ℕ) (commits : List PlanCommit) (i first run : ℕ) → i ≤ length commits
    → counted_with counts first run first ≡ ids_with first (ids_of (take i commits))
    → slice_index counts first + run ≤ i
run-small counts commits i first run h k =
    let now : ◌≡◌ {A = ℕ} (cond (first == first) run 0) run = ap (λ (b : Bool). cond b run 0) (eq-eqb first first refl) in
    omega (
      arith,
      now,
      k,
      count_by-le-length (λ (id : List ℕ). slice_index id 0 == first) (ids_of (take i commits)),
      length-map (take i commits) (λ (c : PlanCommit). c.id),
      length-take-le i commits h,
    )

-- one more id begins with a byte
pub bytes-more : (commits : List PlanCommit) (i first : ℕ) (commit : PlanCommit) → i < length commits
    → commit ≡ get_or commits i commit → first ≡ slice_index commit.id 0 → first < 256
    → All (λ id. slice_index id 0 < 256) (ids_of (take i commits))
    → All (λ id. slice_index id 0 < 256) (ids_of (take (i + 1) commits))
bytes-more commits i first commit h e f g k =
    let P : List (List ℕ) → Type 0 = λ ids. All (λ id. slice_index id 0 < 256) ids in
    let one : All (λ id. slice_index id 0 < 256) (commit.id ∷ []) =
    All-cons (λ id. slice_index id 0 < 256) commit.id [] (omega (arith, f, g)) (λ j d l. absurd (omega (arith, l))) in
    subst P (ap (λ (c : PlanCommit). ids_of (take i commits) ++ c.id ∷ []) e ∙ sym (ids_of-more commits i commit h))
    (All-append (λ id. slice_index id 0 < 256) (ids_of (take i commits)) (commit.id ∷ []) k one)

-- the ids with a first byte of at most the next number are those of at most this and those with the next
next-counted : (n b : ℕ) → ◌≡◌ {A = ℕ} (cond (nat_le n (b + 1)) 1 0) (cond (n == b + 1) 1 0 + cond (nat_le n b) 1 0)
next-counted n b =
    ⊎_elim
    (λ (same : n ≡ b + 1).
    rw (le-leb n (b + 1) (omega (arith, same)), eq-eqb n (b + 1) same, lt-leb n b (omega (arith, same))) refl)
    (λ (apart : (n < b + 1) ⊎ (b + 1 < n)).
    ⊎_elim
    (λ (below : n < b + 1).
    rw (
      le-leb n (b + 1) (omega (arith, below)),
      ne_eqb n (b + 1) (λ same. omega (arith, same, below)),
      le-leb n b (omega (arith, below)),
    ) refl)
    (λ (above : b + 1 < n).
    rw (lt-leb n (b + 1) above, ne_eqb n (b + 1) (λ same. omega (arith, same, above)), lt-leb n b (omega (arith, above)))
    refl)
    apart)
    (cases_order n (b + 1))

pub ids_up_to-next : (b : ℕ) (ids : List (List ℕ)) → ids_up_to (b + 1) ids ≡ ids_with (b + 1) ids + ids_up_to b ids
ids_up_to-next b [] = refl
ids_up_to-next b (id ∷ ids) =
    omega (
      arith,
      next-counted (slice_index id 0) b,
      ids_up_to-next b ids,
      count_by-cons (λ x. nat_le (slice_index x 0) (b + 1)) id ids,
      count_by-cons (λ x. slice_index x 0 == b + 1) id ids,
      count_by-cons (λ x. nat_le (slice_index x 0) b) id ids,
    )

zero-counted : (n : ℕ) → ◌≡◌ {A = ℕ} (cond (nat_le n 0) 1 0) (cond (n == 0) 1 0)
zero-counted zero = refl
zero-counted (suc n) = rw (lt-leb (suc n) 0 (omega arith), ne_eqb (suc n) 0 (λ same. omega (arith, same))) refl

pub ids_up_to-zero : (ids : List (List ℕ)) → ids_up_to 0 ids ≡ ids_with 0 ids
ids_up_to-zero [] = refl
ids_up_to-zero (id ∷ ids) =
    omega (
      arith,
      zero-counted (slice_index id 0),
      ids_up_to-zero ids,
      count_by-cons (λ x. nat_le (slice_index x 0) 0) id ids,
      count_by-cons (λ x. slice_index x 0 == 0) id ids,
    )

-- What the fan says below a byte, and what it still counts from it on.
pub record AreSums (fan : List ℕ) (ids : List (List ℕ)) (byte : ℕ) : Type 0 where
  pub size : length fan ≡ 256
  pub sums : (b : ℕ) → b < byte → slice_index fan b ≡ ids_up_to b ids
  pub counts : (b : ℕ) → byte ≤ b → b < 256 → slice_index fan b ≡ ids_with b ids

-- the counts are the first sum
pub sums-start : (fan : List ℕ) (ids : List (List ℕ)) → length fan ≡ 256
    → ((b : ℕ) → b < 256 → slice_index fan b ≡ ids_with b ids) → AreSums fan ids 1
sums-start fan ids h e =
    record {
      size = h;
      sums = λ b k. let zeroth : b ≡ 0 = omega (arith, k) in let P : ℕ → Type 0 = λ n. slice_index fan n ≡ ids_up_to n ids in
          subst P (sym zeroth) (e 0 (omega arith) ∙ sym (ids_up_to-zero ids));
      counts = λ b k j. e b j;
    }

-- the next sum
pub sum_is : (fan : List ℕ) (ids : List (List ℕ)) (byte : ℕ) → AreSums fan ids byte → 0 < byte → byte < 256
    → slice_index fan byte + slice_index fan (byte - 1) ≡ ids_up_to byte ids
sum_is fan ids byte h e k =
    let before : byte - 1 + 1 ≡ byte = omega (arith, e) in
    omega (
      arith,
      h.counts byte (omega arith) k,
      h.sums (byte - 1) (omega (arith, e)),
      ids_up_to-next (byte - 1) ids,
      ap (λ (b : ℕ). ids_up_to b ids) before,
      ap (λ (b : ℕ). ids_with b ids) before,
    )

pub sums-more : (fan : List ℕ) (ids : List (List ℕ)) (byte sum : ℕ) → AreSums fan ids byte → byte < 256 → sum ≡ ids_up_to byte ids
    → AreSums (set fan byte sum) ids (byte + 1)
sums-more fan ids byte sum h e k =
    let within : byte < length fan = omega (arith, h.size, e) in
    record {
      size = length-set fan byte sum ∙ h.size;
      sums = below_more _ _ (λ b i. get_or-set_other fan byte b sum 0 (λ same. omega (arith, i, same)) ∙ h.sums b i)
          (get_or-set_same fan byte sum 0 within ∙ k);
      counts = λ b i j. get_or-set_other fan byte b sum 0 (λ same. omega (arith, i, same)) ∙ h.counts b (omega (arith, i)) j;
    }

-- at the end it is the fan
pub sums-all : (fan : List ℕ) (ids : List (List ℕ)) (byte : ℕ) → AreSums fan ids byte → 256 ≤ byte → fan ≡ exact_fan ids
sums-all fan ids byte h k =
    let e : length fan ≡ 256 = h.size in
    same_lists fan (exact_fan ids) (e ∙ sym (length-exact_fan ids))
    (λ i d j.
    get_or_default fan i d 0 j ∙ h.sums i (omega (arith, e, j, k)) ∙ sym (exact_fan-at ids i (omega (arith, e, j)))
    ∙ get_or_default (exact_fan ids) i 0 d (omega (arith, e, j, length-exact_fan ids)))

-- no more ids than commits
pub ids_up_to-small : (byte : ℕ) (commits : List PlanCommit) → ids_up_to byte (ids_of commits) ≤ length commits
ids_up_to-small byte commits =
    omega (
      arith,
      count_by-le-length (λ (id : List ℕ). nat_le (slice_index id 0) byte) (ids_of commits),
      length-map commits (λ (c : PlanCommit). c.id),
    )
