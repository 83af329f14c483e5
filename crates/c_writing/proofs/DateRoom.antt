-- the dates that are written to a room so far
use Rattle.std.proofs.Common.{◌≡◌, ap, ℕ, ◌+◌, ◌<◌, ◌≤◌, List, length, take, set, min, get_or, arith, ⊎_elim}
use Rattle.std.proofs.lemmas.Bool.{cases_lt}
use Rattle.std.proofs.lemmas.List.{take_all}
use Rattle.std.proofs.lemmas.Option.{slice_get-get_or}
use Rattle.c_opening.specs.Answers.{written}
use Rattle.c_opening.proofs.Written.{as_many_as_fit, next_item}

-- the date at a place is written there
pub next_date : (dates room : List ℕ) (i : ℕ) → i < length dates → i < length room
    → set (written (take i dates) room) i (get_or dates i 0) ≡ written (take (i + 1) dates) room
next_date dates room i lt fits = next_item dates i (get_or dates i 0) room (slice_get-get_or dates i 0 lt) fits

-- those that fit are all that is written
pub all_that_fit : (dates room : List ℕ) (k : ℕ) → k ≡ min (length room) (length dates)
    → written (take k dates) room ≡ written dates room
all_that_fit dates room k is = ⊎_elim
    (λ (more : length room < length dates). as_many_as_fit dates room k (omega (arith, is, more)))
    (λ (all : length dates ≤ length room). ap (λ ds. written ds room) (take_all k dates (omega (arith, is, all))))
    (cases_lt (length room) (length dates))
