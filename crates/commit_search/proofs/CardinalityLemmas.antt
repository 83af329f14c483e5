-- Lists of different numbers.
use Rattle.std.proofs.Common.{◌≢◌, ℕ, ◌≤◌, List, length, Contains, AllPairs}
use Rattle.std.specs.Cmp.{unsigned_Decides, nat_eq_equiv}
use Rattle.std.proofs.lemmas.Map.Made.{length-le_from_is_member, is_member-Decides, IsDistinct-from_AllPairs}

-- different numbers that all stand in a list are no more than it has
pub no_more : (xs ys : List ℕ) → AllPairs (λ p q. p ≢ q) xs → ((q : ℕ) → Contains xs q → Contains ys q) → length xs ≤ length ys
no_more xs ys apart within =
    length-le_from_is_member nat_eq_equiv xs ys (IsDistinct-from_AllPairs unsigned_Decides xs apart) (λ q e.
    (is_member-Decides unsigned_Decides ys q).1 (within q ((is_member-Decides unsigned_Decides xs q).0 e)))
