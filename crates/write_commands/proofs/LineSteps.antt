-- Of which kind the ids of a stream are.
use Rattle.std.proofs.Common.{◌≡◌, ℕ, ◌<◌, Bool, true, false, List, length, take}
use Rattle.std.proofs.Common.{refl, sym, subst, None}
use Rattle.std.proofs.lemmas.Bool.{le-leb, lt-leb}
use Rattle.std.proofs.lemmas.List.Sums.{AllPass-from_list_all, list_all-from_AllPass}
use Rattle.std.specs.Prelude.{nat_le}
use Rattle.std.specs.List.{AllPass, IsSplitAt, list_all}
use Rattle.gix_hash_core.specs.declared.kind.Kind.TheVariants.{Sha1, Sha256}
use Rattle.object_stream.specs.BatchEntry.{is_lower_digit}
use Rattle.write_commands.specs.NewStream.{kind_of_stream}

-- the kind of a stream, by its front
pub kind_of_short : (bytes : List ℕ) → length bytes < 64 → Sha1 ≡ kind_of_stream None bytes
kind_of_short bytes short = let few : nat_le 64 (length bytes) ≡ false = lt-leb 64 (length bytes) short in rw few refl

pub kind_of_digits : (bytes digits rest : List ℕ) → IsSplitAt bytes 64 digits rest → AllPass is_lower_digit digits
    → Sha256 ≡ kind_of_stream None bytes
kind_of_digits bytes digits rest split lower =
    let many : nat_le 64 (length bytes) ≡ true = le-leb 64 (length bytes) split.0 in
    let are : list_all is_lower_digit (take 64 bytes) ≡ true = list_all-from_AllPass is_lower_digit (take 64 bytes)
    (subst (λ (l : List ℕ). AllPass is_lower_digit l) split.1 lower) in
    rw (many, are) refl

pub kind_of_others : (bytes digits rest : List ℕ) → IsSplitAt bytes 64 digits rest → ¬ AllPass is_lower_digit digits
    → Sha1 ≡ kind_of_stream None bytes
kind_of_others bytes digits rest split other =
    let many : nat_le 64 (length bytes) ≡ true = le-leb 64 (length bytes) split.0 in
    let none : list_all is_lower_digit (take 64 bytes) ≡ false = fails (list_all is_lower_digit (take 64 bytes)) (λ all.
    other (subst (λ (l : List ℕ). AllPass is_lower_digit l) (sym split.1)
    (AllPass-from_list_all is_lower_digit (take 64 bytes) all))) in
    rw (many, none) refl
  where
    fails : (b : Bool) → (b ≡ true → ⊥) → b ≡ false
    fails true h = absurd (h refl)
    fails false h = refl
