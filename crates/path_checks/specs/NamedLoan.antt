-- What is seen of a writer that is lent. For private contracts.
use Rattle.std.specs.Prelude.{ℕ, List, ◌∷◌, Option, option_map}

-- the name of a loan, and then the bytes, where they are known
abbrev pub named : ℕ → Option (List ℕ) → Option (List ℕ)
named name bytes = option_map (λ known. name ∷ known) bytes
