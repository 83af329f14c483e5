-- the heads of the lines that were read
use Rattle.std.proofs.Common.{◌≡◌, ℕ, List, [], ◌∷◌, ◌++◌, sym, ap, subst, ◌∙◌, append_assoc}
use Rattle.std.specs.List.{AllZip}
use Rattle.std.proofs.lemmas.List.{append-nil}
use Rattle.graph_find.specs.declared.chain.ChainLayer.{ChainLayer}

-- What is read for the lines that are left follows the heads so far.
pub record ReadTo (R : List ℕ → ChainLayer → Type 0) (names left : List (List ℕ)) (heads : List ChainLayer) : Type 0 where
  pub each : (rest : List ChainLayer) → AllZip R left rest → AllZip R names (heads ++ rest)

module _ (R : List ℕ → ChainLayer → Type 0) (names : List (List ℕ)) where
  pub read-none : (left : List (List ℕ)) → left ≡ names → ReadTo R names left []
  read-none left is = record { each = λ rest zip. subst (λ (ns : List (List ℕ)). AllZip R ns rest) is zip }

  pub read-more : (name : List ℕ) (left after : List (List ℕ)) (head : ChainLayer) (heads more : List ChainLayer)
      → left ≡ name ∷ after → R name head → more ≡ heads ++ head ∷ [] → ReadTo R names left heads → ReadTo R names after more
  read-more name left after head heads more is named pushed read = record {
    each = λ rest zip.
        let from : AllZip R left (head ∷ rest) =
        subst (λ (ns : List (List ℕ)). AllZip R ns (head ∷ rest)) (sym is) (named, zip) in
        let same : heads ++ head ∷ rest ≡ more ++ rest =
        sym (append_assoc heads (head ∷ []) rest) ∙ ap (λ (hs : List ChainLayer). hs ++ rest) (sym pushed) in
        subst (AllZip R names) same (read.each (head ∷ rest) from);
  }

  pub read-all : (left : List (List ℕ)) (heads : List ChainLayer) → left ≡ [] → ReadTo R names left heads → AllZip R names heads
  read-all left heads is read =
      subst (AllZip R names) (append-nil heads)
      (read.each [] (subst (λ (ns : List (List ℕ)). AllZip R ns []) (sym is) tt))
