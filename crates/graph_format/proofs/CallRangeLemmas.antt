-- Parts of a check by number, each of which calls once, call on a range of positions.
use Rattle.std.proofs.Common.{◌≡◌, ℕ, zero, suc, ◌+◌, List, [], ◌∷◌, ◌++◌, refl, ap, ◌∙◌, arith}
use Rattle.std.specs.List.{flat_map, range_with_len}
use Rattle.graph_format.specs.Points.{Point, calls}
use Rattle.graph_format.proofs.PointLemmas.{calls-append}

-- numbers, and then those that follow them
pub range-append : (a m n : ℕ) → range_with_len a m ++ range_with_len (a + m) n ≡ range_with_len a (m + n)
range-append a zero n = ap (λ (k : ℕ). range_with_len k n) (omega arith) ∙ ap (range_with_len a) (omega arith)
range-append a (suc m) n =
    let more : suc (m + n) ≡ suc m + n = omega arith in
    let next : a + suc m ≡ a + 1 + m = omega arith in
    ap (λ (k : ℕ). a ∷ (range_with_len (a + 1) m ++ range_with_len k n)) next
    ∙ ap (λ (ns : List ℕ). a ∷ ns) (range-append (a + 1) m n)
    ∙ ap (range_with_len a) more

-- parts by number, each of which calls once, at the position so many past its number
module _ {X : Type 0} (part : ℕ → List (Point X)) (before : ℕ) (once : (pos : ℕ) → calls (part pos) ≡ (before + pos) ∷ []) where
  pub calls-range : (a n : ℕ) → calls (flat_map part (range_with_len a n)) ≡ range_with_len (before + a) n
  calls-range a zero = refl
  calls-range a (suc n) =
      let rest : List ℕ = calls (flat_map part (range_with_len (a + 1) n)) in
      calls-append (part a) (flat_map part (range_with_len (a + 1) n))
      ∙ ap (λ (ps : List ℕ). ps ++ rest) (once a)
      ∙ ap (λ (ps : List ℕ). (before + a) ∷ ps) (calls-range (a + 1) n ∙ ap (λ (p : ℕ). range_with_len p n) (omega arith))
