use Rattle.std.proofs.Common.{◌≡◌, ◌∙◌, ◌++◌, ◌∷◌, [], ℕ, List, length, get_or, slice_range, sym, ap, subst, arith}
use Rattle.std.proofs.Common.{length-append}
use Rattle.graph_levels.specs.ListEnds.{start_in, HasEnds}
use Rattle.graph_levels.proofs.ListLemmas.{old_list, new_list, still_ends}
use Rattle.graph_writer.specs.NewFilters.{new_filter}
use Rattle.graph_writer.proofs.filters.NewFilters.push.Goals as goal

pub returns-clause-old : goal.returns-clause-old
unfolding new_filter
returns-clause-old c i lt =
    let bytes : List ℕ = c.args.self.now.parts.bytes.items in
    let ends : List ℕ = c.args.self.now.parts.ends.items in
    let more : c.extend_from_slice.new.self.items ≡ bytes ++ c.args.filter.now = c.in_ok-extend_from_slice.ensures.items in
    let last : c.len.result ≡ length (bytes ++ c.args.filter.now) =
    c.len.ensures ∙ c.extend_from_slice.new.self.ok.0 ∙ ap length more in
    let longer : c.push_reserved.new.self.items ≡ ends ++ length (bytes ++ c.args.filter.now) ∷ [] =
    c.push_reserved.ensures.items
    ∙ ap (λ (xs : List ℕ). xs ++ c.len.result ∷ []) c.in_ok-reserve.ensures.items
    ∙ ap (λ (n : ℕ). ends ++ n ∷ []) last in
    ap (λ (bs : List ℕ). slice_range bs (start_in c.push_reserved.new.self.items i)
    (get_or c.push_reserved.new.self.items i 0)) more
    ∙ ap (λ (es : List ℕ). slice_range (bytes ++ c.args.filter.now) (start_in es i) (get_or es i 0)) longer
    ∙ old_list bytes ends c.args.filter.now c.args.self.now.whole i lt

pub returns-clause-new : goal.returns-clause-new
unfolding new_filter
returns-clause-new c =
    let bytes : List ℕ = c.args.self.now.parts.bytes.items in
    let ends : List ℕ = c.args.self.now.parts.ends.items in
    let n : ℕ = length ends in
    let more : c.extend_from_slice.new.self.items ≡ bytes ++ c.args.filter.now = c.in_ok-extend_from_slice.ensures.items in
    let last : c.len.result ≡ length (bytes ++ c.args.filter.now) =
    c.len.ensures ∙ c.extend_from_slice.new.self.ok.0 ∙ ap length more in
    let longer : c.push_reserved.new.self.items ≡ ends ++ length (bytes ++ c.args.filter.now) ∷ [] =
    c.push_reserved.ensures.items
    ∙ ap (λ (xs : List ℕ). xs ++ c.len.result ∷ []) c.in_ok-reserve.ensures.items
    ∙ ap (λ (n : ℕ). ends ++ n ∷ []) last in
    ap (λ (bs : List ℕ). slice_range bs (start_in c.push_reserved.new.self.items n)
    (get_or c.push_reserved.new.self.items n 0)) more
    ∙ ap (λ (es : List ℕ). slice_range (bytes ++ c.args.filter.now) (start_in es n) (get_or es n 0)) longer
    ∙ new_list bytes ends c.args.filter.now c.args.self.now.whole

pub invariant_of-self-2 : goal.invariant_of-self-2
invariant_of-self-2 c =
    let bytes : List ℕ = c.args.self.now.parts.bytes.items in
    let ends : List ℕ = c.args.self.now.parts.ends.items in
    let more : c.extend_from_slice.new.self.items ≡ bytes ++ c.args.filter.now = c.in_ok-extend_from_slice.ensures.items in
    let last : c.len.result ≡ length (bytes ++ c.args.filter.now) =
    c.len.ensures ∙ c.extend_from_slice.new.self.ok.0 ∙ ap length more in
    let longer : c.push_reserved.new.self.items ≡ ends ++ length (bytes ++ c.args.filter.now) ∷ [] =
    c.push_reserved.ensures.items
    ∙ ap (λ (xs : List ℕ). xs ++ c.len.result ∷ []) c.in_ok-reserve.ensures.items
    ∙ ap (λ (n : ℕ). ends ++ n ∷ []) last in
    record {
      whole =
          subst (λ (bs : List ℕ). HasEnds bs c.push_reserved.new.self.items) (sym more)
          (subst (HasEnds (bytes ++ c.args.filter.now)) (sym longer)
          (still_ends bytes ends c.args.filter.now c.args.self.now.whole));
      few = omega (arith, ap length more, length-append bytes c.args.filter.now, c.requires);
      fit = c.args.self.now.fit;
    }

pub returns-in_err-reserve-clause-old : goal.returns-in_err-reserve-clause-old
unfolding new_filter
returns-in_err-reserve-clause-old c i lt =
    ap (λ (es : List ℕ). slice_range c.args.self.now.parts.bytes.items (start_in es i) (get_or es i 0))
    c.in_err-reserve.ensures.items

pub returns-in_err-extend_from_slice-clause-old : goal.returns-in_err-extend_from_slice-clause-old
unfolding new_filter
returns-in_err-extend_from_slice-clause-old c i lt =
    ap (λ (es : List ℕ). slice_range c.extend_from_slice.new.self.items (start_in es i) (get_or es i 0))
    c.in_ok-reserve.ensures.items
    ∙ ap (λ (bs : List ℕ). slice_range bs (start_in c.args.self.now.parts.ends.items i)
    (get_or c.args.self.now.parts.ends.items i 0)) c.in_err-extend_from_slice.ensures.items
