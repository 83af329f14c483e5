use Rattle.std.proofs.Common.{◌≡◌, ◌∙◌, ◌++◌, ◌∷◌, [], ℕ, List, length, get_or, slice_range, sym, ap, subst}
use Rattle.graph_levels.specs.ListEnds.{start_in, HasEnds}
use Rattle.graph_levels.specs.ParentLists.{parent_list}
use Rattle.graph_levels.proofs.ListLemmas.{old_list, new_list, still_ends}
use Rattle.graph_levels.proofs.lists.ParentLists.push.Goals as goal

-- what the two lists are after the additions
positions_are : (c : goal.After-self-2-1) → c.extend_from_slice.new.self.items
    ≡ c.args.self.now.positions.items ++ c.args.parents.now
positions_are c = c.in_ok-extend_from_slice.ensures.items

ends_are : (c : goal.After-self-2-1) → c.push_reserved.new.self.items
    ≡ c.args.self.now.ends.items ++ length (c.args.self.now.positions.items ++ c.args.parents.now) ∷ []
ends_are c =
    c.push_reserved.ensures.items
    ∙ ap (λ (xs : List ℕ). xs ++ c.len.result ∷ []) c.in_ok-reserve.ensures.items
    ∙ ap (λ (n : ℕ). c.args.self.now.ends.items ++ n ∷ [])
    (let it : c.len.result ≡ length (c.args.self.now.positions.items ++ c.args.parents.now) =
    c.len.ensures ∙ c.extend_from_slice.new.self.ok.0 ∙ ap length (positions_are c) in it)

pub returns-clause-old : goal.returns-clause-old
unfolding parent_list
returns-clause-old c i lt =
    ap (λ (ps : List ℕ). slice_range ps (start_in c.push_reserved.new.self.items i)
    (get_or c.push_reserved.new.self.items i 0)) (positions_are c)
    ∙ ap (λ (es : List ℕ). slice_range (c.args.self.now.positions.items ++ c.args.parents.now) (start_in es i)
    (get_or es i 0)) (ends_are c)
    ∙ old_list c.args.self.now.positions.items c.args.self.now.ends.items c.args.parents.now c.args.self.now.whole i lt

pub returns-clause-new : goal.returns-clause-new
unfolding parent_list
returns-clause-new c =
    let n : ℕ = length c.args.self.now.ends.items in
    ap (λ (ps : List ℕ). slice_range ps (start_in c.push_reserved.new.self.items n)
    (get_or c.push_reserved.new.self.items n 0)) (positions_are c)
    ∙ ap (λ (es : List ℕ). slice_range (c.args.self.now.positions.items ++ c.args.parents.now) (start_in es n)
    (get_or es n 0)) (ends_are c)
    ∙ new_list c.args.self.now.positions.items c.args.self.now.ends.items c.args.parents.now c.args.self.now.whole

pub invariant_of-self-2 : goal.invariant_of-self-2
invariant_of-self-2 c =
    let positions : c.extend_from_slice.new.self.items ≡ c.args.self.now.positions.items ++ c.args.parents.now =
    c.in_ok-extend_from_slice.ensures.items in
    let count : c.len.result ≡ length (c.args.self.now.positions.items ++ c.args.parents.now) =
    c.len.ensures ∙ c.extend_from_slice.new.self.ok.0 ∙ ap length positions in
    let ends : c.push_reserved.new.self.items
    ≡ c.args.self.now.ends.items ++ length (c.args.self.now.positions.items ++ c.args.parents.now) ∷ [] =
    c.push_reserved.ensures.items
    ∙ ap (λ (xs : List ℕ). xs ++ c.len.result ∷ []) c.in_ok-reserve.ensures.items
    ∙ ap (λ (n : ℕ). c.args.self.now.ends.items ++ n ∷ []) count in
    record {
      whole =
          subst (λ (ps : List ℕ). HasEnds ps c.push_reserved.new.self.items) (sym positions)
          (subst (HasEnds (c.args.self.now.positions.items ++ c.args.parents.now)) (sym ends)
          (still_ends c.args.self.now.positions.items c.args.self.now.ends.items c.args.parents.now c.args.self.now.whole));
    }

pub returns-in_err-reserve-clause-old : goal.returns-in_err-reserve-clause-old
unfolding parent_list
returns-in_err-reserve-clause-old c i lt =
    ap (λ (es : List ℕ). slice_range c.args.self.now.positions.items (start_in es i)
    (get_or es i 0)) c.in_err-reserve.ensures.items

pub returns-in_err-extend_from_slice-clause-old : goal.returns-in_err-extend_from_slice-clause-old
unfolding parent_list
returns-in_err-extend_from_slice-clause-old c i lt =
    ap (λ (es : List ℕ). slice_range c.extend_from_slice.new.self.items (start_in es i)
    (get_or es i 0)) c.in_ok-reserve.ensures.items
    ∙ ap (λ (ps : List ℕ). slice_range ps (start_in c.args.self.now.ends.items i) (get_or c.args.self.now.ends.items i 0))
    c.in_err-extend_from_slice.ensures.items
