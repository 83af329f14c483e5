-- What paint says, joined and passed on.
use Rattle.std.proofs.Common.{◌≡◌, ℕ, ◌<◌, List, true, false, ◌&&◌, ◌||◌, refl, sym, ◌∙◌, subst, ⊎_elim}
use Rattle.std.proofs.Common.{◌⊎◌, lit<}
use Rattle.std.proofs.lemmas.Bool.{both_ways, false_from_ne_true, true≢false, false≢true, or_cases, or_left, or_right}
use Rattle.std.proofs.lemmas.Bool.{and_parts, cond-true}
use Rattle.graph_walks.specs.History.{Node, IsParent}
use Rattle.graph_bases.specs.Bases.{IsCommonAncestor}
use Rattle.graph_bases.specs.Paint.{is_painted, is_on_one_side}
use Rattle.graph_bases.specs.Paint.{is_ahead, is_behind, is_base, first_leads, others_lead, is_stale, covers, joined, passed}
use Rattle.graph_bases.specs.Paint.{unknown, IsSo, Grows}
use Rattle.graph_bases.specs.declared.paint.Paint.{Paint}
use Rattle.graph_bases.specs.declared.paint.Paint.TheVariants.{Bare, First, Others, Both, Stale}
use Rattle.graph_bases.proofs.ReachLemmas.{proper_step, proper_reaches, reaches_itself, from_some_then, step_reaches}

pub stale_first : (x : Paint) → is_stale x ≡ true → first_leads x ≡ true
stale_first Bare e = e
stale_first First e = refl
stale_first Others e = e
stale_first Both e = refl
stale_first Stale e = refl

pub stale_others : (x : Paint) → is_stale x ≡ true → others_lead x ≡ true
stale_others Bare e = e
stale_others First e = e
stale_others Others e = refl
stale_others Both e = refl
stale_others Stale e = refl

pub both_of : (x : Paint) → first_leads x ≡ true → others_lead x ≡ true → is_stale x ≡ false → x ≡ Both
both_of Bare f s n = absurd (false≢true f)
both_of First f s n = absurd (false≢true s)
both_of Others f s n = absurd (false≢true f)
both_of Both f s n = refl
both_of Stale f s n = absurd (true≢false n)

pub first_of : (x : Paint) → first_leads x ≡ true → others_lead x ≡ false → x ≡ First
first_of Bare f s = absurd (false≢true f)
first_of First f s = refl
first_of Others f s = absurd (false≢true f)
first_of Both f s = absurd (true≢false s)
first_of Stale f s = absurd (true≢false s)

pub others_of : (x : Paint) → others_lead x ≡ true → first_leads x ≡ false → x ≡ Others
others_of Bare f s = absurd (false≢true f)
others_of First f s = absurd (false≢true f)
others_of Others f s = refl
others_of Both f s = absurd (true≢false s)
others_of Stale f s = absurd (true≢false s)

pub is_both : (x : Paint) → is_base x ≡ true → x ≡ Both
is_both Both e = refl
is_both _ e = absurd (false≢true e)

pub is_first : (x : Paint) → is_ahead x ≡ true → x ≡ First
is_first First e = refl
is_first _ e = absurd (false≢true e)

pub is_others : (x : Paint) → is_behind x ≡ true → x ≡ Others
is_others Others e = refl
is_others _ e = absurd (false≢true e)

-- two say together what one of them says
joined_says : (x y : Paint) → (first_leads (joined x y) ≡ (first_leads x || first_leads y))
    × (others_lead (joined x y) ≡ (others_lead x || others_lead y)) × (is_stale (joined x y) ≡ (is_stale x || is_stale y))
joined_says Bare Bare = (refl, refl, refl)
joined_says Bare _ = (refl, refl, refl)
joined_says First Bare = (refl, refl, refl)
joined_says First _ = (refl, refl, refl)
joined_says Others Bare = (refl, refl, refl)
joined_says Others _ = (refl, refl, refl)
joined_says Both Bare = (refl, refl, refl)
joined_says Both _ = (refl, refl, refl)
joined_says Stale Bare = (refl, refl, refl)
joined_says Stale _ = (refl, refl, refl)

-- paint that is joined to what does not say it leaves less unknown
pub joined_knows : (x y : Paint) → covers x y ≡ false → unknown (joined x y) < unknown x
joined_knows Bare Bare e = absurd (true≢false e)
joined_knows Bare _ e = lit< tt
joined_knows First Bare e = absurd (true≢false e)
joined_knows First First e = absurd (true≢false e)
joined_knows First _ e = lit< tt
joined_knows Others Bare e = absurd (true≢false e)
joined_knows Others Others e = absurd (true≢false e)
joined_knows Others _ e = lit< tt
joined_knows Both Stale e = lit< tt
joined_knows Both _ e = absurd (true≢false e)
joined_knows Stale Bare e = absurd (true≢false e)
joined_knows Stale _ e = absurd (true≢false e)

pub base_first : (x : Paint) → is_base x ≡ true → first_leads x ≡ true
base_first Both e = refl
base_first _ e = absurd (false≢true e)

pub base_others : (x : Paint) → is_base x ≡ true → others_lead x ≡ true
base_others Both e = refl
base_others _ e = absurd (false≢true e)

-- what joins to the paint of a base, and was not known, comes to one that not both led to
pub base_is_new : (x y : Paint) → covers x y ≡ false → is_base (joined x y) ≡ true → first_leads x ≡ true
    → others_lead x ≡ true → ⊥
base_is_new Both Stale e base f s = false≢true base
base_is_new Both _ e base f s = true≢false e
base_is_new Stale Bare e base f s = true≢false e
base_is_new Stale _ e base f s = true≢false e
base_is_new Bare _ e base f s = false≢true f
base_is_new First _ e base f s = false≢true s
base_is_new Others _ e base f s = false≢true f

-- paint that is joined to what does not say it
pub joined_painted : (x y : Paint) → covers x y ≡ false → is_painted (joined x y) ≡ true
joined_painted Bare Bare e = absurd (true≢false e)
joined_painted Bare _ e = refl
joined_painted First Bare e = absurd (true≢false e)
joined_painted First _ e = refl
joined_painted Others Bare e = absurd (true≢false e)
joined_painted Others _ e = refl
joined_painted Both Bare e = absurd (true≢false e)
joined_painted Both _ e = refl
joined_painted Stale Bare e = absurd (true≢false e)
joined_painted Stale _ e = refl

-- what joins to paint that is not stale is not stale
pub joined_fresh : (x y : Paint) → is_stale (joined x y) ≡ false → is_stale y ≡ false
joined_fresh x y e =
    false_from_ne_true (is_stale y) (λ (stale : is_stale y ≡ true).
    both_ways (is_stale (joined x y)) e ((joined_says x y).2 ∙ or_right (is_stale x) (is_stale y) stale))

pub one_side_painted : (x : Paint) → is_on_one_side x ≡ true → is_painted x ≡ true
one_side_painted First e = refl
one_side_painted Others e = refl
one_side_painted _ e = absurd (false≢true e)

pub passed_one_side : (x : Paint) → is_painted x ≡ true → is_stale (passed x) ≡ false → is_on_one_side x ≡ true
passed_one_side Bare p e = p
passed_one_side First p e = refl
passed_one_side Others p e = refl
passed_one_side Both p e = absurd (true≢false e)
passed_one_side Stale p e = absurd (true≢false e)

pub painted_leads : (x : Paint) → is_painted x ≡ true → (first_leads x ≡ true) ⊎ (others_lead x ≡ true)
painted_leads x e = or_cases (first_leads x) (others_lead x) e

pub first_painted : (x : Paint) → first_leads x ≡ true → is_painted x ≡ true
first_painted x e = or_left (first_leads x) (others_lead x) e

pub others_painted : (x : Paint) → others_lead x ≡ true → is_painted x ≡ true
others_painted x e = or_right (first_leads x) (others_lead x) e

pub one_side : (x : Paint) → is_on_one_side x ≡ true → (is_ahead x ≡ true) ⊎ (is_behind x ≡ true)
one_side x e = or_cases (is_ahead x) (is_behind x) e

pub ahead_live : (x : Paint) → is_ahead x ≡ true → (is_painted x ≡ true) × (is_stale x ≡ false)
ahead_live First e = (refl, refl)
ahead_live _ e = absurd (false≢true e)

pub behind_live : (x : Paint) → is_behind x ≡ true → (is_painted x ≡ true) × (is_stale x ≡ false)
behind_live Others e = (refl, refl)
behind_live _ e = absurd (false≢true e)

pub base_live : (x : Paint) → is_base x ≡ true → (is_painted x ≡ true) × (is_stale x ≡ false)
base_live Both e = (refl, refl)
base_live _ e = absurd (false≢true e)

-- what a commit says of its parents
pub passed_says : (x : Paint) → (first_leads (passed x) ≡ first_leads x) × (others_lead (passed x) ≡ others_lead x)
    × (is_stale (passed x) ≡ (first_leads x && others_lead x))
passed_says Bare = (refl, refl, refl)
passed_says First = (refl, refl, refl)
passed_says Others = (refl, refl, refl)
passed_says Both = (refl, refl, refl)
passed_says Stale = (refl, refl, refl)

pub grows_refl : (x : Paint) → Grows x x
grows_refl x = record { first = λ e. e; others = λ e. e; stale = λ e. e }

pub grows_trans : (x y z : Paint) → Grows x y → Grows y z → Grows x z
grows_trans x y z a b = record {
  first = λ e. b.first (a.first e);
  others = λ e. b.others (a.others e);
  stale = λ e. b.stale (a.stale e);
}

pub grows_left : (x y : Paint) → Grows x (joined x y)
grows_left x y = record {
  first = λ e. (joined_says x y).0 ∙ or_left (first_leads x) (first_leads y) e;
  others = λ e. (joined_says x y).1 ∙ or_left (others_lead x) (others_lead y) e;
  stale = λ e. (joined_says x y).2 ∙ or_left (is_stale x) (is_stale y) e;
}

pub grows_right : (x y : Paint) → Grows y (joined x y)
grows_right x y = record {
  first = λ e. (joined_says x y).0 ∙ or_right (first_leads x) (first_leads y) e;
  others = λ e. (joined_says x y).1 ∙ or_right (others_lead x) (others_lead y) e;
  stale = λ e. (joined_says x y).2 ∙ or_right (is_stale x) (is_stale y) e;
}

-- no more than what two say together is what each says
pub grows_joined : (x y z : Paint) → Grows x z → Grows y z → Grows (joined x y) z
grows_joined x y z a b = record {
  first = λ e. ⊎_elim a.first b.first (or_cases (first_leads x) (first_leads y) (sym (joined_says x y).0 ∙ e));
  others = λ e. ⊎_elim a.others b.others (or_cases (others_lead x) (others_lead y) (sym (joined_says x y).1 ∙ e));
  stale = λ e. ⊎_elim a.stale b.stale (or_cases (is_stale x) (is_stale y) (sym (joined_says x y).2 ∙ e));
}

pub covers_joined : (x y : Paint) → covers x y ≡ true → joined x y ≡ x
covers_joined x y e = cond-true (covers x y) x _ e

pub covers_grows : (x y : Paint) → covers x y ≡ true → Grows y x
covers_grows x y e =
    subst (Grows y) (cond-true (covers x y) x _ e) (grows_right x y)

pub so_joined : (h : List Node) (a : ℕ) (bs : List ℕ) (p : ℕ) (x y : Paint) → IsSo h a bs p x → IsSo h a bs p y
    → IsSo h a bs p (joined x y)
so_joined h a bs p x y sx sy = record {
  first = λ e. ⊎_elim sx.first sy.first (or_cases (first_leads x) (first_leads y) (sym (joined_says x y).0 ∙ e));
  others = λ e. ⊎_elim sx.others sy.others (or_cases (others_lead x) (others_lead y) (sym (joined_says x y).1 ∙ e));
  stale = λ e. ⊎_elim sx.stale sy.stale (or_cases (is_stale x) (is_stale y) (sym (joined_says x y).2 ∙ e));
}

-- what a commit says of a parent is so
pub so_passed : (h : List Node) (a : ℕ) (bs : List ℕ) (p q : ℕ) (x : Paint) → IsSo h a bs p x → IsParent h p q
    → IsSo h a bs q (passed x)
so_passed h a bs p q x so parent = record {
  first = λ e. proper_reaches h a q (proper_step h a p q (so.first (sym (passed_says x).0 ∙ e)) parent);
  others = λ e. from_some_then h bs p q (so.others (sym (passed_says x).1 ∙ e)) (step_reaches h p q parent);
  stale = λ e.
      let lead = and_parts (first_leads x) (others_lead x) (sym (passed_says x).2 ∙ e) in
      let common : IsCommonAncestor h a bs p = (so.first lead.0, so.others lead.1) in
      (p, common, proper_step h p p q (reaches_itself h p parent.0) parent);
}
