-- what was found, as texts
use Rattle.std.proofs.Common.{◌≡◌, ℕ, ◌<◌, ◌≤◌, Bool, true, false, cond, List, [], ◌∷◌, ◌++◌, Option, length, length-append, refl}
use Rattle.std.proofs.Common.{sym, ap, ◌∙◌, subst, inl, inr, append-nil, arith}
use Rattle.std.specs.Prelude.{All, Contains}
use Rattle.std.specs.Ordering.{nat_cmp}
use Rattle.std.specs.declared.cmp.Ordering.TheVariants.{Less}
use Rattle.std.specs.Cmp.Lexicographic.{slice_cmp}
use Rattle.std.proofs.lemmas.List.Elements.{All-nil, All-cons, All-head, All-tail, All-weaker, All-contains}
use Rattle.std.proofs.lemmas.List.Elements.{Contains-append_right, Contains-append_left, Contains-push}
use Rattle.tree_changes.specs.Stands.{World, entries_of, slashed, stands}
use Rattle.gix_hash_core.specs.declared.kind.Kind.{Kind}
use Rattle.tree_changes.specs.Changes.{AreRisingTexts, IsChangedText, AreChanged, AreMore, IsChangeRefusal}
use Rattle.tree_changes.specs.Reads.{IsFoundThen, IsStopped}
use Rattle.tree_changes.specs.declared.trees.Level.{Level}
use Rattle.tree_changes.specs.declared.changes.Refusal.{Refusal}
use Rattle.tree_changes.specs.declared.changes.Refusal.TheVariants.{TooMany, TooDeep, TooMuch, Source, OutOfMemory}
use Rattle.tree_changes.proofs.LevelLemmas.{none_left}
use Rattle.tree_changes.specs.Walk.{Change, IsChange, IsEarlier, change_key, end_if, leaf_texts, AreRisingChanges, HasNames}
use Rattle.tree_changes.specs.Walk.{IsLeft, IsFoundIn, IsFoundSoFar, AreLevels, Pending}

abbrev pub text_of : Change → List ℕ
text_of c = slashed c.directories ++ c.name

pub key_is : (c : Change) → c.directory ≡ false → change_key c ≡ text_of c
key_is c e =
    ap (λ d. slashed c.directories ++ (c.name ++ end_if d)) e ∙ ap (λ t. slashed c.directories ++ t) (append-nil c.name)

pub all_cond : {X : Type 0} (P : X → Type 0) (d : Bool) (x : X) (xs : List X) → (d ≡ false → P x) → All P xs
    → All P (cond d xs (x ∷ xs))
all_cond P true x xs f h = h
all_cond P false x xs f h = All-cons P x xs (f refl) h

abbrev IsText : List ℕ → List ℕ → Type 0
IsText first text = slice_cmp nat_cmp first text ≡ Less

texts_later : (c : Change) (changes : List Change) → c.directory ≡ false → All (IsEarlier c) changes
    → All (IsText (text_of c)) (leaf_texts changes)
texts_later c [] e h = All-nil (IsText (text_of c))
texts_later c (d ∷ changes) e h =
    all_cond (IsText (text_of c)) d.directory (text_of d) (leaf_texts changes)
    (λ f.
    let P : List ℕ → Type 0 = λ t. slice_cmp nat_cmp t (text_of d) ≡ Less in
    let Q : List ℕ → Type 0 = λ t. slice_cmp nat_cmp (change_key c) t ≡ Less in
    subst P (key_is c e) (subst Q (key_is d f) (All-head (IsEarlier c) d changes h)))
    (texts_later c changes e (All-tail (IsEarlier c) d changes h))

rising_cond : (d : Bool) (text : List ℕ) (texts : List (List ℕ)) → (d ≡ false → All (IsText text) texts) → AreRisingTexts texts
    → AreRisingTexts (cond d texts (text ∷ texts))
rising_cond true text texts f h = h
rising_cond false text texts f h = (f refl, h)

pub texts_rise : (changes : List Change) → AreRisingChanges changes → AreRisingTexts (leaf_texts changes)
texts_rise [] h = tt
texts_rise (c ∷ changes) h =
    rising_cond c.directory (text_of c) (leaf_texts changes) (λ e. texts_later c changes e h.0) (texts_rise changes h.1)

head_cond : (d : Bool) (text : List ℕ) (texts : List (List ℕ)) → d ≡ false → Contains (cond d texts (text ∷ texts)) text
head_cond true text texts e = absurd (let f = e in cc)
head_cond false text texts e = Contains-append_left (text ∷ []) texts text (Contains-push [] text)

tail_cond : (d : Bool) (text : List ℕ) (texts : List (List ℕ)) (t : List ℕ) → Contains texts t
    → Contains (cond d texts (text ∷ texts)) t
tail_cond true text texts t h = h
tail_cond false text texts t h = Contains-append_right (text ∷ []) texts t h

abbrev pub HasText : List (List ℕ) → Change → Type 0
HasText texts c = c.directory ≡ false → Contains texts (text_of c)

pub have_texts : (changes : List Change) → All (HasText (leaf_texts changes)) changes
have_texts [] = All-nil (HasText [])
have_texts (c ∷ changes) =
    All-cons (HasText (leaf_texts (c ∷ changes))) c changes (head_cond c.directory (text_of c) (leaf_texts changes))
    (All-weaker (HasText (leaf_texts changes)) (HasText (leaf_texts (c ∷ changes)))
    (λ d f e. tail_cond c.directory (text_of c) (leaf_texts changes) (text_of d) (f e)) changes (have_texts changes))

module _ (world : World) (old new : Option (List ℕ)) where
  abbrev IsBetween : Change → Type 0
  IsBetween c = IsChange world (entries_of world old) (entries_of world new) c

  changed_text : (c : Change) → IsBetween c → HasNames c → c.directory ≡ false → IsChangedText world old new (text_of c)
  changed_text c h named e =
      let P : Bool → Type 0 = λ d. IsChange world (entries_of world old) (entries_of world new)
      (record { directory = d; directories = c.directories; name = c.name; old = c.old; new = c.new }) in
      let k = subst P e h in
      record {
        path = record { directories = c.directories; name = c.name };
        directories = named.0;
        name = named.1;
        text_is = refl;
        changed = λ same. k.2 (sym k.0 ∙ same ∙ k.1);
      }

  pub each_text : (changes : List Change) → All IsBetween changes → All HasNames changes
      → All (IsChangedText world old new) (leaf_texts changes)
  each_text [] h k = All-nil (IsChangedText world old new)
  each_text (c ∷ changes) h k =
      all_cond (IsChangedText world old new) c.directory (text_of c) (leaf_texts changes)
      (changed_text c (All-head IsBetween c changes h) (All-head HasNames c changes k))
      (each_text changes (All-tail IsBetween c changes h) (All-tail HasNames c changes k))

  pub are_changed : (found : List Change) (left : List Pending) → IsFoundIn world old new found left → All HasNames found
      → left ≡ [] → AreChanged world old new (leaf_texts found)
  are_changed found left h named none = record {
    rising = texts_rise found h.rising;
    each = each_text found h.each named;
    all = λ path changed.
        let c : Change = record {
          directory = false;
          directories = path.directories;
          name = path.name;
          old = stands world old path;
          new = stands world new path;
        } in
        elim (h.all c (refl, refl, changed)) [
          | inl f ↦ All-contains (HasText (leaf_texts found)) found c (have_texts found) f refl
          | inr l ↦ absurd (subst (λ t. IsLeft world t c) none l)
        ];
  }

  pub are_more : (found : List Change) (left : List Pending) (most : ℕ) → IsFoundIn world old new found left
      → All HasNames found → most < length (leaf_texts found) → AreMore world old new most
  are_more found left most h named more = record {
    texts = leaf_texts found;
    rising = texts_rise found h.rising;
    each = each_text found h.each named;
    more = more;
  }

-- a step to the next path, by another name of the kind
pub by_kind : (kind kind' : Kind) (says says' : World → Type 0) (old new : Option (List ℕ)) (budget : ℕ) (found : List Change)
    (path path' : List ℕ) (levels levels' : List Level) (trees trees' : ℕ) (more : Bool) → kind' ≡ kind
    → IsFoundSoFar kind says old new budget found path levels trees
    → ((old new : Option (List ℕ)) (budget : ℕ) (found : List Change)
    → IsFoundSoFar kind' says old new budget found path levels trees
    → IsFoundThen kind' says' old new budget found more path' levels' trees')
    → IsFoundThen kind says' old new budget found more path' levels' trees'
by_kind kind kind' says says' old new budget found path path' levels levels' trees trees' more e h step =
    subst (λ k. IsFoundThen k says' old new budget found more path' levels' trees') e
    (step old new budget found (subst (λ k. IsFoundSoFar k says old new budget found path levels trees) (sym e) h))

-- all was found
pub all_found : (kind : Kind) (says : World → Type 0) (old new : Option (List ℕ)) (budget : ℕ) (found : List Change)
    (more : Bool) (path : List ℕ) (levels : List Level) (trees : ℕ) (texts : List (List ℕ))
    → IsFoundThen kind says old new budget found more path levels trees → more ≡ false → leaf_texts found ≡ texts
    → (world : World) → says world → AreChanged world old new texts
all_found kind says old new budget found more path levels trees texts h e same world w =
    let all = h.texts_all e in
    subst (AreChanged world old new) (all.0 ∙ same)
    (are_changed world old new h.found_then h.so_far.left (h.so_far.agreed world w) h.so_far.named
    (none_left kind path h.so_far.left (subst (λ t. AreLevels kind path t h.so_far.left) all.1 h.so_far.levels_are)))

-- one path more than may be was found
pub too_many : (kind : Kind) (says : World → Type 0) (old new : Option (List ℕ)) (budget : ℕ) (found : List Change)
    (more : Bool) (path : List ℕ) (levels : List Level) (trees : ℕ) (texts : List (List ℕ)) (most : ℕ)
    → IsFoundThen kind says old new budget found more path levels trees → more ≡ true → leaf_texts found ≡ texts
    → most ≤ length texts → (world : World) → says world → AreMore world old new most
too_many kind says old new budget found more path levels trees texts most h e same full world w =
    are_more world old new h.found_then h.so_far.left most (h.so_far.agreed world w) h.so_far.named
    (omega (arith, full, ap length (h.texts_more e), length-append (leaf_texts found) (path ∷ []), ap length same))

pub stopped : {E : Type 0} (refused : List ℕ → E → Type 0) (paths names trees : ℕ) (world : World) (old new : Option (List ℕ))
    (refusal : Refusal E) → IsStopped refused names trees world old new refusal
    → IsChangeRefusal refused paths names trees world old new refusal
stopped refused paths names trees world old new TooMany h = absurd h
stopped refused paths names trees world old new TooDeep h = h
stopped refused paths names trees world old new TooMuch h = h
stopped refused paths names trees world old new (Source error) h = h
stopped refused paths names trees world old new OutOfMemory h = tt
