-- From ids one after another to all of them.
use Rattle.std.proofs.Common.{◌≡◌, ℕ, zero, suc, ◌+◌, ◌<◌, true, List, [], ◌∷◌, ◌++◌, All, Option, Some, None}
use Rattle.std.proofs.Common.{length, map, take, get_or, slice_get, option_map, string_bytes, inl, inr, refl, ap, sym, subst, ◌∙◌}
use Rattle.std.specs.Global.{Global}
use Rattle.std.specs.List.{AllZip}
use Rattle.std.specs.Option.{is_some}
use Rattle.std.specs.Prelude.{String}
use Rattle.std.proofs.lemmas.List.{map-append, take_more}
use Rattle.std.proofs.lemmas.List.Elements.{All-get_or, All-push}
use Rattle.std.proofs.lemmas.Option.{get_or_from_slice_get, slice_get_read, slice_get_within, slice_get-map}
use Rattle.gix_hash_core.specs.Hexadecimal.{SpellsId, SpellsNone}
use Rattle.gix_hash_core.specs.declared.object_id.IdError.{IdError}
use Rattle.graph_format.specs.Layer.{Layer}
use Rattle.graph_format.specs.Lookup.{scan}
use Rattle.graph_format.specs.declared.Position.{Position}
use Rattle.gix_commitgraph.specs.Graph.{graph_ids, total}
use Rattle.gix_commitgraph.specs.GraphLookup.{position_number}
use Rattle.commit_search.specs.Positions.{numbers_of}
use Rattle.answers.specs.FoundOf.{FindsAt}
use Rattle.graph_commands.specs.Ancestor.{IsThere}
use Rattle.history_commands.specs.AskedOnce.{SpellNotAll}
use Rattle.history_commands.specs.CheckedReplies.{IsFirstMissing, Scans}

-- the first text that spells no id comes after some that do
pub spell_not_all : (texts ids : List (List ℕ)) (i : ℕ) (text : List ℕ) (error : IdError)
    → AllZip SpellsId (take i texts) ids → slice_get texts i ≡ Some text → SpellsNone text error → SpellNotAll texts error
spell_not_all [] ids i text error spelled at none = cc at
spell_not_all (first ∷ texts) ids zero text error spelled at none =
    let same : text ≡ first = cc at in
    inl (subst (λ (t : List ℕ). SpellsNone t error) same none)
spell_not_all (first ∷ texts) [] (suc i) text error spelled at none = absurd spelled
spell_not_all (first ∷ texts) (id ∷ ids) (suc i) text error spelled at none =
    inr (id, spelled.0, spell_not_all texts ids i text error spelled.1 at none)

zip_push : {A B : Type 0} (R : A → B → Type 0) (xs : List A) (ys : List B) (x : A) (y : B)
    → AllZip R xs ys → R x y → AllZip R (xs ++ x ∷ []) (ys ++ y ∷ [])
zip_push R [] [] x y all here = (here, tt)
zip_push R [] (z ∷ ys) x y all here = absurd all
zip_push R (w ∷ xs) [] x y all here = absurd all
zip_push R (w ∷ xs) (z ∷ ys) x y all here = (all.0, zip_push R xs ys x y all.1 here)

-- one more of the first list, and what stands beside it
pub zip_more : {A B : Type 0} (R : A → B → Type 0) (xs : List A) (ys : List B) (i : ℕ) (x : A) (y : B)
    → AllZip R (take i xs) ys → slice_get xs i ≡ Some x → R x y → AllZip R (take (i + 1) xs) (ys ++ y ∷ [])
zip_more {A} {B} R xs ys i x y all at here =
    let more : take (i + 1) xs ≡ take i xs ++ x ∷ [] = take_more xs i x (slice_get_within xs i x at)
    ∙ ap (λ (z : A). take i xs ++ z ∷ []) (get_or_from_slice_get xs i x x at) in
    subst (λ (zs : List A). AllZip R zs (ys ++ y ∷ [])) (sym more) (zip_push R (take i xs) ys x y all here)

-- the bytes of a text that was read
pub text_at : (texts : List (String Global)) (i : ℕ) (text : String Global) → i < length texts → text ≡ get_or texts i text
    → slice_get (map string_bytes texts) i ≡ Some (string_bytes text)
text_at texts i text within read =
    slice_get-map string_bytes texts i
    ∙ ap (option_map string_bytes) (slice_get_read texts (length texts) i text refl within read)

module _ (layers : List Layer) where
  -- one more id, and the position where it was found
  pub found_more : (ids : List (List ℕ)) (found : List Position) (i : ℕ) (id : List ℕ) (pos : Position)
      → AllZip (FindsAt (Scans layers)) (take i ids) (numbers_of found) → slice_get ids i ≡ Some id
      → scan (graph_ids layers) id ≡ Some pos.0
      → AllZip (FindsAt (Scans layers)) (take (i + 1) ids) (numbers_of (found ++ pos ∷ []))
  found_more ids found i id pos before at scanned =
      subst (AllZip (FindsAt (Scans layers)) (take (i + 1) ids))
      (sym (map-append (λ (p : Position). p.0) found (pos ∷ [])))
      (zip_more (FindsAt (Scans layers)) ids (numbers_of found) i id pos.0 before at scanned)

  pub within_more : (found : List Position) (pos : Position) → All (λ (p : Position). p.0 < total layers) found
      → pos.0 < total layers → All (λ (p : Position). p.0 < total layers) (found ++ pos ∷ [])
  within_more found pos before here = All-push (λ (p : Position). p.0 < total layers) found pos before here

  -- an id that was found is there
  pub found_is_there : (id : List ℕ) (found : Option Position) → is_some found ≡ true
      → position_number found ≡ scan (graph_ids layers) id → IsThere layers id
  found_is_there id (Some pos) some is = (pos.0, sym is)
  found_is_there id None some is = cc

  -- one more id that is there
  pub there_more : (ids : List (List ℕ)) (i : ℕ) (id : List ℕ) → All (IsThere layers) (take i ids)
      → slice_get ids i ≡ Some id → IsThere layers id → All (IsThere layers) (take (i + 1) ids)
  there_more ids i id before at here =
      let more : take (i + 1) ids ≡ take i ids ++ id ∷ [] = take_more ids i id (slice_get_within ids i id at)
      ∙ ap (λ (z : List ℕ). take i ids ++ z ∷ []) (get_or_from_slice_get ids i id id at) in
      subst (All (IsThere layers)) (sym more) (All-push (IsThere layers) (take i ids) id before here)

  -- an id that is not there comes after some that are
  pub first_missing : (ids : List (List ℕ)) (i : ℕ) (id : List ℕ) → All (IsThere layers) (take i ids)
      → slice_get ids i ≡ Some id → scan (graph_ids layers) id ≡ None → (i < length ids) × IsFirstMissing layers ids i
  first_missing ids i id found at none = (slice_get_within ids i id at, (found, (id, at, none)))

  -- an id of all that are there is there
  pub not_missing : (ids : List (List ℕ)) (i : ℕ) (id : List ℕ) → All (IsThere layers) ids → slice_get ids i ≡ Some id
      → scan (graph_ids layers) id ≡ None → ⊥
  not_missing ids i id all at none =
      let within = slice_get_within ids i id at in
      let there : IsThere layers id = subst (IsThere layers) (get_or_from_slice_get ids i id id at)
      (All-get_or (IsThere layers) ids i id within all) in
      let scanned = there.1 in
      cc
