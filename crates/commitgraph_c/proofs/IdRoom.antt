-- ids of a graph that are written to a room, one after another
use Rattle.std.proofs.Common.{◌≡◌, refl, sym, ap, subst, ◌∙◌, ℕ, ◌+◌, ◌*◌, ◌<◌, ◌≤◌, List, [], ◌∷◌, ◌++◌, length, take, drop, map}
use Rattle.std.proofs.Common.{All, Option, Some, None, IsSomeAnd, slice_get, get_or, arith, length-drop, ◌-◌}
use Rattle.std.proofs.Common.{append_assoc, length-append, take-append-drop}
use Rattle.std.specs.List.{flat_map}
use Rattle.std.proofs.lemmas.Grind.{flat_map-append}
use Rattle.std.proofs.lemmas.List.{take_more, take_all, length-map, map-append, append-nil, drop-drop}
use Rattle.std.proofs.lemmas.List.Concat.{flat_map-cons}
use Rattle.std.proofs.lemmas.List.Elements.{All-nil, All-append, All-push, All-head, All-tail, All-get_or}
use Rattle.std.proofs.lemmas.Option.{get_or_from_slice_get, slice_get_within}
use Rattle.gix_hash_core.specs.Kind.{id_len}
use Rattle.gix_hash_core.specs.declared.kind.Kind.{Kind}
use Rattle.graph_format.specs.Format.{chunk_of, ids_id, pieces}
use Rattle.graph_format.specs.Layer.{Layer, IsOpened, bytes_of}
use Rattle.graph_format.proofs.PieceLemmas.{id_len-positive}
use Rattle.graph_format.proofs.WholePieceLemmas.{whole_pieces}
use Rattle.gix_commitgraph.specs.Graph.{IsGraph, graph_ids}
use Rattle.c_opening.specs.Answers.{written}
use Rattle.c_opening.proofs.Written.{first_places, none_written, written_after}

pieces_sized : (o : Option (List ℕ)) (size count : ℕ) (ids : List (List ℕ)) → 0 < size
    → IsSomeAnd o (λ chunk. (length chunk ≡ count) × (ids ≡ pieces size chunk)) → All (λ id. length id ≡ size) ids
pieces_sized None size count ids positive has = absurd has
pieces_sized (Some chunk) size count ids positive has =
    subst (λ (xs : List (List ℕ)). All (λ id. length id ≡ size) xs) (sym has.1) (whole_pieces size chunk positive).each

-- each id of a graph has the size of its kind
pub sized_ids : (size : ℕ) (layers : List Layer) → 0 < size → All IsOpened layers
    → All (λ layer. id_len layer.kind ≡ size) layers → All (λ id. length id ≡ size) (graph_ids layers)
sized_ids size [] positive opened alike = All-nil (λ id. length id ≡ size)
sized_ids size (layer ∷ layers) positive opened alike =
    let P : List ℕ → Type 0 = λ id. length id ≡ size in
    let own : id_len layer.kind ≡ size = All-head (λ l. id_len l.kind ≡ size) layer layers alike in
    let is = All-head IsOpened layer layers opened in
    let here : All P layer.ids =
    subst (λ n. All (λ id. length id ≡ n) layer.ids) own
    (pieces_sized (chunk_of (bytes_of layer) ids_id) (id_len layer.kind) _ layer.ids (subst (λ n. 0 < n) (sym own) positive)
    is.ids) in
    let rest : All P (graph_ids layers) =
    sized_ids size layers positive (All-tail IsOpened layer layers opened) (All-tail (λ l. id_len l.kind ≡ size) layer layers
    alike) in
    subst (λ xs. All P xs) (sym (flat_map-cons (λ l. l.ids) layer layers)) (All-append P layer.ids (graph_ids layers) here rest)

-- the id at a position too
pub sized_at : (size : ℕ) (ids : List (List ℕ)) (pos : ℕ) (id : List ℕ) → All (λ id. length id ≡ size) ids
    → slice_get ids pos ≡ Some id → length id ≡ size
sized_at size ids pos id all here =
    subst (λ xs. length xs ≡ size) (get_or_from_slice_get ids pos id id here)
    (All-get_or (λ xs. length xs ≡ size) ids pos id (slice_get_within ids pos id here) all)

-- the id at a position of a graph has the size of its kind, which is not 0
pub size_positive : (kind : Kind) (size : ℕ) → size ≡ id_len kind → 0 < size
size_positive kind size is = subst (λ n. 0 < n) (sym is) (id_len-positive kind)

pub id_fits : (layers : List Layer) (kind : Kind) (size pos : ℕ) (id : List ℕ) → IsGraph layers
    → All (λ layer. layer.kind ≡ kind) layers → size ≡ id_len kind → slice_get (graph_ids layers) pos ≡ Some id
    → length id ≡ size
id_fits layers kind size pos id graph kinds is here =
    sized_at size (graph_ids layers) pos id
    (sized_ids size layers (size_positive kind size is) graph.opened (λ k d i. ap id_len (kinds k d i) ∙ sym is)) here

-- a part of a room is as long as it was asked for
pub part_length : (a k : ℕ) (room : List ℕ) → a + k ≤ length room → length (take (a + k - a) (drop a room)) ≡ k
part_length a k room fits =
    let size : a + k - a ≡ k = omega arith in
    ap (λ n. length (take n (drop a room))) size ∙ first_places (drop a room) k (omega (arith, length-drop a room, fits))

-- So many ids are written, all of one size.
pub record AreWrittenIds (all : List (List ℕ)) (positions : List ℕ) (size : ℕ) (old now : List ℕ) : Type 0 where
  pub ids : List (List ℕ)
  pub held : map (slice_get all) positions ≡ map (λ id. Some id) ids
  pub sized : All (λ id. length id ≡ size) ids
  pub room : now ≡ written (flat_map (λ id. id) ids) old

pub no_ids_written : (all : List (List ℕ)) (size : ℕ) (room : List ℕ) → AreWrittenIds all [] size room room
no_ids_written all size room =
    record { ids = []; held = refl; sized = All-nil (λ id. length id ≡ size); room = sym (none_written room) }

-- as many as positions
as_many_ids : (all : List (List ℕ)) (positions : List ℕ) (size : ℕ) (old now : List ℕ)
    → (are : AreWrittenIds all positions size old now) → length are.ids ≡ length positions
as_many_ids all positions size old now are =
    sym (length-map are.ids (λ id. Some id)) ∙ ap length (sym are.held) ∙ length-map positions (slice_get all)

-- items of one size take its multiple together
joined_length : (size : ℕ) (items : List (List ℕ)) → All (λ item. length item ≡ size) items
    → length (flat_map (λ item. item) items) ≡ size * length items
joined_length size [] sized = omega arith
joined_length size (item ∷ items) sized =
    let first : length item ≡ size = All-head (λ x. length x ≡ size) item items sized in
    let others : length (flat_map (λ x. x) items) ≡ size * length items =
    joined_length size items (All-tail (λ x. length x ≡ size) item items sized) in
    omega (arith, first, others, length-append item (flat_map (λ x. x) items))

-- what is written ends at the size of all
ends_at : (all : List (List ℕ)) (positions : List ℕ) (size : ℕ) (old now : List ℕ)
    → (are : AreWrittenIds all positions size old now) → length (flat_map (λ id. id) are.ids) ≡ size * length positions
ends_at all positions size old now are =
    joined_length size are.ids are.sized
    ∙ ap (λ n. size * n) (as_many_ids all positions size old now are)

whole_item : (item room : List ℕ) → length item ≤ length room → written item room ≡ item ++ drop (length item) room
whole_item item room fits = ap (λ xs. xs ++ drop (length item) room) (take_all (length room) item fits)

-- one more, in the places after those
pub next_id_written : (all : List (List ℕ)) (positions : List ℕ) (i d size : ℕ) (old now : List ℕ) (id : List ℕ)
    → i < length positions → slice_get all (get_or positions i d) ≡ Some id → length id ≡ size
    → size * i + size ≤ length old → length now ≡ length old → AreWrittenIds all (take i positions) size old now
    → (more : List ℕ) → take (size * i + size) more ≡ take (size * i) now ++ id
    → drop (size * i + size) more ≡ drop (size * i + size) now
    → AreWrittenIds all (take (i + 1) positions) size old more
next_id_written all positions i d size old now id below here long fits same are more front back =
    let so_far : length (take i positions) ≡ i = first_places positions i (omega (arith, below)) in
    let flat = flat_map (λ (id : List ℕ). id) are.ids in
    let ends : length flat ≡ size * i =
    ends_at all (take i positions) size old now are ∙ ap (λ n. size * n) so_far in
    let taken : take (i + 1) positions ≡ take i positions ++ get_or positions i d ∷ [] = take_more positions i d below in
    let whole : written id (drop (size * i) now) ≡ id ++ drop (length id) (drop (size * i) now) =
    whole_item id (drop (size * i) now) (omega (arith, length-drop (size * i) now, same, fits, long)) in
    let joined : flat_map (λ (x : List ℕ). x) (are.ids ++ id ∷ []) ≡ flat ++ id =
    flat_map-append (λ (x : List ℕ). x) are.ids (id ∷ []) ∙ ap (λ xs. flat ++ xs) (append-nil id) in
    let after : drop (length id) (drop (size * i) now) ≡ drop (size * i + size) now =
    drop-drop (length id) (size * i) now ∙ ap (λ n. drop (size * i + n) now) long in
    record {
      ids = are.ids ++ id ∷ [];
      held =
          ap (map (slice_get all)) taken ∙ map-append (slice_get all) (take i positions) (get_or positions i d ∷ [])
          ∙ ap (λ xs. map (slice_get all) (take i positions) ++ xs ∷ []) here
          ∙ ap (λ xs. xs ++ Some id ∷ []) are.held ∙ sym (map-append (λ x. Some x) are.ids (id ∷ []));
      sized = All-push (λ x. length x ≡ size) are.ids id are.sized long;
      room =
          sym (take-append-drop (size * i + size) more)
          ∙ ap (λ xs. xs ++ drop (size * i + size) more) front
          ∙ ap (λ xs. (take (size * i) now ++ id) ++ xs) back
          ∙ append_assoc (take (size * i) now) id (drop (size * i + size) now)
          ∙ ap (λ xs. take (size * i) now ++ (id ++ xs)) (sym after)
          ∙ ap (λ xs. take (size * i) now ++ xs) (sym whole)
          ∙ ap (λ n. take n now ++ written id (drop n now)) (sym ends)
          ∙ ap (λ xs. take (length flat) xs ++ written id (drop (length flat) xs)) are.room
          ∙ written_after flat id old (omega (arith, ends, fits))
          ∙ ap (λ xs. written xs old) (sym joined);
    }
