-- laws of where a chunk is found
use Rattle.std.proofs.Common.{◌≡◌, ◌≢◌, ℕ, ◌<◌, Bool, true, false, cond, Option, Some, None, List, bytes_eq, option_map, ap, sym}
use Rattle.std.proofs.Common.{◌∙◌, refl}
use Rattle.gix_chunk_core.specs.Entry.{entry_at}
use Rattle.gix_chunk_core.specs.FirstFault.{first_below}
use Rattle.gix_chunk_core.specs.Table.{Chunk, chunk_at, table_at, range_of}
use Rattle.gix_chunk_core.proofs.FaultLemmas.{same-bytes, other-bytes}
use Rattle.gix_chunk_core.proofs.FirstFaultLemmas.{first_below-found, first_below-none_from, first_below-least, find-first_below}
use Rattle.std.proofs.lemmas.Option.{same_Some}
use Rattle.std.proofs.lemmas.Slice.Eq.{bytes_eq-Decides}

-- the chunk i, where it has this id
abbrev with_id : List ℕ → ℕ → List ℕ → ℕ → Option Chunk
with_id bytes at id i = cond (bytes_eq (chunk_at bytes at i).id id) (Some (chunk_at bytes at i)) None

range_of-first : (bytes : List ℕ) (at n : ℕ) (id : List ℕ)
    → range_of (table_at bytes at n) id ≡ option_map (λ c. (c.start, c.end)) (first_below (with_id bytes at id) n)
unfolding range_of table_at
range_of-first bytes at n id =
    ap (option_map (λ c. (c.start, c.end))) (find-first_below (λ c. bytes_eq c.id id) (chunk_at bytes at) n)

without : (bytes : List ℕ) (at n : ℕ) (id : List ℕ) → ((j : ℕ) → j < n → (entry_at bytes at j).id ≢ id)
    → first_below (with_id bytes at id) n ≡ None
without bytes at n id apart = first_below-none_from (with_id bytes at id) n (λ j k.
    ap (λ b. cond b (Some (chunk_at bytes at j)) None) (other-bytes _ _ (apart j k)))

-- the first chunk with this id is found
pub range_of-at : (bytes : List ℕ) (at n i : ℕ) (id : List ℕ) → ((j : ℕ) → j < i → (entry_at bytes at j).id ≢ id)
    → (entry_at bytes at i).id ≡ id → i < n → range_of (table_at bytes at n) id
    ≡ Some ((chunk_at bytes at i).start, (chunk_at bytes at i).end)
range_of-at bytes at n i id apart same k =
    range_of-first bytes at n id
    ∙ ap (option_map (λ c. (c.start, c.end)))
    (first_below-found (with_id bytes at id) i n (chunk_at bytes at i) (without bytes at i id apart)
    (ap (λ b. cond b (Some (chunk_at bytes at i)) None) ((bytes_eq-Decides _ _).1 same)) k)

-- where no chunk has this id, none is found
pub range_of-none : (bytes : List ℕ) (at n : ℕ) (id : List ℕ) → ((j : ℕ) → j < n → (entry_at bytes at j).id ≢ id)
    → range_of (table_at bytes at n) id ≡ None
range_of-none bytes at n id apart = range_of-first bytes at n id
    ∙ ap (option_map (λ c. (c.start, c.end))) (without bytes at n id apart)

-- Chunk i has this id, and this is its place.
pub record IsFoundAt (bytes : List ℕ) (at n : ℕ) (id : List ℕ) (place : ℕ × ℕ) (i : ℕ) : Type 0 where
  pub within : i < n
  pub same : (entry_at bytes at i).id ≡ id
  pub is : place ≡ ((chunk_at bytes at i).start, (chunk_at bytes at i).end)

taken : {X : Type 0} {x y : X} (b : Bool) → cond b (Some x) None ≡ Some y → (b ≡ true) × (x ≡ y)
taken true h = (refl, cc)
taken false h = cc

-- what is found is a chunk with this id
pub range_of-found : (bytes : List ℕ) (at n : ℕ) (id : List ℕ) (place : ℕ × ℕ) → range_of (table_at bytes at n) id ≡ Some place
    → (i : ℕ) × IsFoundAt bytes at n id place i
range_of-found bytes at n id place h =
    elim (first_below (with_id bytes at id) n) as (λ o. first_below (with_id bytes at id) n ≡ o → (i : ℕ)
    × IsFoundAt bytes at n id place i) [
      | None ↦ λ e. let gone : Some place ≡ None = sym h ∙ range_of-first bytes at n id
          ∙ ap (option_map (λ c. (c.start, c.end))) e in cc
      | Some c ↦ λ e.
          let least = first_below-least (with_id bytes at id) n c e in
          let is : Some place ≡ Some (c.start, c.end) = sym h ∙ range_of-first bytes at n id
          ∙ ap (option_map (λ c. (c.start, c.end))) e in
          let chunk = taken (bytes_eq (chunk_at bytes at least.0).id id) least.1.gives in (
            least.0,
            record {
              within = least.1.below;
              same = same-bytes _ _ chunk.0;
              is = same_Some _ _ is ∙ ap (λ (c : Chunk). (c.start, c.end)) (sym chunk.1);
            },
          )
    ] refl

pub ruleset range_laws = (range_of-at, range_of-none)
