-- Where a stream stands of which trees are taken, and what was written to ask for them.
use Rattle.std.proofs.Common.{◌≡◌, ◌++◌, ◌∷◌, [], ℕ, List, Option, Some, None, sym, ap, ◌∙◌, subst}
use Rattle.std.specs.Prelude.{IfSome}
use Rattle.std.specs.List.{flat_map}
use Rattle.std.specs.Io.KnownBytes.{Appends, Consumes, Keeps, prepend_known}
use Rattle.std.proofs.KnownBytes.{Appends-kept, Appends-nil, Appends-trans, Consumes-nil, Consumes-trans, prepend_known-nil}
use Rattle.std.proofs.lemmas.List.{flat_map_more}
use Rattle.gix_hash_core.specs.declared.kind.Kind.{Kind}
use Rattle.tree_objects.specs.Tree.{tree_id_of}
use Rattle.object_stream.specs.BatchEntry.{object_entry}
use Rattle.object_stream.specs.NextEntry.{IsEntryError}
use Rattle.object_stream.specs.declared.object_type.ObjectType.{ObjectType}
use Rattle.object_stream.specs.declared.object_type.ObjectType.TheVariants.{Tree}
use Rattle.object_stream.specs.TypedObject.{typed_id}
use Rattle.object_requests.specs.Asked.{Asked, request_line}
use Rattle.object_requests.specs.TakenEntry.{MayRefuseOldest, Takes}
use Rattle.object_requests.specs.declared.error.RequestError.{RequestError}
use Rattle.object_requests.specs.declared.error.RequestError.TheVariants.{Entry, Device, OutOfMemory, WriteFailed}
use Rattle.tree_requests.specs.TreeStream.{StandsInStream}
use Rattle.tree_requests.specs.TakenTree.{AreRequestLines, IsBehind, IsTaken}
use Rattle.tree_requests.specs.TreeRefusal.{IsStreamFault}

-- nothing was read of a stream yet
pub behind_nothing : (stream remaining : Option (List ℕ)) (r : Asked) → r.type ≡ Tree → r.ahead ≡ [] → stream ≡ remaining
    → IsBehind stream r remaining
behind_nothing stream remaining r type none same =
    let left : prepend_known r.ahead remaining ≡ remaining =
    ap (λ (a : List ℕ). prepend_known a remaining) none ∙ prepend_known-nil remaining in record {
      type_is = type;
      read = [];
      left = subst (λ (l : Option (List ℕ)). Consumes stream l []) (sym left)
          (subst (λ (s : Option (List ℕ)). Consumes s remaining []) (sym same) (Consumes-nil remaining));
    }

-- requests whose type and bytes stay as they were
pub behind_same : (stream remaining : Option (List ℕ)) (r after : Asked) → IsBehind stream r remaining → after.type ≡ r.type
    → after.ahead ≡ r.ahead → IsBehind stream after remaining
behind_same stream remaining r after behind type ahead = record {
  type_is = type ∙ behind.type_is;
  read = behind.read;
  left = subst (λ (a : List ℕ). Consumes stream (prepend_known a remaining) behind.read) (sym ahead) behind.left;
}

stands : (kind : Kind) (stream left after : Option (List ℕ)) (read contents : List ℕ) → Consumes stream left read
    → Consumes left after (object_entry Tree (tree_id_of kind contents) contents)
    → IfSome stream (λ bytes. StandsInStream kind bytes contents)
stands kind None left after read contents p q = tt
stands kind (Some s) None after read contents p q = absurd p
stands kind (Some s) (Some l) None read contents p q = absurd q
stands kind (Some s) (Some l) (Some a) read contents p q =
    record { before = read; after = a; whole = p ∙ ap (λ (t : List ℕ). read ++ t) q }

-- the next entry is taken
module _ (stream remaining after_remaining : Option (List ℕ)) (r after : Asked) (id : List ℕ)
    (behind : IsBehind stream r remaining)
    (takes : Takes r after id)
    (entry : Consumes (prepend_known r.ahead remaining) (prepend_known after.ahead after_remaining)
    (object_entry r.type id after.contents)) where
  pub behind_taken : IsBehind stream after after_remaining
  behind_taken = record {
    type_is = takes.type ∙ behind.type_is;
    read = behind.read ++ object_entry r.type id after.contents;
    left = Consumes-trans stream (prepend_known r.ahead remaining) (prepend_known after.ahead after_remaining) behind.read
        (object_entry r.type id after.contents) behind.left entry;
  }

  pub is_taken : IsTaken r.kind stream id after.contents
  is_taken =
      let own : id ≡ tree_id_of r.kind after.contents =
      takes.own ∙ ap (λ (t : ObjectType). typed_id r.kind t after.contents) behind.type_is in
      let of_tree : object_entry r.type id after.contents ≡ object_entry Tree (tree_id_of r.kind after.contents) after.contents =
      ap (λ (t : ObjectType). object_entry t id after.contents) behind.type_is
      ∙ ap (λ (i : List ℕ). object_entry Tree i after.contents) own in record {
        own = own;
        there = stands r.kind stream (prepend_known r.ahead remaining) (prepend_known after.ahead after_remaining) behind.read
            after.contents behind.left
            (subst
            (λ (e : List ℕ). Consumes (prepend_known r.ahead remaining) (prepend_known after.ahead after_remaining) e)
            of_tree
            entry);
      }

faulty : (stream left : Option (List ℕ)) (read : List ℕ) (P : List ℕ → Type 0) → Consumes stream left read → IfSome left P
    → IfSome stream (λ bytes. (front rest : List ℕ) × (bytes ≡ front ++ rest) × P rest)
faulty None left read P p said = tt
faulty (Some s) None read P p said = absurd p
faulty (Some s) (Some l) read P p said = (read, l, p, said)

in_some : (o : Option (List ℕ)) (P Q : List ℕ → Type 0) → ((x : List ℕ) → P x → Q x) → IfSome o P → IfSome o Q
in_some None P Q weaker it = tt
in_some (Some x) P Q weaker it = weaker x it

-- why the next entry is not taken
pub fault : (stream remaining : Option (List ℕ)) (r : Asked) (error : RequestError) → IsBehind stream r remaining
    → IfSome (prepend_known r.ahead remaining) (λ bytes. MayRefuseOldest r bytes error) → IsStreamFault r.kind stream error
fault stream remaining r (Entry id error) behind refused =
    faulty stream (prepend_known r.ahead remaining) behind.read (λ rest. IsEntryError r.kind Tree (Some id) rest error)
    behind.left
    (in_some (prepend_known r.ahead remaining) (λ bytes. MayRefuseOldest r bytes (Entry id error))
    (λ bytes. IsEntryError r.kind Tree (Some id) bytes error)
    (λ bytes may.
    subst (λ (t : ObjectType). IsEntryError r.kind t (Some id) bytes error) behind.type_is
    (subst (λ (i : List ℕ). IsEntryError r.kind r.type (Some i) bytes error) (sym may.2.0) may.2.1))
    refused)
fault stream remaining r Device behind refused = tt
fault stream remaining r OutOfMemory behind refused = tt
fault stream remaining r WriteFailed behind refused = tt

-- nothing was written yet
pub lines_none : (before now : Option (List ℕ)) → before ≡ now → AreRequestLines before now
lines_none before now same = ([], subst (λ (b : Option (List ℕ)). Appends b now []) (sym same) (Appends-nil now))

-- one line more
pub lines_more : (a b c : Option (List ℕ)) (id : List ℕ) → AreRequestLines a b → Appends b c (request_line id)
    → AreRequestLines a c
lines_more a b c id lines more = (
  lines.0 ++ id ∷ [],
  subst (λ (bs : List ℕ). Appends a c bs) (flat_map_more request_line [] lines.0 id)
      (Appends-trans a b c (flat_map request_line lines.0) (request_line id) lines.1 more),
)

-- none more
pub lines_kept : (a b c : Option (List ℕ)) → AreRequestLines a b → Keeps b c → AreRequestLines a c
lines_kept a b c lines kept = (lines.0, Appends-kept a b c (flat_map request_line lines.0) lines.1 kept)
