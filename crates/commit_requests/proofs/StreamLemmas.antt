-- Lines that were written and entries that were read, one after another.
use Rattle.std.proofs.Common.{◌≡◌, ◌≢◌, ℕ, List, [], ◌∷◌, ◌++◌, Option, Some, None, Ok, Err, Result, inl, inr, refl, sym, ap}
use Rattle.std.proofs.Common.{◌∙◌, subst}
use Rattle.std.specs.Io.KnownBytes.{Appends, Consumes, Keeps}
use Rattle.std.proofs.lemmas.Grind.{flat_map-append}
use Rattle.gix_hash_core.specs.declared.kind.Kind.{Kind}
use Rattle.commit_objects.specs.Object.{object_id_of}
use Rattle.object_stream.specs.BatchEntry.{object_entry}
use Rattle.object_stream.specs.TypedObject.{typed_id}
use Rattle.object_stream.specs.declared.object_type.ObjectType.{ObjectType}
use Rattle.object_stream.specs.declared.object_type.ObjectType.TheVariants.{Commit}
use Rattle.object_requests.specs.Asked.{request_line}
use Rattle.object_requests.specs.declared.error.RequestError.{RequestError}
use Rattle.object_requests.specs.declared.error.RequestError.TheVariants as request
use Rattle.commit_requests.specs.Gathering.{IsToldAs, complete_error}
use Rattle.commit_requests.specs.Requested.{commit_entries, request_lines}
use Rattle.commit_requests.specs.declared.error.CompleteError.{CompleteError}
use Rattle.commit_requests.specs.declared.error.CompleteError.TheVariants as refusal

pub append_nil : {X : Type 0} (xs : List X) → xs ++ [] ≡ xs
append_nil [] = refl
append_nil (x ∷ xs) = ap (λ ys. x ∷ ys) (append_nil xs)

pub append_again : {X : Type 0} (xs ys zs : List X) → (xs ++ ys) ++ zs ≡ xs ++ (ys ++ zs)
append_again [] ys zs = refl
append_again (x ∷ xs) ys zs = ap (λ rest. x ∷ rest) (append_again xs ys zs)

pub appends_none : (known : Option (List ℕ)) → Appends known known []
appends_none None = tt
appends_none (Some xs) = sym (append_nil xs)

pub consumes_none : (known : Option (List ℕ)) → Consumes known known []
consumes_none None = tt
consumes_none (Some xs) = refl

pub appends_more : (start mid end : Option (List ℕ)) (xs ys : List ℕ) → Appends start mid xs → Appends mid end ys
    → Appends start end (xs ++ ys)
appends_more None mid end xs ys one other = tt
appends_more (Some a) None end xs ys one other = absurd one
appends_more (Some a) (Some b) None xs ys one other = absurd other
appends_more (Some a) (Some b) (Some c) xs ys one other = other ∙ ap (λ zs. zs ++ ys) one ∙ append_again a xs ys

pub appends_kept : (start mid end : Option (List ℕ)) (xs : List ℕ) → Appends start mid xs → Keeps mid end → Appends start end xs
appends_kept None mid end xs one other = tt
appends_kept (Some a) None end xs one other = absurd one
appends_kept (Some a) (Some b) None xs one other = absurd other
appends_kept (Some a) (Some b) (Some c) xs one other = other ∙ one

pub consumes_more : (start mid end : Option (List ℕ)) (xs ys : List ℕ) → Consumes start mid xs → Consumes mid end ys
    → Consumes start end (xs ++ ys)
consumes_more None mid end xs ys one other = tt
consumes_more (Some a) None end xs ys one other = absurd one
consumes_more (Some a) (Some b) None xs ys one other = absurd other
consumes_more (Some a) (Some b) (Some c) xs ys one other =
    one ∙ ap (λ zs. xs ++ zs) other ∙ sym (append_again xs ys c)

pub lines_more : (asked : List (List ℕ)) (id : List ℕ) → request_lines (asked ++ id ∷ []) ≡ request_lines asked ++ request_line id
lines_more asked id =
    flat_map-append request_line asked (id ∷ []) ∙ ap (λ xs. request_lines asked ++ xs) (append_nil (request_line id))

pub entries_more : (kind : Kind) (read : List (List ℕ)) (bytes : List ℕ)
    → commit_entries kind (read ++ bytes ∷ []) ≡ commit_entries kind read ++ object_entry Commit (object_id_of kind bytes) bytes
entries_more kind read bytes =
    flat_map-append (λ (b : List ℕ). object_entry Commit (object_id_of kind b) b) read (bytes ∷ [])
    ∙ ap (λ xs. commit_entries kind read ++ xs) (append_nil (object_entry Commit (object_id_of kind bytes) bytes))

-- the lines of none are none
pub lines_none : (known : Option (List ℕ)) (asked : List (List ℕ)) → asked ≡ [] → Appends known known (request_lines asked)
lines_none known asked none =
    subst (λ (xs : List (List ℕ)). Appends known known (request_lines xs)) (sym none) (appends_none known)

-- the entries of none are none
pub entries_none : (kind : Kind) (known : Option (List ℕ)) (read : List (List ℕ)) → read ≡ []
    → Consumes known known (commit_entries kind read)
entries_none kind known read none =
    subst (λ (xs : List (List ℕ)). Consumes known known (commit_entries kind xs)) (sym none) (consumes_none known)

-- one more entry was read
pub entry_next : (kind : Kind) (type : ObjectType) (start before after : Option (List ℕ)) (read new : List (List ℕ))
    (id bytes : List ℕ) → type ≡ Commit → id ≡ object_id_of kind bytes → new ≡ read ++ bytes ∷ []
    → Consumes start before (commit_entries kind read) → Consumes before after (object_entry type id bytes)
    → Consumes start after (commit_entries kind new)
entry_next kind type start before after read new id bytes is own added one other =
    subst (λ (xs : List (List ℕ)). Consumes start after (commit_entries kind xs)) (sym added)
    (subst (Consumes start after) (sym (entries_more kind read bytes))
    (consumes_more start before after (commit_entries kind read) (object_entry Commit (object_id_of kind bytes) bytes) one
    (subst (λ (t : ObjectType). Consumes before after (object_entry t (object_id_of kind bytes) bytes)) is
    (subst (λ (x : List ℕ). Consumes before after (object_entry type x bytes)) own other))))

-- the id of an object that is a commit is that of the commit
pub commit_id : (kind other : Kind) (type : ObjectType) (id bytes : List ℕ) → type ≡ Commit → other ≡ kind
    → id ≡ typed_id other type bytes → id ≡ object_id_of kind bytes
commit_id kind other type id bytes is same own =
    own ∙ ap (λ (t : ObjectType). typed_id other t bytes) is ∙ ap (λ (k : Kind). object_id_of k bytes) same

-- what went well is no failed write
pub ok_is_no_error : {A E : Type 0} (x : A) (e : E) → Ok x ≢ Err e
ok_is_no_error x e is = let not : Ok x ≡ Err e = is in cc

-- errors are the same where they are answered the same
pub same_error : {A E : Type 0} (one other : E) → ◌≡◌ {A = Result A E} (Err one) (Err other) → one ≡ other
same_error one other is = cc

-- an error that is none of a write is none, of a request
pub not_of_write : {E : Type 0} (error : RequestError) (told : CompleteError E) → told ≡ complete_error {E = E} error
    → told ≢ refusal.WriteFailed → error ≢ request.WriteFailed
not_of_write error told same other is = other (same ∙ ap (λ (e : RequestError). complete_error e) is)

-- nor is the error of a question, where it is told as none
pub not_told_of_write : {E : Type 0} (ids : List (List ℕ)) (error told : CompleteError E) → IsToldAs ids error told
    → told ≢ refusal.WriteFailed → error ≢ refusal.WriteFailed
not_told_of_write ids error told (inl same) other is = other (same.0 ∙ is)
not_told_of_write ids error told (inr missing) other is = let entry = missing.2 in cc
