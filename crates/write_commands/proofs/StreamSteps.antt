-- Entries of commits one behind another.
use Rattle.std.proofs.Common.{◌≡◌, ℕ, ◌≤◌, ◌<◌, ◌^◌, List, [], ◌∷◌, ◌++◌, length, refl, sym, ap, ◌∙◌, arith}
use Rattle.std.proofs.Common.{append_assoc, append-nil, Option, Some, None, subst}
use Rattle.std.specs.Prelude.{IfSome}
use Rattle.std.specs.List.{AllZip, flat_map}
use Rattle.std.specs.Io.KnownBytes.{Keeps, IsAtEnd, prepend_known}
use Rattle.std.proofs.lemmas.List.{nil_from_length}
use Rattle.std.proofs.lemmas.List.Concat.{flat_map-append}
use Rattle.std.proofs.lemmas.List.Elements.{All-nil, All-push}
use Rattle.gix_hash_core.specs.declared.kind.Kind.{Kind}
use Rattle.commit_objects.specs.Object.{object_id_of}
use Rattle.object_stream.specs.BatchEntry.{BeginsWithEntry}
use Rattle.object_stream.specs.declared.object_type.ObjectType.TheVariants as object
use Rattle.graph_writer.specs.declared.commit.NewCommit.{NewCommit}
use Rattle.write_commands.specs.NewEntries.{HasTaken, IsReadFailure, MayStopAt, TakesCommit}
use Rattle.write_commands.specs.NewStream.{BeginsWithCommits, IsReadCommit, MayRefuseCommits, SaysCommits}
use Rattle.write_commands.specs.NewStream.{entry_of_commit, kind_of_stream}
use Rattle.write_commands.specs.declared.error.CommitsError.{CommitsError}
use Rattle.write_commands.specs.declared.error.CommitsError.TheVariants.{Entry, Unreadable, Device, OutOfMemory}

says_push : (kind : Kind) (all : List (List ℕ)) (commits : List NewCommit) (contents : List ℕ) (commit : NewCommit)
    → AllZip (IsReadCommit kind) all commits → IsReadCommit kind contents commit
    → AllZip (IsReadCommit kind) (all ++ contents ∷ []) (commits ++ commit ∷ [])
says_push kind [] [] contents commit say one = (one, tt)
says_push kind [] (c ∷ commits) contents commit say one = absurd say
says_push kind (a ∷ all) [] contents commit say one = absurd say
says_push kind (a ∷ all) (c ∷ commits) contents commit say one = (say.0, says_push kind all commits contents commit say.1 one)

pub none_passed : (kind : Kind) (bytes : List ℕ) → BeginsWithCommits kind bytes [] bytes
none_passed kind bytes = record { contents = []; whole = refl; say = tt; fit = All-nil (λ (c : List ℕ). length c < 2 ^ 64) }

pub one_passed : (kind : Kind) (bytes mid contents next : List ℕ) (commits : List NewCommit) (commit : NewCommit)
    → BeginsWithCommits kind bytes commits mid
    → BeginsWithEntry object.Commit (object_id_of kind contents) mid contents next → IsReadCommit kind contents commit
    → BeginsWithCommits kind bytes (commits ++ commit ∷ []) next
one_passed kind bytes mid contents next commits commit passed entry says =
    let all = passed.contents in
    let own = entry_of_commit kind contents in
    record {
      contents = all ++ contents ∷ [];
      whole = passed.whole ∙ ap (λ l. flat_map (entry_of_commit kind) all ++ l) entry.whole
          ∙ sym (append_assoc (flat_map (entry_of_commit kind) all) own next)
          ∙ ap (λ l. (flat_map (entry_of_commit kind) all ++ l) ++ next) (sym (append-nil own))
          ∙ ap (λ l. l ++ next) (sym (flat_map-append (entry_of_commit kind) all (contents ∷ [])));
      say = says_push kind all commits contents commit passed.say says;
      fit = All-push (λ (c : List ℕ). length c < 2 ^ 64) all contents passed.fit entry.fits;
    }

-- the same where the bytes may not be known
pub none_taken : (kind : Kind) (before now : Option (List ℕ)) → Keeps before now → HasTaken kind [] before now
none_taken kind None now kept = tt
none_taken kind (Some bytes) None kept = absurd kept
none_taken kind (Some bytes) (Some next) kept =
    subst (λ (l : List ℕ). BeginsWithCommits kind bytes [] l) (sym kept) (none_passed kind bytes)

pub one_taken : (kind : Kind) (commits : List NewCommit) (commit : NewCommit) (before mid now : Option (List ℕ))
    → HasTaken kind commits before mid → TakesCommit kind commit mid now → HasTaken kind (commits ++ commit ∷ []) before now
one_taken kind commits commit None mid now taken takes = tt
one_taken kind commits commit (Some bytes) None now taken takes = absurd taken
one_taken kind commits commit (Some bytes) (Some mid) None taken takes = absurd takes
one_taken kind commits commit (Some bytes) (Some mid) (Some next) taken takes =
    one_passed kind bytes mid takes.0 next commits commit taken takes.1 takes.2

-- known bytes stay while more are read
pub taken_kept : (kind : Kind) (commits : List NewCommit) (before mid now : Option (List ℕ))
    → HasTaken kind commits before mid → Keeps mid now → HasTaken kind commits before now
taken_kept kind commits None mid now taken kept = tt
taken_kept kind commits (Some bytes) None now taken kept = absurd taken
taken_kept kind commits (Some bytes) (Some mid) None taken kept = absurd kept
taken_kept kind commits (Some bytes) (Some mid) (Some next) taken kept =
    subst (λ (l : List ℕ). BeginsWithCommits kind bytes commits l) (sym kept) taken

module _ (kind : Kind) (asked : Option Kind) where
  -- at the end they are all
  pub all_taken : (commits : List NewCommit) (before after : Option (List ℕ)) (view : List ℕ)
      → IfSome before (λ bytes. kind ≡ kind_of_stream asked bytes) → HasTaken kind commits before (prepend_known view after)
      → length view ≤ 0 → IsAtEnd after → IfSome before (λ bytes. SaysCommits asked bytes commits)
  all_taken commits None after view is taken none ended = tt
  all_taken commits (Some bytes) None view is taken none ended = absurd taken
  all_taken commits (Some bytes) (Some more) view is taken none ended =
      let empty : view ++ more ≡ [] = ap (λ l. l ++ more) (nil_from_length view (omega (arith, none))) ∙ ended in
      let there : BeginsWithCommits kind bytes commits [] =
      subst (λ (l : List ℕ). BeginsWithCommits kind bytes commits l) empty taken in
      subst (λ (k : Kind). BeginsWithCommits k bytes commits []) is there

  -- an entry is refused
  pub stopped : (commits : List NewCommit) (number : ℕ) (before now : Option (List ℕ)) (fault : CommitsError)
      → IfSome before (λ bytes. kind ≡ kind_of_stream asked bytes) → length commits ≡ number
      → HasTaken kind commits before now → IfSome now (λ bytes. MayStopAt kind number bytes fault)
      → IfSome before (λ bytes. MayRefuseCommits asked bytes fault)
  stopped commits number None now fault is counted taken stop = tt
  stopped commits number (Some bytes) None fault is counted taken stop = absurd taken
  stopped commits number (Some bytes) (Some next) (Entry other e) is counted taken stop =
      rw (← is) (commits, next, taken, counted ∙ sym stop.0, stop.1)
  stopped commits number (Some bytes) (Some next) (Unreadable other) is counted taken stop =
      rw (← is) (commits, next, taken, counted ∙ sym stop.0, stop.1)
  stopped commits number (Some bytes) (Some next) Device is counted taken stop = tt
  stopped commits number (Some bytes) (Some next) OutOfMemory is counted taken stop = tt

-- a read fails
pub failed : (asked : Option Kind) (before : Option (List ℕ)) (fault : CommitsError) → IsReadFailure fault
    → IfSome before (λ bytes. MayRefuseCommits asked bytes fault)
failed asked None fault failure = tt
failed asked (Some bytes) (Entry other e) failure = absurd failure
failed asked (Some bytes) (Unreadable other) failure = absurd failure
failed asked (Some bytes) Device failure = tt
failed asked (Some bytes) OutOfMemory failure = tt

-- the kind that was found before anything was taken
pub kind_known : (kind : Kind) (asked : Option Kind) (buffer : List ℕ) (before : Option (List ℕ)) → buffer ≡ []
    → IfSome (prepend_known buffer before) (λ bytes. kind ≡ kind_of_stream asked bytes)
    → IfSome before (λ bytes. kind ≡ kind_of_stream asked bytes)
kind_known kind asked buffer None empty is = tt
kind_known kind asked buffer (Some bytes) empty is =
    subst (λ (l : List ℕ). kind ≡ kind_of_stream asked (l ++ bytes)) empty is
