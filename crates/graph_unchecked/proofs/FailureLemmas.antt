-- what is answered where a read failed, and how many failures are counted then
use Rattle.std.proofs.Common.{◌≡◌, ◌≢◌, ◌⊎◌, ◌∙◌, ℕ, Result, Ok, Err, IfOk, IfErr, inl, inr, refl, ap, subst}
use Rattle.graph_folder.specs.Failures.{one_more}
use Rattle.graph_unchecked.specs.Unread.{failures_after_reads}
use Rattle.graph_unchecked.specs.declared.unread.Unread.{Unread}
use Rattle.graph_unchecked.specs.declared.unread.Unread.TheVariants.{Device, OutOfMemory, NotByParts}

-- before any other answer none was met
pub kept-unless : {A : Type 0} (answer : Result A Unread) (old new : ℕ) → (answer ≡ Err Device → ⊥)
    → new ≡ failures_after_reads answer old → new ≡ old
kept-unless (Ok found) old new other counted = counted
kept-unless (Err Device) old new other counted = absurd (other refl)
kept-unless (Err OutOfMemory) old new other counted = counted
kept-unless (Err NotByParts) old new other counted = counted

-- before this one it was
pub risen-if : {A : Type 0} (answer : Result A Unread) (old new : ℕ) → answer ≡ Err Device
    → new ≡ failures_after_reads answer old → new ≡ one_more old
risen-if {A} answer old new is counted = counted ∙ ap (λ (r : Result A Unread). failures_after_reads r old) is

-- what is so of what was found is so of the answer
pub found-so : {A : Type 0} (answer result : Result A Unread) (IsSo : A → Type 0)
    → IfOk result (λ found. answer ≡ Ok found) → IfOk answer IsSo → IfOk result IsSo
found-so {A} answer (Ok found) IsSo is so = subst (λ (r : Result A Unread). IfOk r IsSo) is so
found-so answer (Err why) IsSo is so = tt

-- the count after a search
pub count-after : {A : Type 0} (old since now later : ℕ) (result : Result A Unread) → since ≡ old
    → now ≡ failures_after_reads result since → later ≡ now → later ≡ failures_after_reads result old
count-after old since now later result from counted ends = ends ∙ counted ∙ ap (failures_after_reads result) from

wants-memory : (why : Unread) → why ≡ OutOfMemory → why ≢ Device
wants-memory why is = λ device. cc (is, device)

-- Why a search along parents stopped, of a source that answers no failed device.
module _ {A : Type 0} where
  pub stopped-telling : (P Q : Type 0) (answer : Result A Unread)
      → IfErr answer (λ (why : Unread). P × ((why ≢ Device) ⊎ ((why ≡ OutOfMemory) × Q)))
      → IfErr answer (λ (why : Unread). why ≢ Device)
  stopped-telling P Q (Ok found) why = tt
  stopped-telling P Q (Err why) (apart, inl other) = other
  stopped-telling P Q (Err why) (apart, inr memory) = wants-memory why memory.0

  pub stopped-walking : (P Q : Type 0) (answer : Result A Unread)
      → IfErr answer (λ (why : Unread). (P × (why ≢ Device)) ⊎ ((why ≡ OutOfMemory) × Q))
      → IfErr answer (λ (why : Unread). why ≢ Device)
  stopped-walking P Q (Ok found) why = tt
  stopped-walking P Q (Err why) (inl other) = other.1
  stopped-walking P Q (Err why) (inr memory) = wants-memory why memory.0

  pub stopped-comparing : (answer : Result A Unread)
      → IfErr answer (λ (why : Unread). (why ≢ Device) ⊎ (why ≡ OutOfMemory)) → IfErr answer (λ (why : Unread). why ≢ Device)
  stopped-comparing (Ok found) why = tt
  stopped-comparing (Err why) (inl other) = other
  stopped-comparing (Err why) (inr memory) = wants-memory why memory
