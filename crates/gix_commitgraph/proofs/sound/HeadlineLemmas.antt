-- What an answer of the check of a graph says of it.
use Rattle.std.proofs.Common.{◌≡◌, ◌∙◌, ℕ, false, true, List, All, Result, Ok, Err}
use Rattle.std.specs.Prelude.{MatchResult, IfOk, IsTrue}
use Rattle.graph_format.specs.Layer.{Layer}
use Rattle.graph_format.specs.Layer.{IsOpened}
use Rattle.graph_format.specs.StoredHistory.{history_of}
use Rattle.graph_format.specs.Points.{Point, Agrees, PassesAll, IsRefused, first_fault}
use Rattle.gix_commitgraph.specs.Sound.{Sound}
use Rattle.gix_commitgraph.specs.Verify.{points_with, cause_of, Summarizes}
use Rattle.gix_commitgraph.specs.Headline.{Stats, LookupsAreScans, Disproves, IsDeserved}
use Rattle.gix_commitgraph.specs.Distinct.{IsSoundWith, IsDeservedWith, LookupsAreExact}
use Rattle.gix_commitgraph.specs.declared.verify.Outcome.{Outcome}
use Rattle.gix_commitgraph.specs.declared.verify.VerifyError.{VerifyError}
use Rattle.gix_commitgraph.specs.declared.verify.VerifyError.TheVariants as error
use Rattle.gix_commitgraph.specs.declared.verify.VerifyOptions.{VerifyOptions}
use Rattle.gix_commitgraph.proofs.history.HistoryLemmas.{length-history}
use Rattle.gix_commitgraph.proofs.sound.SoundLemmas.{sound-from_passes, sound-not_refused, sound-scanned, summarized-longest}
use Rattle.gix_commitgraph.proofs.lookup.DistinctLemmas.{exact-scan}

-- what disproves something disproves whatever it follows from
disproves-wider : {E : Type 0} (P Q : Type 0) (x : VerifyError E) → (Q → P) → Disproves P x → Disproves Q x
disproves-wider P Q (error.Processor pos e) from shown = tt
disproves-wider P Q error.OutOfMemory from shown = tt
disproves-wider P Q error.TooManyFiles from shown = λ q. shown (from q)
disproves-wider P Q (error.BaseCount i) from shown = λ q. shown (from q)
disproves-wider P Q (error.BaseId i j) from shown = λ q. shown (from q)
disproves-wider P Q (error.Layer i fault) from shown = λ q. shown (from q)
disproves-wider P Q (error.Commit pos fault) from shown = λ q. shown (from q)
disproves-wider P Q (error.Parent pos fault) from shown = λ q. shown (from q)
disproves-wider P Q (error.ParentOutOfRange pos parent) from shown = λ q. shown (from q)
disproves-wider P Q (error.Generation pos expected) from shown = λ q. shown (from q)
disproves-wider P Q (error.DuplicateId pos earlier) from shown = λ q. shown (from q)

module _ {F E : Type 0} (step : F → ℕ → Result (Unit {0}) E → F → Type 0) (options : VerifyOptions) (layers : List Layer)
    (points : List (Point (VerifyError E))) (whole : first_fault points ≡ first_fault (points_with {E = E} options layers))
    (f g : F) (opened : All IsOpened layers) where
  refused_deserved : (x : VerifyError E) → IsRefused step points f g x → ¬ IsSoundWith options layers
  refused_deserved x refused sound = sound-not_refused step options layers points whole f g opened sound x refused

  passed_right : PassesAll step points f g → IsSoundWith options layers
  passed_right passes = sound-from_passes step options layers points whole f g opened passes

  deserved : (x : VerifyError E) → Agrees step points f g {T = Outcome} cause_of (Err x)
      → IsDeservedWith options layers x
  deserved (error.Processor pos e) agrees = tt
  deserved error.OutOfMemory agrees = tt
  deserved error.TooManyFiles agrees = refused_deserved _ agrees
  deserved (error.BaseCount i) agrees = refused_deserved _ agrees
  deserved (error.BaseId i j) agrees = refused_deserved _ agrees
  deserved (error.Layer i fault) agrees = refused_deserved _ agrees
  deserved (error.Commit pos fault) agrees = refused_deserved _ agrees
  deserved (error.Parent pos fault) agrees = refused_deserved _ agrees
  deserved (error.ParentOutOfRange pos parent) agrees = refused_deserved _ agrees
  deserved (error.Generation pos expected) agrees = refused_deserved _ agrees
  deserved (error.DuplicateId pos earlier) agrees = refused_deserved _ agrees

  -- an Ok is that of a graph that keeps all that is asked, and a refusal by name that of another
  pub judged_with : (r : Result Outcome (VerifyError E)) → Agrees step points f g cause_of r
      → MatchResult r (λ _. IsSoundWith options layers) (IsDeservedWith options layers)
  judged_with (Ok outcome) agrees = passed_right agrees
  judged_with (Err x) agrees = deserved x agrees

  -- the same of a graph that is right, where nothing is asked for besides
  pub judged : (r : Result Outcome (VerifyError E)) → options.distinct_ids ≡ false
      → Agrees step points f g cause_of r → MatchResult r (λ _. Sound layers) (IsDeserved layers)
  judged (Ok outcome) plain agrees = (passed_right agrees).sound
  judged (Err x) plain agrees =
      disproves-wider (IsSoundWith options layers) (Sound layers) x
      (λ sound. record { sound = sound; distinct = λ is. let never : false ≡ true = cc in cc }) (deserved x agrees)

  counted : (outcome : Outcome) → Sound layers → Summarizes (history_of layers) outcome → Stats layers outcome
  counted outcome sound sums = record {
    num_commits = sums.num_commits ∙ length-history layers opened;
    parent_counts = sums.parent_counts;
    longest_path_length = summarized-longest layers outcome sound sums;
  }

  pub right_stats : (r : Result Outcome (VerifyError E)) → Agrees step points f g cause_of r
      → IfOk r (Summarizes (history_of layers)) → IfOk r (Stats layers)
  right_stats (Ok outcome) agrees sums = counted outcome (passed_right agrees).sound sums
  right_stats (Err x) agrees sums = tt

  pub right_lookups : (r : Result Outcome (VerifyError E)) → Agrees step points f g cause_of r
      → IfOk r (λ _. LookupsAreScans layers)
  right_lookups (Ok outcome) agrees =
      λ id answer found. sound-scanned layers id answer (passed_right agrees).sound found
  right_lookups (Err x) agrees = tt

  -- with distinct ids each lookup is exact
  pub exact_lookups : (r : Result Outcome (VerifyError E)) → Agrees step points f g cause_of r
      → IfOk r (λ _. IsTrue options.distinct_ids → LookupsAreExact layers)
  exact_lookups (Ok outcome) agrees = λ is id answer found p.
      let right = passed_right agrees in
      exact-scan layers id answer p (right.distinct is) (sound-scanned layers id answer right.sound found)
  exact_lookups (Err x) agrees = tt
