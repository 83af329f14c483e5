use Rattle.std.proofs.Common.{◌≡◌, Result, Ok, Err, IfOk, IfErr, List, ℕ, None, inl, inr, map, refl, subst, sym}
use Rattle.graph_format.specs.Layer.{Layer}
use Rattle.graph_writer.specs.NewCommits.{layers_of_below}
use Rattle.graph_writer.specs.WriteRefusal.{new_layer_refusal}
use Rattle.graph_writer.specs.WrittenFiles.{IsWritten}
use Rattle.graph_writer.specs.declared.commit.WriteError.TheVariants as error
use Rattle.graph_writer.proofs.layers.RefusalSteps.{plain-none}
use Rattle.c_writing.specs.HandedIn.{AreHandedIn}
use Rattle.c_writing.specs.SaidCommits.{said}
use Rattle.c_writing.specs.ToldWrite.{IsFileFrom, RefusesCommits, told_write}
use Rattle.c_writing.specs.declared.new_commits.CgNewCommit.{CgNewCommit}
use Rattle.c_writing.specs.declared.write.CgWriteError.{CgWriteError}
use Rattle.c_writing.proofs.HandedIn.{said-all}
use Rattle.c_writing.proofs.write.new_file.Goals as goal

-- what holds of a value that came out
so_of : {T E : Type 0} (P Q : T → Type 0) (r : Result T E) → ((x : T) → P x → Q x) → IfOk r P → IfOk r Q
so_of P Q (Ok x) so h = so x h
so_of P Q (Err e) so h = tt

-- and of an error
so_of_error : {T E : Type 0} (P Q : E → Type 0) (r : Result T E) → ((e : E) → P e → Q e) → IfErr r P → IfErr r Q
so_of_error P Q (Ok x) so h = tt
so_of_error P Q (Err e) so h = so e h

-- memory may run out for the bytes of commits that nothing refuses
refused-memory : (layers : List Layer) (handed : List CgNewCommit) → AreHandedIn handed (map said handed)
    → new_layer_refusal layers (map said handed) ≡ None → (told : CgWriteError) → told ≡ told_write error.OutOfMemory
    → RefusesCommits layers handed told
refused-memory layers handed ids none told is = record {
  commits = map said handed;
  said = ids;
  error = error.OutOfMemory;
  may = inl (inr (refl, plain-none layers (map said handed) none));
  told_as = is;
}

pub returns-in-Ok-clause-file : goal.returns-in-Ok-clause-file
returns-in-Ok-clause-file c =
    let layers = layers_of_below c.args.below in let handed = c.args.handed.now in let commits = map said handed in
    so_of _ (λ bytes. IsFileFrom layers handed bytes.value) c.boxed.result
    (λ bytes same. record {
      commits = commits;
      said = said-all handed c.requires.ids c.requires.few;
      accepted = c.in-Ok.ensures.accepted;
      written = subst (λ (xs : List ℕ). IsWritten layers commits xs) (sym same) c.in-Ok.ensures.written;
    }) c.boxed.ensures.same

pub returns-in-Ok-clause-refused : goal.returns-in-Ok-clause-refused
returns-in-Ok-clause-refused c =
    let layers = layers_of_below c.args.below in let handed = c.args.handed.now in
    so_of_error _ (RefusesCommits layers handed) c.boxed.result
    (refused-memory layers handed (said-all handed c.requires.ids c.requires.few) c.in-Ok.ensures.accepted.new)
    c.boxed.ensures.refused

pub returns-in-Err-clause-refused : goal.returns-in-Err-clause-refused
returns-in-Err-clause-refused c =
    let handed = c.args.handed.now in
    record {
      commits = map said handed;
      said = said-all handed c.requires.ids c.requires.few;
      error = c.in-Err.error;
      may = c.in-Err.ensures.refusal;
      told_as = c.told.ensures.told;
    }
