-- what is told of an opening
use Rattle.std.proofs.Common.{◌≡◌, ◌≢◌, ℕ, Bool, true, false, List, [], Option, Some, None, Err, ap, if◌then◌else◌}
use Rattle.std.proofs.Common.{string_bytes, subst, sym, ◌==◌, ◌∙◌}
use Rattle.graph_layer.specs.OpenRefusals.{OutOfMemoryStandsAlone}
use Rattle.graph_layer.specs.declared.opening.error.OpenError.TheVariants as opening
use Rattle.c_opening.specs.AtPath.{IsErrorAt, IsUnknown, IsUnopenedAt, RefusesPath, TellsOpening, TellsUnopened, WantsPath}
use Rattle.c_opening.specs.AtPath.{only_code, told_unread}
use Rattle.c_opening.specs.Answers.{written}
use Rattle.c_opening.specs.Codes.{out_of_memory, path_wanted}
use Rattle.c_opening.specs.KnownPaths.{known_at, unread}
use Rattle.c_opening.specs.KnownOpening.{AnswersAs, KnownAnswer}
use Rattle.c_opening.specs.declared.at_path.Unopened.{Unopened}
use Rattle.c_opening.specs.declared.at_path.Unopened.TheVariants as unopened
use Rattle.c_opening.specs.declared.known.CgKnown.{CgKnown}
use Rattle.c_opening.specs.declared.paths.CgPathError.{CgPathError}

module _ (known : List CgKnown) (told : CgPathError) (old new : List ℕ) where
  -- what is told of the answer, unless memory ran out and no path is told
  pub tells_answer : (answer : KnownAnswer) (why : Unopened) → AnswersAs answer (Err why) → TellsUnopened known why told old new
      → told ≢ only_code out_of_memory → TellsOpening known answer told old new
  tells_answer answer (unopened.Unread path) is tells no_memory =
      subst (λ (it : KnownAnswer). TellsOpening known it told old new) (sym is) tells
  tells_answer answer (unopened.Refused error file) is tells no_memory =
      subst (λ (it : KnownAnswer). TellsOpening known it told old new) (sym is) tells
  tells_answer answer unopened.NoMemory is tells no_memory = absurd (no_memory tells.0)

  -- a path that is wanted
  pub wants_path : (answer : KnownAnswer) (why : Unopened) → AnswersAs answer (Err why) → TellsUnopened known why told old new
      → IsUnknown known why → WantsPath known answer told old new
  wants_path answer (unopened.Unread path) is tells none =
      record {
        path = string_bytes path;
        ends = is;
        unknown = none;
        told_as = tells.0 ∙ ap (λ (o : Option CgKnown). told_unread o (string_bytes path)) none;
        room = tells.1;
      }
  wants_path answer (unopened.Refused error file) is tells none = absurd none
  wants_path answer unopened.NoMemory is tells none = absurd none

-- why a file was not read is an error of any opener
error_of_kind : (what : ℕ) (b c : Bool)
    → IsErrorAt what (if b then opening.Device else (if c then opening.OutOfMemory else opening.NotOpened))
error_of_kind what true c = record { file = λ _. tt; folder = λ _. tt; any = tt }
error_of_kind what false true = record { file = λ _. tt; folder = λ _. tt; any = tt }
error_of_kind what false false = record { file = λ _. tt; folder = λ _. tt; any = tt }

stands_alone : (b c : Bool)
    → OutOfMemoryStandsAlone (if b then opening.Device else (if c then opening.OutOfMemory else opening.NotOpened))
stands_alone true c = tt
stands_alone false true = tt
stands_alone false false = tt

-- another error is told as one of opening
module _ (what : ℕ) (told : CgPathError) (old new : List ℕ) where
  refuses_unread : (there : Option CgKnown) (path : List ℕ) → told ≡ told_unread there path → new ≡ written path old
      → told.code ≢ path_wanted → RefusesPath what told old new
  refuses_unread None path is room other = absurd (other (ap (λ (t : CgPathError). t.code) is))
  refuses_unread (Some k) path is room other =
      record {
        error = unread k.kind;
        at = error_of_kind what (k.kind == 4) (k.kind == 5);
        memory = stands_alone (k.kind == 4) (k.kind == 5);
        file = path;
        told_as = is;
        room = room;
      }

  pub refuses : (known : List CgKnown) (why : Unopened) → IsUnopenedAt what why → TellsUnopened known why told old new
      → told.code ≢ path_wanted → RefusesPath what told old new
  refuses known (unopened.Unread path) at tells other =
      refuses_unread (known_at known (string_bytes path)) (string_bytes path) tells.0 tells.1 other
  refuses known (unopened.Refused error file) at tells other =
      record { error = error; at = at.0; memory = at.1; file = string_bytes file; told_as = tells.0; room = tells.1 }
  refuses known unopened.NoMemory at tells other =
      record {
        error = opening.OutOfMemory;
        at = record { file = λ _. tt; folder = λ _. tt; any = tt };
        memory = tt;
        file = [];
        told_as = tells.0;
        room = tells.1;
      }
