-- A graph that is right throughout is refused only where memory runs out.
use Rattle.std.proofs.Common.{◌≡◌, inl, inr, List, sym, ap, ◌∙◌, subst, refl}
use Rattle.std.specs.Prelude.{Result, Ok, Err, All}
use Rattle.std.proofs.lemmas.Option.{none-some}
use Rattle.graph_format.specs.Layer.{Layer}
use Rattle.graph_format.specs.OptionalChunks.{HasDates}
use Rattle.graph_layer.specs.declared.opening.error.OpenError.{OpenError}
use Rattle.gix_commitgraph.specs.Sound.{Sound}
use Rattle.gix_commitgraph.specs.declared.verify.VerifyError.TheVariants as error
use Rattle.graph_chunks.specs.GraphDates.{graph_dates_refusal}
use Rattle.graph_chunks.specs.GraphFilters.{graph_filters_refusal}
use Rattle.graph_commands.specs.declared.refusal.Refusal.{Refusal}
use Rattle.graph_commands.specs.declared.refusal.Refusal.TheVariants.{Id, Read, File, Open, Verify, Walk}
use Rattle.graph_writer.specs.RightThroughout.{IsRightThroughout}
use Rattle.history_commands.specs.Check.{MayRefuseToStart, MayRefuseToCheck, MayRefuseDates, MayRefuseFilters, MayFindInAll}
use Rattle.history_commands.specs.declared.check.CheckRefusal.{CheckRefusal}
use Rattle.history_commands.specs.declared.check.CheckRefusal.TheVariants.{Graph, Dates, Filters}
use Rattle.write_commands.specs.ShortOfMemory.{IsShortOfMemory}

module _ (layers : List Layer) (right : IsRightThroughout layers) where
  -- the opener answers these layers
  abbrev Opens : Result (List Layer) OpenError → Type 0
  Opens answer = answer ≡ Ok layers

  sound-found : (found : List Layer) → Opens (Ok found) → Sound found
  sound-found found opened =
      let same : found ≡ layers = cc in subst Sound (sym same) right.sound

  start : (refusal : Refusal) → MayRefuseToStart Opens refusal → refusal ≡ Verify error.OutOfMemory
  start (Open fault) is = absurd (cc)
  start (Verify error.OutOfMemory) is = refl
  start (Verify (error.Processor pos e)) is = absurd is.2
  start (Verify error.TooManyFiles) is = absurd (is.2.1 (sound-found is.0 is.1))
  start (Verify (error.BaseCount layer)) is = absurd (is.2.1 (sound-found is.0 is.1))
  start (Verify (error.BaseId layer index)) is = absurd (is.2.1 (sound-found is.0 is.1))
  start (Verify (error.Layer layer fault)) is = absurd (is.2.1 (sound-found is.0 is.1))
  start (Verify (error.Commit pos fault)) is = absurd (is.2.1 (sound-found is.0 is.1))
  start (Verify (error.Parent pos fault)) is = absurd (is.2.1 (sound-found is.0 is.1))
  start (Verify (error.ParentOutOfRange pos parent)) is = absurd (is.2.1 (sound-found is.0 is.1))
  start (Verify (error.Generation pos expected)) is = absurd (is.2.1 (sound-found is.0 is.1))
  start (Verify (error.DuplicateId pos earlier)) is = absurd (is.2.1 (sound-found is.0 is.1))
  start (Id fault) is = absurd is
  start (Read fault) is = absurd is
  start (File fault) is = absurd is
  start Walk is = absurd is

  refused : (refusal : CheckRefusal) → MayRefuseToCheck Opens refusal → IsShortOfMemory refusal
  unfolding MayRefuseDates MayRefuseFilters
  refused (Graph refusal) is = start refusal is
  refused (Dates fault) (found, opened, sound, has_dates) =
      let same : found ≡ layers = cc in
      let stored : All HasDates layers = subst (λ (ls : List Layer). All HasDates ls) same has_dates.0 in
      elim has_dates.1 [
        | inl wrong ↦
            absurd (none-some fault (sym (ap graph_dates_refusal same ∙ right.dates stored) ∙ wrong))
        | inr memory ↦ memory.0
      ]
  refused (Filters fault) (found, opened, sound, chunks) =
      let same : found ≡ layers = cc in
      elim chunks.2 [
        | inl wrong ↦ absurd (none-some fault (sym (ap graph_filters_refusal same ∙ right.filters) ∙ wrong))
        | inr memory ↦ memory.0
      ]

pub short-of-memory : (layers : List Layer) (refusal : CheckRefusal) → IsRightThroughout layers
    → MayFindInAll (λ answer. answer ≡ Ok layers) (Err refusal) → IsShortOfMemory refusal
short-of-memory layers refusal right may = refused layers right refusal may
