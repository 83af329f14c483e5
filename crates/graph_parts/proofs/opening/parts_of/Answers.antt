-- One file more has its parts.
use Rattle.std.proofs.Common.{◌≡◌, ◌∷◌, ◌++◌, [], rules, arith}
use Rattle.std.proofs.lemmas.List.{nil_from_length}
use Rattle.graph_parts.proofs.OpeningLemmas.{files-all, files-none, files-push, next-head}
use Rattle.graph_parts.proofs.opening.parts_of.Goals as goal

pub loop-file-init : goal.loop-file-init
loop-file-init c = record {
  can_next = tt;
  is_finite = tt;
  split = files-none c.args.files.items _ _ c.requires (search rules) (search rules);
}

pub new-requires : goal.new-requires
new-requires c =
    let rest = c.next.new.self.rest.items in
    let cut : c.loop-file.file-iterator.rest.items ≡ c.in-Some.file ∷ rest = search rules in
    next-head c.args.files.items c.loop-file.file-iterator.rest.items rest c.loop-file.layers.items c.in-Some.file
    c.loop-file.invariant.split cut

pub loop-file-preserved : goal.loop-file-preserved
loop-file-preserved c =
    let rest = c.next.new.self.rest.items in
    let cut : c.loop-file.file-iterator.rest.items ≡ c.in-Some.file ∷ rest = search rules in
    let pushed : c.push.new.self.items ≡ c.loop-file.layers.items ++ c.new.result ∷ [] = search rules in
    record {
      can_next = tt;
      is_finite = tt;
      split = files-push c.args.files.items c.loop-file.file-iterator.rest.items rest c.loop-file.layers.items
          c.push.new.self.items c.new.result c.in-Some.file c.loop-file.invariant.split cut pushed c.new.ensures.file
          c.new.ensures.parts c.new.ensures.none c.new.ensures.head;
    }

pub returns-clause-parts : goal.returns-clause-parts
returns-clause-parts c =
    let left = c.loop-file.file-iterator.rest in
    let none : left.items ≡ [] = nil_from_length left.items (omega (arith, c.in-None.ensures.steps.0, left.ok)) in
    files-all c.args.files.items left.items c.loop-file.layers.items c.loop-file.invariant.split none
