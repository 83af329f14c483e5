use Rattle.std.proofs.Common.{◌≡◌, ◌∷◌, [], ℕ, List, sym, ap, ◌∙◌, arith, length}
use Rattle.commit_objects.specs.Lines.{ids_of_lines}
use Rattle.commit_objects.proofs.ParentLemmas.{ids_are, first_line, no_line}
use Rattle.commit_objects.proofs.parents.ParentsIterator.next.Goals as goal

pub returns-in_default-clause-steps : goal.returns-in_default-clause-steps
returns-in_default-clause-steps c =
    let kind = c.self.inside.kind in
    let lines = c.self.inside.lines.now in
    let left = c.self.invariant in
    let none : c.args.self.now ≡ [] =
    sym c.self.view_is ∙ ids_are kind left.0 lines left.1 ∙ no_line kind left.0 lines left.1 c.in_default.ensures in
    (none, none)

pub invariant_of-self : goal.invariant_of-self
invariant_of-self c =
    let left = c.self.invariant in
    let cut =
    first_line c.self.inside.kind left.0 c.self.inside.lines.now c.in-Some.line.id c.in-Some.line.next.now left.1
    c.in-Some.ensures in
    (cut.0, cut.2)

pub returns-clause-steps : goal.returns-clause-steps
returns-clause-steps c =
    let kind = c.self.inside.kind in
    let lines = c.self.inside.lines.now in
    let next = c.in-Some.line.next.now in
    let left = c.self.invariant in
    let id : List ℕ = c.in-Some.line.id in
    let cut = first_line kind left.0 lines id next left.1 c.in-Some.ensures in
    sym c.self.view_is ∙ ids_are kind left.0 lines left.1 ∙ cut.1
    ∙ ap (λ ids. id ∷ ids) (sym (ids_are kind cut.0 next cut.2))
    ∙ ap (λ x. x ∷ ids_of_lines kind next) (sym c.decode.ensures)

pub returns-clause-goes : goal.returns-clause-goes
returns-clause-goes c = record {
  on = λ finite. (tt, tt, omega (arith, ap length (returns-clause-steps c)));
  keeps = tt;
  rests = λ finite. tt;
}
