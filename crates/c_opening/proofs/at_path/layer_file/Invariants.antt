use Rattle.std.proofs.Common.{◌≡◌, take_while}
use Rattle.std.specs.Str.{is_utf8}
use Rattle.std.specs.Str.Lines.{lines}
use Rattle.c_opening.proofs.KnownAnswers.{layer_of_lines}
use Rattle.c_opening.proofs.at_path.layer_file.Given as goal

-- the lines that are left name the layer, by how many are below it
abbrev pub invariant-loop-line : goal.invariant-loop-line
invariant-loop-line l =
    let layer_of = layer_of_lines l.folder in
    record {
      can_next : (goal.iterator-loop-line).can_next l.line-iterator;
      is_finite : (goal.iterator-loop-line).is_finite l.line-iterator;
      same : layer_of (take_while is_utf8 (lines l.text)) l.layer ≡ layer_of (take_while is_utf8 l.line-iterator) l.below;
    }
