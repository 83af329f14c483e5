use Rattle.std.proofs.Common.{◌≡◌, take_while}
use Rattle.std.specs.Str.{is_utf8}
use Rattle.std.specs.Str.Lines.{lines}
use Rattle.c_opening.specs.KnownPaths.{known_tree}
use Rattle.c_opening.proofs.KnownAnswers.{unread_of}
use Rattle.c_opening.proofs.at_path.unread_layer.Given as goal

-- the lines that are left name the first layer that was not read
abbrev pub invariant-loop-line : goal.invariant-loop-line
invariant-loop-line l =
    let unread = unread_of (known_tree l.known) l.folder in
    record {
      can_next : (goal.iterator-loop-line).can_next l.line-iterator;
      is_finite : (goal.iterator-loop-line).is_finite l.line-iterator;
      same : unread (take_while is_utf8 (lines l.text)) ≡ unread (take_while is_utf8 l.line-iterator);
    }
