use Rattle.commit_objects.proofs.ParentLemmas.{says_no_tree, says_nothing, says_of, lines_before, rest_within}
use Rattle.commit_objects.proofs.parse.CommitObject.parse.Goals as goal

pub returns-in_default : goal.returns-in_default
returns-in_default c = says_no_tree c.args.kind c.args.contents.now c.in_default.ensures

pub returns-in_default-after_parents : goal.returns-in_default-after_parents
returns-in_default-after_parents c =
    says_nothing c.args.kind c.args.contents.now c.in-Some.tree.id c.in-Some.tree.next.now c.in-Some.ensures
    c.in_default-after_parents.ensures

pub slice_bounds-lines-count : goal.slice_bounds-lines-count
slice_bounds-lines-count c =
    let read = c.in-Some-after_parents.ensures in
    rest_within c.args.kind c.in-Some.tree.next.now read.0 c.in-Some-after_parents.rest.now read.1

pub of_lines-requires : goal.of_lines-requires
of_lines-requires c =
    let read = c.in-Some-after_parents.ensures in
    (read.0, lines_before c.args.kind c.in-Some.tree.next.now read.0 c.in-Some-after_parents.rest.now read.1)

pub returns : goal.returns
returns c =
    let next = c.in-Some.tree.next.now in
    let rest = c.in-Some-after_parents.rest.now in
    let read = c.in-Some-after_parents.ensures in
    let same = c.of_lines.ensures read.0 (lines_before c.args.kind next read.0 rest read.1) in
    rw same (says_of c.args.kind c.args.contents.now c.in-Some.tree.id next read.0 rest c.in-Some.ensures read.1)
