use Rattle.std.proofs.Common.{get_or, refl, arith, []}
use Rattle.std.proofs.lemmas.Option.{slice_get-get_or}
use Rattle.commitgraph_c.proofs.probes.probe.Goals as goal

pub returns-in-Absent : goal.returns-in-Absent
returns-in-Absent c =
    let filters = c.args.filters.now.filters in
    let here = slice_get-get_or filters c.args.pos.0 [] c.requires in
    let none = c.in-Absent.ensures.not_computed (get_or filters c.args.pos.0 []) here in
    record {
      filter = get_or filters c.args.pos.0 [];
      here = here;
      not_computed = (λ e. cc, λ empty. let other = none.1 empty in cc);
      possible = λ e. cc;
      absent = λ e. c.in-Absent.ensures.absent (get_or filters c.args.pos.0 []) here refl;
      known = omega arith;
    }

pub returns-in-Possible : goal.returns-in-Possible
returns-in-Possible c =
    let filters = c.args.filters.now.filters in
    let here = slice_get-get_or filters c.args.pos.0 [] c.requires in
    let none = c.in-Possible.ensures.not_computed (get_or filters c.args.pos.0 []) here in
    record {
      filter = get_or filters c.args.pos.0 [];
      here = here;
      not_computed = (λ e. cc, λ empty. let other = none.1 empty in cc);
      possible = λ e. c.in-Possible.ensures.possible (get_or filters c.args.pos.0 []) here refl;
      absent = λ e. cc;
      known = omega arith;
    }

pub returns-in-NotComputed : goal.returns-in-NotComputed
returns-in-NotComputed c =
    let filters = c.args.filters.now.filters in
    let here = slice_get-get_or filters c.args.pos.0 [] c.requires in
    let none = c.in-NotComputed.ensures.not_computed (get_or filters c.args.pos.0 []) here in
    record {
      filter = get_or filters c.args.pos.0 [];
      here = here;
      not_computed = (λ e. none.0 refl, λ empty. refl);
      possible = λ e. cc;
      absent = λ e. cc;
      known = omega arith;
    }
