use Rattle.std.proofs.Common.{rules, refl}
use Rattle.std.specs.Prelude.{option_map}
use Rattle.tree_objects.specs.Entry.{entry_of}
use Rattle.tree_changes.proofs.EndLemmas.{end_of_end, itself}
use Rattle.tree_changes.proofs.NextLemmas.{past_none, past_more, next_is, past_all}
use Rattle.tree_changes.proofs.level.next_difference.Goals as goal

pub returns-then-not-are_alike-clause-pair : goal.returns-then-not-are_alike-clause-pair
returns-then-not-are_alike-clause-pair c = λ olds news h k r s.
    let pair = c.in-Some.pair in
    next_is c.args.kind olds news c.loop-pair.old_rest.now c.loop-pair.new_rest.now
    (c.loop-pair.invariant.past olds news h k r s) (option_map entry_of pair.old) (option_map entry_of pair.new)
    pair.old_rest.now pair.new_rest.now pair.name.now pair.directory c.in-Some.ensures.pair
    (λ alike. let yes = c.if-not-are_alike.ensures.1 alike in search rules)

pub loop-pair-preserved : goal.loop-pair-preserved
loop-pair-preserved c =
    let pair = c.in-Some.pair in
    record {
      past = λ olds news h k r s.
          past_more c.args.kind olds news c.loop-pair.old_rest.now c.loop-pair.new_rest.now
          (c.loop-pair.invariant.past olds news h k r s) (option_map entry_of pair.old) (option_map entry_of pair.new)
          pair.old_rest.now pair.new_rest.now pair.name.now pair.directory c.in-Some.ensures.pair
          (c.if-not-are_alike.ensures.0 refl);
      old_end =
          end_of_end c.args.old.now c.loop-pair.old_rest.now pair.old_rest.now c.loop-pair.invariant.old_end
          c.in-Some.ensures.old_end;
      new_end =
          end_of_end c.args.new.now c.loop-pair.new_rest.now pair.new_rest.now c.loop-pair.invariant.new_end
          c.in-Some.ensures.new_end;
    }

pub returns-clause-pair : goal.returns-clause-pair
returns-clause-pair c = λ olds news h k r s.
    past_all c.args.kind olds news c.loop-pair.old_rest.now c.loop-pair.new_rest.now
    (c.loop-pair.invariant.past olds news h k r s) c.in_default.ensures.pair

pub loop-pair-init : goal.loop-pair-init
loop-pair-init c = record {
  past = past_none c.args.kind c.args.old.now c.args.new.now;
  old_end = itself c.args.old.now;
  new_end = itself c.args.new.now;
}

pub returns-then-not-are_alike-clause-old_end : goal.returns-then-not-are_alike-clause-old_end
returns-then-not-are_alike-clause-old_end c =
    end_of_end c.args.old.now c.loop-pair.old_rest.now c.in-Some.pair.old_rest.now c.loop-pair.invariant.old_end
    c.in-Some.ensures.old_end

pub returns-then-not-are_alike-clause-new_end : goal.returns-then-not-are_alike-clause-new_end
returns-then-not-are_alike-clause-new_end c =
    end_of_end c.args.new.now c.loop-pair.new_rest.now c.in-Some.pair.new_rest.now c.loop-pair.invariant.new_end
    c.in-Some.ensures.new_end

pub returns-then-not-are_alike-clause-differ : goal.returns-then-not-are_alike-clause-differ
returns-then-not-are_alike-clause-differ c = λ alike. let yes = c.if-not-are_alike.ensures.1 alike in search rules
