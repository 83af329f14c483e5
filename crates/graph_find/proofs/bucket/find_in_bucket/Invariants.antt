-- The id stands nowhere outside of what is left.
use Rattle.std.proofs.Common.{◌+◌, ◌-◌, ◌≤◌}
use Rattle.graph_format.specs.Layer.{Layer}
use Rattle.graph_format.specs.Lookup.{digits}
use Rattle.graph_layer.proofs.LookupLemmas.{StandsWithin}
use Rattle.graph_find.specs.Bucket.{IsBucket}
use Rattle.graph_find.proofs.bucket.find_in_bucket.Given as goal

abbrev pub invariant-loop-low : goal.invariant-loop-low
invariant-loop-low l = record {
  stands : (layer : Layer) → IsBucket layer l.wanted l.span.start l.span.end l.ids → StandsWithin layer l.wanted l.low l.high;
  order : l.low ≤ l.high;
  from : l.span.start ≤ l.low;
  within : l.high ≤ l.span.end;
  counted : l.comparisons + digits (l.high - l.low) ≤ digits (l.span.end - l.span.start);
}

abbrev pub decreases-loop-low : goal.decreases-loop-low
decreases-loop-low l = l.high - l.low
