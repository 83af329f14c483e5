use Rattle.object_stream.proofs.OwnLineLemmas.{IsRead}
use Rattle.object_stream.proofs.own_line.size_before_feed.Given as goal

abbrev pub invariant-loop-place : goal.invariant-loop-place
invariant-loop-place l = IsRead l.text l.place l.size
