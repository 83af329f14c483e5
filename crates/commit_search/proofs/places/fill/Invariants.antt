use Rattle.std.proofs.Common.{◌≡◌, length, take}
use Rattle.commit_search.specs.HashTable.{HasPlacesOf}
use Rattle.commit_search.proofs.places.fill.Given as goal

abbrev pub invariant-loop-place : goal.invariant-loop-place
invariant-loop-place l = record {
  len : length l.table.items ≡ length l.fn.table.items;
  listed : HasPlacesOf l.table.items (take l.place l.numbers.items);
}
