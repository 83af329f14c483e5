-- The texts so far spell the ids that were read.
use Rattle.std.proofs.Common.{map, take, string_bytes}
use Rattle.std.specs.List.{AllZip}
use Rattle.gix_hash_core.specs.Hexadecimal.{SpellsId}
use Rattle.history_commands.proofs.words.read_ids.Given as goal

abbrev pub invariant-loop-text : goal.invariant-loop-text
invariant-loop-text l = AllZip SpellsId (take l.text-index (map string_bytes l.texts)) l.ids.items
