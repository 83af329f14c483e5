-- The texts so far spell some ids.
use Rattle.std.proofs.Common.{ℕ, List, map, take, string_bytes}
use Rattle.std.specs.List.{AllZip}
use Rattle.gix_hash_core.specs.Hexadecimal.{SpellsId}
use Rattle.history_commands.proofs.words.check_ids.Given as goal

abbrev pub invariant-loop-text : goal.invariant-loop-text
invariant-loop-text l = (ids : List (List ℕ)) × AllZip SpellsId (take l.text-index (map string_bytes l.texts)) ids
