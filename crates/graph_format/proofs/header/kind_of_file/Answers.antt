-- The conditions of the header read its first bytes and the length.
use Rattle.std.proofs.Common.{◌≡◌, ℕ, ◌≤◌, List, length, take, slice_index, not, is_none}
use Rattle.std.proofs.Common.{nat_lt, bytes_eq, refl, rules, arith}
use Rattle.std.specs.Prelude.{◌==◌}
use Rattle.gix_chunk_core.specs.FirstFault.{◌when◌, ◌otherwise◌}
use Rattle.gix_chunk_core.specs.FirstBytes.{filled}
use Rattle.gix_chunk_core.proofs.HeadLemmas.{filled-len, filled-take, filled-index}
use Rattle.gix_hash_core.specs.Kind.{kind_of}
use Rattle.graph_format.specs.Format.{signature, least_size}
use Rattle.graph_format.specs.RefusalGroups.{header_refusal}
use Rattle.graph_format.specs.declared.error.FileError.TheVariants.{TooSmall, Signature, Version, Hash}
use Rattle.graph_format.proofs.header.kind_of_file.Goals as goal

header-front : (front : List ℕ) (len : ℕ) → length front ≤ len → 8 ≤ length front
    → header_refusal (filled front len)
    ≡ (TooSmall when nat_lt len least_size
    otherwise Signature when not (bytes_eq (take 4 front) signature)
    otherwise Version (slice_index front 4) when not (slice_index front 4 == 1)
    otherwise Hash (slice_index front 5) when is_none (kind_of (slice_index front 5)))
unfolding header_refusal
header-front front len fits h =
    rw (
      filled-len front len fits,
      filled-take front len 4 (omega (arith, h)),
      filled-index front len 4 (omega (arith, h)),
      filled-index front len 5 (omega (arith, h)),
    ) refl

pub returns-then-ne-clause-refusal : goal.returns-then-ne-clause-refusal
returns-then-ne-clause-refusal c =
    rw (header-front c.args.front.now c.args.len c.requires.len (omega arith)) (search rules)

pub returns-then-front-ne1-clause-refusal : goal.returns-then-front-ne1-clause-refusal
returns-then-front-ne1-clause-refusal c =
    rw (header-front c.args.front.now c.args.len c.requires.len (omega arith)) (search rules)

pub returns-in-Ok-clause-refusal : goal.returns-in-Ok-clause-refusal
returns-in-Ok-clause-refusal c =
    rw (header-front c.args.front.now c.args.len c.requires.len (omega arith)) (search rules)

pub returns-in-Err-clause-refusal : goal.returns-in-Err-clause-refusal
returns-in-Err-clause-refusal c =
    rw (header-front c.args.front.now c.args.len c.requires.len (omega arith)) (search rules)
