-- the list of conditions is what the groups say, in their order
use Rattle.std.proofs.Common.{◌≡◌, List, ℕ, Option, Some, None, refl, ◌∙◌}
use Rattle.std.specs.Option.{option_or}
use Rattle.gix_chunk_core.specs.FirstFault.{◌otherwise◌}
use Rattle.graph_format.specs.Format.{fan_of, kind_in}
use Rattle.graph_format.specs.Refusal.{refusal, falling_refusal}
use Rattle.graph_format.specs.RefusalGroups.{header_refusal, bases_refusal, records_refusal, fan_refusal, ids_refusal}
use Rattle.graph_format.specs.RefusalGroups.{edges_refusal, sizes_refusal, trailer_refusal, counts_refusal}
use Rattle.graph_format.specs.RefusalGroups.{refusal_by_head, refusal_by_fan}

option_or-assoc : {X : Type 0} (a b c : Option X) → option_or (option_or a b) c ≡ option_or a (option_or b c)
option_or-assoc None b c = refl
option_or-assoc (Some x) b c = refl

pub refusal-grouped : (bytes : List ℕ) → refusal bytes ≡ (refusal_by_head bytes otherwise refusal_by_fan bytes)
unfolding refusal refusal_by_head refusal_by_fan header_refusal sizes_refusal bases_refusal records_refusal fan_refusal
    ids_refusal edges_refusal trailer_refusal counts_refusal
refusal-grouped bytes = simp option_or-assoc

-- bytes that no group refuses are not refused
pub refusal-none : (bytes : List ℕ) → refusal_by_head bytes ≡ None → falling_refusal (fan_of bytes) ≡ None
    → counts_refusal (kind_in bytes) bytes ≡ None → refusal bytes ≡ None
unfolding refusal_by_fan
refusal-none bytes head falling counts = refusal-grouped bytes ∙ rw (head, falling, counts) refl
