use Rattle.std.proofs.Common.{◌≡◌, ◌-◌, ℕ, List, length, take, drop, ◌∙◌, ap, arith, length-drop}
use Rattle.std.proofs.lemmas.List.{length-take}
use Rattle.gix_hash_core.specs.Kind.{id_len}
use Rattle.gix_hash_core.proofs.DigestLemmas.{digest_is_sized}
use Rattle.graph_vectors.proofs.trailer.reseal.Goals as goal

-- how many bytes stand from a place to the end
length-rest : (bytes : List ℕ) (n : ℕ) → length (take (length bytes - n) (drop n bytes)) ≡ length bytes - n
length-rest bytes n = omega (arith, length-take (length bytes - n) (drop n bytes), length-drop n bytes)

pub copy_from_slice-requires : goal.copy_from_slice-requires
copy_from_slice-requires c =
    let sized : length c.as_bytes.result.now ≡ id_len c.args.kind =
    ap length (c.as_bytes.ensures.bytes ∙ c.as_oid.ensures ∙ c.digest-checksum.ensures) ∙ digest_is_sized c.args.kind _ in
    omega (
      arith,
      sized,
      length-rest c.deref_mut.result.now (c.len.result - c.len_in_bytes.result),
      c.requires,
      c.len.ensures,
      c.len_in_bytes.ensures,
      ap length c.deref_mut.ensures.value,
    )
