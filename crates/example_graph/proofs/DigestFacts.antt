-- Published digests, by computing.
use Rattle.std.proofs.Common.{◌≡◌, refl, codes}
use Rattle.hex.specs.Hex.{decode_pairs}
use Rattle.sha1.specs.Sha1.{first_words, schedule, rounds, compress, hash_after, digest_bytes, sha1}
use Rattle.sha2.specs.Sha256 as sha2
use Rattle.sha2.specs.Sha256.{sha256}
use Rattle.example_graph.specs.HexadecimalText.{hex}

pub empty_sha1 : sha1 (codes "") ≡ hex (codes "da39a3ee5e6b4b0d3255bfef95601890afd80709")
unfolding hex decode_pairs first_words schedule rounds compress hash_after digest_bytes sha1
empty_sha1 = refl

pub abc_sha1 : sha1 (codes "abc") ≡ hex (codes "a9993e364706816aba3e25717850c26c9cd0d89d")
unfolding hex decode_pairs first_words schedule rounds compress hash_after digest_bytes sha1
abc_sha1 = refl

pub empty_sha256 : sha256 (codes "") ≡ hex (codes "e3b0c44298fc1c149afbf4c8996fb92427ae41e4649b934ca495991b7852b855")
unfolding hex decode_pairs sha2.first_words sha2.schedule sha2.rounds sha2.compress sha2.hash_after
    sha2.digest_bytes sha256
empty_sha256 = refl

pub abc_sha256 : sha256 (codes "abc") ≡ hex (codes "ba7816bf8f01cfea414140de5dae2223b00361a396177a9cb410ff61f20015ad")
unfolding hex decode_pairs sha2.first_words sha2.schedule sha2.rounds sha2.compress sha2.hash_after
    sha2.digest_bytes sha256
abc_sha256 = refl
