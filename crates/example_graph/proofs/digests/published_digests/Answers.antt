use Rattle.example_graph.proofs.DigestFacts.{empty_sha1, abc_sha1, empty_sha256, abc_sha256}
use Rattle.example_graph.proofs.digests.published_digests.Goals as goal

pub returns : goal.returns
returns c = record { empty_sha1 = empty_sha1; abc_sha1 = abc_sha1; empty_sha256 = empty_sha256; abc_sha256 = abc_sha256 }
