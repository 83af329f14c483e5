-- Nothing is said of what stands on a disk.
use Rattle.std.proofs.Common.{arith}
use Rattle.graph_folder.proofs.folder.on_disk.DiskFolder.TheImpl.Goals as goal

pub is_file-tells : goal.is_file-tells
is_file-tells g c = record { answer = λ t known. absurd (grind (arith, known)); tree = search; failures = search }

pub is_dir-tells : goal.is_dir-tells
is_dir-tells g c = record { answer = λ t known. absurd (grind (arith, known)); tree = search; failures = search }

pub read-tells : goal.read-tells
read-tells g c = record {
  bytes = λ t known. absurd (grind (arith, known));
  not_opened = λ t known. absurd (grind (arith, known));
  given = search;
  tree = search;
  failures = search;
}

pub read_part-tells : goal.read_part-tells
read_part-tells g c = record {
  part = λ t known. absurd (grind (arith, known));
  size = search;
  not_opened = λ t known. absurd (grind (arith, known));
  given = search;
  tree = search;
  failures = search;
}

pub has_bytes-tells : goal.has_bytes-tells
has_bytes-tells g c = record {
  same = λ t known. absurd (grind (arith, known));
  not_opened = λ t known. absurd (grind (arith, known));
  given = search;
  tree = search;
  failures = search;
}
