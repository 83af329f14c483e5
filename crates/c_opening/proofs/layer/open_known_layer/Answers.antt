use Rattle.std.proofs.Common.{refl, inr}
use Rattle.graph_format.specs.declared.error.FileError.TheVariants as file
use Rattle.c_opening.proofs.Files.{refused_bytes}
use Rattle.c_opening.proofs.layer.open_known_layer.Goals as goal

pub returns-in-Err-clause-refused : goal.returns-in-Err-clause-refused
returns-in-Err-clause-refused c =
    refused_bytes c.args.place c.args.file c.file_error.result file.OutOfMemory c.in_ok-path_of.ensures.text
    (inr (refl, c.in_ok-path_of.ensures.accepted)) c.file_error.ensures.told
