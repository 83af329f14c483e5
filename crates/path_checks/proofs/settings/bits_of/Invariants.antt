-- None of the layers so far has filters.
use Rattle.std.proofs.Common.{◌≡◌, drop}
use Rattle.path_checks.specs.GitSettings.{bits_of}
use Rattle.path_checks.proofs.settings.bits_of.Given as goal

abbrev pub invariant-loop-file : goal.invariant-loop-file
invariant-loop-file l = bits_of l.graph ≡ bits_of (drop l.file-index l.graph)
