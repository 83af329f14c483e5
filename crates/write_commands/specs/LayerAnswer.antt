-- the text and the exit status of the answer of a command that makes the file of a layer
use Rattle.std.specs.Prelude.{ℕ, List, Result, Ok, Err}
use Rattle.graph_commands.specs.Text.{◌⧺◌, newline}
use Rattle.write_commands.specs.WriteRefusalLines.{layer_refusal_text}
use Rattle.write_commands.specs.declared.refusal.LayerRefusal.{LayerRefusal}

-- the bytes of the layer, or the line of a refusal
abbrev pub written_text : Result (List ℕ) LayerRefusal → List ℕ
written_text (Ok bytes) = bytes
written_text (Err refusal) = layer_refusal_text refusal ⧺ newline

-- 0 where a layer was written, and else 1
abbrev pub written_status : Result (List ℕ) LayerRefusal → ℕ
written_status (Ok bytes) = 0
written_status (Err refusal) = 1
