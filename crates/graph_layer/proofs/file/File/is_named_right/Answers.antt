use Rattle.std.proofs.Common.{◌∙◌, sym, ap, true, Option, List, ℕ, Bor}
use Rattle.std.specs.Option.{option_map_or}
use Rattle.gix_hash_core.specs.Hexadecimal.{spells_id}
use Rattle.graph_format.specs.NameRule.{name_of}
use Rattle.graph_layer.proofs.NameTestLemmas.{named-right}
use Rattle.graph_layer.proofs.file.File.is_named_right.Goals as goal

pub returns-in-Some : goal.returns-in-Some
returns-in-Some c =
    let layer = c.args.self.now in
    c.spells.ensures
    ∙ ap (spells_id c.in-Some.text.now) c.checksum.ensures
    ∙ sym
    (named-right layer.path layer.checksum c.file_name.result c.and_then.result (c.file_name.ensures ∙ ap name_of c.path.ensures)
    c.and_then.ensures
    ∙ ap (λ (r : Option (Bor (List ℕ))). option_map_or (λ t. spells_id t.now layer.checksum) r true) c.in-Some.is)

pub returns-in-None : goal.returns-in-None
returns-in-None c =
    let layer = c.args.self.now in
    sym
    (named-right layer.path layer.checksum c.file_name.result c.and_then.result (c.file_name.ensures ∙ ap name_of c.path.ensures)
    c.and_then.ensures
    ∙ ap (λ (r : Option (Bor (List ℕ))). option_map_or (λ t. spells_id t.now layer.checksum) r true) c.in-None.is)
