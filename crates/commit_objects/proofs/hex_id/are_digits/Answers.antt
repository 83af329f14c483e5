use Rattle.std.proofs.Common.{◌≡◌, sym, ap, ◌∙◌}
use Rattle.std.proofs.lemmas.List.{take_all}
use Rattle.std.proofs.lemmas.List.Sums.{AllPass-from_list_all, list_all-from_AllPass}
use Rattle.std.specs.List.{list_all}
use Rattle.hex.specs.Hex.{is_hex_digit}
use Rattle.commit_objects.proofs.hex_id.are_digits.Goals as goal

pub returns : goal.returns
returns c =
    let text = c.args.text.now in
    let whole : c.loop-byte.all ≡ list_all is_hex_digit text =
    c.loop-byte.invariant ∙ ap (list_all is_hex_digit) (take_all c.loop-byte.byte-index text c.loop-byte-test.false) in (
      λ yes. AllPass-from_list_all is_hex_digit text (sym whole ∙ yes),
      λ digits. whole ∙ list_all-from_AllPass is_hex_digit text digits,
    )
