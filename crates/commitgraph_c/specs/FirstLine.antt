-- where the first line of a text ends
use Rattle.std.specs.Prelude.{ℕ, ◌+◌, ◌==◌, List, length, option_map, position, unwrap_or}

-- how many bytes it has, with the newline that ends it; all, where none does
abbrev pub line_len : List ℕ → ℕ
line_len text = unwrap_or (option_map (λ newline. newline + 1) (position (λ byte. byte == 10) text)) (length text)
