-- The committer's time, in seconds since 1970-01-01 00:00:00 UTC, by what follows the lines of the parents (git-commit-tree,
-- "DATE FORMATS", "Git internal format"). No document says how a line of another form is read: Git up to 2.40 reads it in
-- one way, and Git from 2.41 on in another, both in `parse_commit_date` of its commit.c. The time is 0 where none is found.
use Rattle.std.specs.Prelude.{◌≡◌, ◌⊎◌, ℕ, ◌+◌, ◌-◌, ◌^◌, ◌%◌, ◌==◌, ◌||◌, ◌&&◌, min, nat_eq, nat_le, nat_lt, Bool, false}
use Rattle.std.specs.Prelude.{if◌then◌else◌, List, [], ◌∷◌, length, take, drop, take_while, position, codes, Option, Some}
use Rattle.std.specs.Prelude.{None, option_map, option_and_then, unwrap_or}
use Rattle.std.specs.Option.{option_map_or}
use Rattle.std.specs.List.{starts_with, prefix_len, after_last}
use Rattle.std.specs.Char.{is_ascii_digit}
use Rattle.std.specs.Str.{byte}
use Rattle.std.specs.Str.Parse.{digits_value}

-- the end of a line, and of the address of an author or a committer
abbrev pub line_feed : ℕ
line_feed = byte "\n"

abbrev pub end_of_address : ℕ
end_of_address = byte ">"

-- what stands behind a word, if the bytes begin with it
abbrev pub behind_word : List ℕ → List ℕ → Option (List ℕ)
behind_word word bytes = if starts_with nat_eq bytes word then Some (drop (length word) bytes) else None

-- what stands before the first byte with this value, and behind it
abbrev pub before_byte : ℕ → List ℕ → Option (List ℕ)
before_byte value bytes = option_map (λ place. take place bytes) (position (λ b. b == value) bytes)

abbrev pub behind_byte : ℕ → List ℕ → Option (List ℕ)
behind_byte value bytes = option_map (λ place. drop (place + 1) bytes) (position (λ b. b == value) bytes)

-- what stands behind the last byte with this value
abbrev pub behind_last_byte : ℕ → List ℕ → Option (List ℕ)
behind_last_byte value bytes =
    option_map (λ _. after_last (λ b. b == value) bytes) (position (λ b. b == value) bytes)

-- a space to C: the bytes 09 to 0d and 20
abbrev pub is_space : ℕ → Bool
is_space b = b == 32 || (nat_le 9 b && nat_le b 13)

abbrev pub without_spaces : List ℕ → List ℕ
without_spaces bytes = drop (prefix_len is_space bytes) bytes

-- a space to Git's own isspace: the bytes 09, 0a, 0d and 20
abbrev pub is_git_space : ℕ → Bool
is_git_space b = b == 32 || b == 9 || b == 10 || b == 13

abbrev pub without_git_spaces : List ℕ → List ℕ
without_git_spaces bytes = drop (prefix_len is_git_space bytes) bytes

-- one plus sign less
abbrev pub without_plus : List ℕ → List ℕ
without_plus bytes = unwrap_or (behind_word (codes "+") bytes) bytes

-- the number that the decimal digits at the front spell; 0 where none stands there
abbrev pub spelled_number : List ℕ → ℕ
spelled_number bytes = digits_value 10 (take_while is_ascii_digit bytes)

-- that number, at most 2^64 - 1
abbrev pub leading_number : List ℕ → ℕ
leading_number bytes = min (spelled_number bytes) (2 ^ 64 - 1)

-- that number negated modulo 2^64; 2^64 - 1 where 64 bits do not hold it
abbrev pub negated_number : List ℕ → ℕ
negated_number bytes =
    if nat_lt (spelled_number bytes) (2 ^ 64) then (2 ^ 64 - spelled_number bytes) % 2 ^ 64 else 2 ^ 64 - 1

-- Git's parse_timestamp, which is C's strtoumax to the base 10: spaces, a sign or none, and digits
unfoldable pub parse_timestamp : List ℕ → ℕ
parse_timestamp bytes =
    let number = without_spaces bytes in
    option_map_or negated_number (behind_word (codes "-") number) (leading_number (without_plus number))

-- what stands behind the word of the committer, in the line after the author's, with which the rest has to begin
unfoldable pub behind_committer : List ℕ → Option (List ℕ)
behind_committer rest =
    option_and_then (behind_word (codes "committer"))
    (option_and_then (behind_byte line_feed) (behind_word (codes "author") rest))

-- a decimal digit or a minus sign is the first byte
abbrev pub begins_number : List ℕ → Bool
begins_number [] = false
begins_number (b ∷ bytes) = is_ascii_digit b || b == byte "-"

-- from Git 2.41 on: the date stands behind the last `>` of the committer's line, which has to end. Behind Git's spaces there a
-- digit or a minus sign has to be first.
unfoldable pub newer_time : List ℕ → ℕ
newer_time rest =
    let line = option_and_then (before_byte line_feed) (behind_committer rest) in
    let date = option_map without_git_spaces (option_and_then (behind_last_byte end_of_address) line) in
    option_map_or (λ bytes. if begins_number bytes then parse_timestamp bytes else 0) date 0

-- a line feed stands in the bytes, and more behind it
abbrev pub goes_on : List ℕ → Bool
goes_on bytes = nat_lt 0 (length (unwrap_or (behind_byte line_feed bytes) []))

-- up to Git 2.40: the date stands behind the first `>`, in whichever line, if a line feed and more follow
unfoldable pub older_time : List ℕ → ℕ
older_time rest =
    let date = option_and_then (behind_byte end_of_address) (behind_committer rest) in
    option_map_or (λ bytes. if goes_on bytes then parse_timestamp bytes else 0) date 0

-- a time of the commit: either Git may have written the file
abbrev pub IsTime : List ℕ → ℕ → Type 0
IsTime rest time = (time ≡ newer_time rest) ⊎ (time ≡ older_time rest)
