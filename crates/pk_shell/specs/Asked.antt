-- What a line asks.
use Rattle.std.specs.Prelude.{ℕ, ◌^◌, Bool, true, false, ◌&&◌, nat_lt, nat_le, List, [], ◌∷◌}
use Rattle.std.specs.Prelude.{length, codes, Option, Some, None, ◌==◌, if◌then◌else◌}
use Rattle.std.specs.List.{before_first, after_first, position_or_len}
use Rattle.std.specs.Str.{bytes_eq, all_ascii_digits}
use Rattle.std.specs.Str.Lossy.{utf8_valid_len}
use Rattle.std.specs.Str.Parse.{digits_value}
use Rattle.pk_model.specs.Steps.{Request, add, delete, show, commit, merge, tidy, count}

-- what a line asks: a refusal of the shell's own, a command, the documents of a query text, or
-- the end
pub data Asked : Type 0 where
  refuses : (why : List ℕ) → Asked
  does : (request : Request) → Asked
  queries : (text : List ℕ) → Asked
  quits : Asked

-- the bytes are UTF-8
abbrev pub is_text : List ℕ → Bool
is_text bytes = utf8_valid_len bytes == length bytes

abbrev pub is_space : ℕ → Bool
is_space b = b == 32

-- at most ten bytes, each a decimal digit
abbrev pub is_short_numeral : List ℕ → Bool
is_short_numeral text = nat_le (length text) 10 && all_ascii_digits text

-- the number that one to ten decimal digits write, if it is below 2^32
abbrev pub number_of : List ℕ → Option ℕ
number_of text =
    if is_short_numeral text && (nat_lt 0 (length text) && nat_lt (digits_value 10 text) (2 ^ 32))
    then Some (digits_value 10 text)
    else None

-- a command about a document, if its number is one
abbrev pub about : (ℕ → Request) → Option ℕ → Asked
about command (Some n) = does (command n)
about command None = refuses (codes "unknown")

-- a line without a space
abbrev pub asked_alone : List ℕ → Asked
asked_alone word =
    if bytes_eq word (codes "commit") then does commit
    else if bytes_eq word (codes "merge") then does merge
    else if bytes_eq word (codes "tidy") then does tidy
    else if bytes_eq word (codes "count") then does count
    else if bytes_eq word (codes "quit") then quits
    else refuses (codes "unknown")

-- a command word and what follows the first space
abbrev pub asked_with : List ℕ → List ℕ → Asked
asked_with word rest =
    if bytes_eq word (codes "add") then does (add rest)
    else if bytes_eq word (codes "find") then queries rest
    else if bytes_eq word (codes "delete") then about delete (number_of rest)
    else if bytes_eq word (codes "show") then about show (number_of rest)
    else refuses (codes "unknown")

-- a line that is text
unfoldable pub asked_text : List ℕ → Asked
asked_text line =
    if nat_lt (position_or_len is_space line) (length line)
    then asked_with (before_first is_space line) (after_first is_space line)
    else asked_alone line

-- a line that is not too long
unfoldable pub asked_short : List ℕ → Asked
asked_short line = if is_text line then asked_text line else refuses (codes "not text")

-- the longest line, in bytes without its line feed: an `add` with the longest text, and 60 bytes
abbrev pub longest_line : ℕ
longest_line = 1048640

-- a line as it is held: nothing of one that is too long
abbrev pub held_of : List ℕ → Option (List ℕ)
held_of line = if nat_lt longest_line (length line) then None else Some line

-- what is held asks
abbrev pub asked_held : Option (List ℕ) → Asked
asked_held None = refuses (codes "line too long")
asked_held (Some line) = asked_short line

-- WHAT A LINE ASKS
abbrev pub asked : List ℕ → Asked
asked line = asked_held (held_of line)

-- it asks for the end
abbrev pub is_quit : Asked → Bool
is_quit quits = true
is_quit (refuses why) = false
is_quit (does request) = false
is_quit (queries text) = false

-- nothing of a line has come
abbrev pub is_blank : Option (List ℕ) → Bool
is_blank None = false
is_blank (Some []) = true
is_blank (Some (b ∷ bs)) = false
