-- The fingerprint of a word, by which a short one is known, and the hash of a fingerprint.
use Rattle.std.specs.Prelude.{ℕ, ◌+◌, ◌-◌, ◌*◌, ◌/◌, ◌^◌, List, length, slice_index}
use Rattle.std.specs.Prelude.{if◌then◌else◌, nat_le, nat_lt, bit_and, bit_xor}
use Rattle.std.specs.Hash.FoldHasher.{initial, write, finish}

-- the four bytes from the place on as a number, the first the lowest
abbrev pub four_at : List ℕ → ℕ → ℕ
four_at bytes at =
    slice_index bytes at + slice_index bytes (at + 1) * 256
    + slice_index bytes (at + 2) * 65536 + slice_index bytes (at + 3) * 16777216

-- up to eight bytes as one number: the first four and the last four, of fewer the first, the middle
-- and the last
unfoldable pub short_of : List ℕ → ℕ
short_of bytes =
    if nat_le 4 (length bytes) then four_at bytes 0 + four_at bytes (length bytes - 4) * 4294967296
    else (if nat_lt 0 (length bytes)
    then slice_index bytes 0 + slice_index bytes (length bytes / 2) * 256
    + slice_index bytes (length bytes - 1) * 65536 else 0)

-- of a word of at most eight bytes these, of a longer one std's fast hash
unfoldable pub fingerprint_of : List ℕ → ℕ
fingerprint_of word = if nat_le (length word) 8 then short_of word else finish (write initial word)

-- the hash of a fingerprint: the low halves of both halves of a product, joined
unfoldable pub hash_of : ℕ → ℕ
hash_of fingerprint =
    bit_xor (bit_and (fingerprint * 0x9e37_79b9_7f4a_7c15) 0xFFFF_FFFF)
    (bit_and (fingerprint * 0x9e37_79b9_7f4a_7c15 / 2 ^ 64) 0xFFFF_FFFF)
