-- The bytes of a list, as a function of the list.
use Rattle.std.specs.Prelude.{◌+◌, ◌*◌, ◌/◌, ◌%◌, ◌<◌, ◌∷◌, ◌++◌, if◌then◌else◌}
use Rattle.std.specs.Prelude.{ℕ, List, [], length, drop, slice_index, max, map, zero, suc, nat_lt}
use Rattle.std.specs.Prelude.{nat_eq}
use Rattle.std.specs.Int.{w32, to_le_bytes}
use Rattle.std.specs.Int.Digits.{digits_of}
use Rattle.std.specs.List.{range_with_len}
use Rattle.pk_lanes.specs.Packed.{bit}
use Rattle.pk_posting.specs.Posting.{tail_bytes, differences, seed, block}

-- each number is a byte, and so is the 0 that is read past the end
abbrev pub AreBytes : List ℕ → Type 0
AreBytes xs = (i : ℕ) → slice_index xs i < 256

-- the bit length of the greatest number
unfoldable pub width_of : List ℕ → ℕ
width_of [] = 0
width_of (x ∷ xs) = max (length (digits_of 2 x)) (width_of xs)

-- the differences that block k of a list packs, and their width
abbrev pub differences_of : ℕ → List ℕ → List ℕ
differences_of k xs = differences (seed k xs) (block k xs)

abbrev pub width_at : ℕ → List ℕ → ℕ
width_at k xs = width_of (differences_of k xs)

-- the sum of the widths of the first k blocks of a list
unfoldable pub widths_of : ℕ → List ℕ → ℕ
widths_of zero xs = 0
widths_of (suc k) xs = widths_of k xs + width_at k xs

-- the offset of block k
abbrev pub offset_of : ℕ → List ℕ → ℕ
offset_of k xs = 16 * (k / 16 + 1) + 16 * widths_of k xs

-- how many bytes spell a list
abbrev pub spelled_length : List ℕ → ℕ
spelled_length xs = 4 + 20 * (length xs / 128) + 16 * ((length xs / 128 + 15) / 16)
    + 16 * widths_of (length xs / 128) xs
    + length (tail_bytes (slice_index (0 ∷ xs) (128 * (length xs / 128)))
    (drop (128 * (length xs / 128)) xs))

-- the bit q of a lane, c, of numbers that are packed at width b
abbrev pub bit_in_lane : ℕ → List ℕ → ℕ → ℕ → ℕ
bit_in_lane b xs c q = bit (slice_index xs (4 * (q / b) + c)) (q % b)

-- the bit r of the byte p of the packed block
abbrev pub packed_bit : ℕ → List ℕ → ℕ → ℕ → ℕ
packed_bit b xs p r = bit_in_lane b xs (p % 16 / 4) (32 * (p / 16) + 8 * (p % 4) + r)

-- the byte p of the packed block
unfoldable pub packed_byte : ℕ → List ℕ → ℕ → ℕ
packed_byte b xs p = packed_bit b xs p 0 + 2 * packed_bit b xs p 1
    + 4 * packed_bit b xs p 2 + 8 * packed_bit b xs p 3
    + 16 * packed_bit b xs p 4 + 32 * packed_bit b xs p 5
    + 64 * packed_bit b xs p 6 + 128 * packed_bit b xs p 7

-- 128 numbers packed at width b
unfoldable pub packed_bytes : ℕ → List ℕ → List ℕ
packed_bytes b xs = map (packed_byte b xs) (range_with_len 0 (16 * b))

-- the skip entry of block k: its offset and its last four numbers
unfoldable pub entry : List ℕ → ℕ → List ℕ
entry xs k = to_le_bytes w32 (offset_of k xs)
    ++ (to_le_bytes w32 (slice_index xs (128 * k + 124))
    ++ (to_le_bytes w32 (slice_index xs (128 * k + 125))
    ++ (to_le_bytes w32 (slice_index xs (128 * k + 126))
    ++ to_le_bytes w32 (slice_index xs (128 * k + 127)))))

-- the width byte of block k: 00 where there is no block
abbrev pub width_byte : List ℕ → ℕ → ℕ
width_byte xs k = if nat_lt k (length xs / 128) then width_at k xs else 0

-- the sixteen width bytes of the metablock that begins with block k
unfoldable pub width_row : List ℕ → ℕ → List ℕ
width_row xs k = map (λ j. width_byte xs (k + j)) (range_with_len 0 16)

-- block k, after its metablock's widths where it is the first there
unfoldable pub block_bytes : List ℕ → ℕ → List ℕ
block_bytes xs k = (if nat_eq (k % 16) 0 then width_row xs k else [])
    ++ packed_bytes (width_at k xs) (differences_of k xs)

-- n parts, one after another
unfoldable pub joined : (ℕ → List ℕ) → ℕ → List ℕ
joined part zero = []
joined part (suc n) = joined part n ++ part n

-- the head and the skip entries; the metablocks; the numbers left
unfoldable pub head_of : List ℕ → List ℕ
head_of xs = to_le_bytes w32 (length xs) ++ joined (entry xs) (length xs / 128)

unfoldable pub body_of : List ℕ → List ℕ
body_of xs = joined (block_bytes xs) (length xs / 128)

unfoldable pub tail_of : List ℕ → List ℕ
tail_of xs = tail_bytes (slice_index (0 ∷ xs) (128 * (length xs / 128)))
    (drop (128 * (length xs / 128)) xs)

-- the bytes that spell a list
unfoldable pub spelling : List ℕ → List ℕ
spelling xs = head_of xs ++ (body_of xs ++ tail_of xs)
