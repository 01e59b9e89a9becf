-- What the hash of a word picks of a filter.
use Rattle.std.specs.Prelude.{ℕ, ◌*◌, ◌/◌, ◌%◌, ◌^◌, List, [], ◌∷◌, slice_index}
use Rattle.std.specs.Hash.FoldHasher.{initial, write, finish}
use Rattle.pk_filter.specs.declared.hash.WordHash.{WordHash}

-- that of a word: std's fast hash
unfoldable pub hashed : List ℕ → WordHash
hashed word = record { 0 = finish (write initial word) }

-- the block that it picks among so many, by its high half
unfoldable pub block_of : ℕ → WordHash → ℕ
block_of count hash = ((hash.0 / 2 ^ 32) * count) / 2 ^ 32

-- the odd numbers by which it picks a bit of each lane
abbrev pub salts : List ℕ
salts =
    0x47b6_137b ∷ 0x4497_4d91 ∷ 0x8824_ad5b ∷ 0xa2b7_289d ∷ 0x7054_95c7 ∷ 0x2df1_424b ∷ 0x9efc_4947
    ∷ 0x5c6b_fb31 ∷ []

-- the number with the bit alone that it picks in a lane, by its low half
unfoldable pub mask_of : WordHash → ℕ → ℕ
mask_of hash lane = 2 ^ (((hash.0 % 2 ^ 32) * slice_index salts lane % 2 ^ 32) / 2 ^ 27)
