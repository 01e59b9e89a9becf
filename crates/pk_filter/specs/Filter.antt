-- Which words pass a filter.
use Rattle.std.specs.Prelude.{ℕ, ◌*◌, ◌+◌, ◌/◌, List, All}
use Rattle.pk_dict.specs.Dictionary.{Item}
use Rattle.pk_filter.specs.declared.filter.WordFilter.{WordFilter}
use Rattle.pk_filter.specs.declared.hash.WordHash.{WordHash}
use Rattle.pk_filter.specs.Bits.{HasBits}
use Rattle.pk_filter.specs.Hashed.{block_of, hashed}

-- those of a hash pass: its bits are set in the block that it picks
abbrev pub Passes : WordFilter → WordHash → Type 0
Passes filter hash = HasBits filter.lanes.items (8 * block_of filter.blocks hash) hash

-- each of these items has a word that passes
abbrev pub HasAll : List Item → WordFilter → Type 0
HasAll es filter = All (λ (e : Item). Passes filter (hashed e.term)) es

-- how many bytes the lanes of so many words take: a block of 32 bytes for each sixteen
abbrev pub bytes_for : ℕ → ℕ
bytes_for words = 32 * (words / 16 + 1)
