-- The keys of words, and what a table of them decides.
use Rattle.std.specs.Prelude.{◌&&◌, ◌+◌, ◌-◌, ◌*◌, ◌/◌, ℕ, zero, suc, List, length, set, slice_index, nat_lt, nat_eq, if◌then◌else◌}
use Rattle.byteorder.specs.Endian.{big_number}
use Rattle.pk_keys.specs.declared.pivots.Bounds.{Bounds}

-- the first eight bytes of a word as a number, the first of them the highest, with zeros behind a
-- shorter word
abbrev pub key_of : List ℕ → ℕ
key_of w = big_number 8 w

-- the key that is known of the word in the middle of a range; 0 where none is
abbrev pub pivot_at : List ℕ → ℕ → ℕ
pivot_at pivots node = slice_index pivots node

-- The range that a halving for the key comes to from this one, which stands at the node, as long as
-- the key of the word in the middle is known, and another one. It takes at most n steps.
unfoldable pub decided : ℕ → List ℕ → ℕ → ℕ → ℕ → ℕ → Bounds
decided zero pivots key low high node = record { low = low; high = high; node = node }
decided (suc n) pivots key low high node =
    if nat_lt low high
    then (if nat_eq (pivot_at pivots node) 0 then record { low = low; high = high; node = node }
    else (if nat_eq (pivot_at pivots node) key then record { low = low; high = high; node = node }
    else (if nat_lt key (pivot_at pivots node)
    then decided n pivots key low (low + (high - low) / 2) (2 * node)
    else decided n pivots key (low + (high - low) / 2 + 1) high (2 * node + 1))))
    else record { low = low; high = high; node = node }

-- the table with a key at a node; nothing is put at 0 and past its end
abbrev pub kept : List ℕ → ℕ → ℕ → List ℕ
kept pivots node key =
    if nat_lt 0 node && nat_lt node (length pivots) then set pivots node key else pivots
