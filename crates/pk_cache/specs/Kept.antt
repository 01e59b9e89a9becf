-- What a cache of blocks keeps.
use Rattle.std.specs.Prelude.{◌≡◌, ◌<◌, ◌/◌, ◌∷◌, ℕ, Bool, List, Option, Some}
use Rattle.std.specs.Prelude.{length, take, if◌then◌else◌}
use Rattle.std.specs.Map.{lookup, remove_entry}
use Rattle.pk_cache.specs.declared.key.BlockKey.{BlockKey}
use Rattle.pk_cache.specs.declared.cache.BlockCache.{BlockCache}
use Rattle.pk_cache.specs.Keys.{is_key}
use Rattle.pk_posting.specs.Posting.{Spells, block}
use Rattle.pk_posting.specs.Parts.{bytes_at}

-- the block that is kept for a key, if any
abbrev pub kept_at : BlockCache → BlockKey → Option (List ℕ)
kept_at cache key = lookup (is_key key) cache.kept.entries

-- the numbers are kept for the key
abbrev pub Keeps : BlockCache → BlockKey → List ℕ → Type 0
Keeps cache key xs = kept_at cache key ≡ Some xs

-- a map from keys to blocks
abbrev pub Blocks : Type 0
Blocks = BlockKey → Option (List ℕ)

-- the map has all that is kept
abbrev pub Agrees : Blocks → BlockCache → Type 0
Agrees blocks cache = (key : BlockKey) (xs : List ℕ) → Keeps cache key xs → blocks key ≡ Some xs

-- the numbers are the key's block of the list that stands at the key's place of a source, wherever
-- that list is said to end
abbrev pub IsBlockAt : List ℕ → BlockKey → List ℕ → Type 0
IsBlockAt content key xs = (bytes : ℕ) (ys : List ℕ)
    → Spells (bytes_at content (record { at = key.at; bytes = bytes })) ys
    → key.block < length ys / 128 → xs ≡ block key.block ys

-- What is kept once a block was answered: it first, the others behind it as they stood, as many as
-- there is room for. Where it found no memory to be kept, all is as before.
abbrev pub entries_after : Bool → BlockCache → BlockKey → List ℕ → List (BlockKey × List ℕ)
entries_after unkept old key xs =
    if unkept then old.kept.entries
    else take old.kept.cap ((key, xs) ∷ remove_entry (is_key key) old.kept.entries)
