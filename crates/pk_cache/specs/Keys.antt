-- Keys of blocks, and what every cache keeps of what is kept for them.
use Rattle.std.specs.Prelude.{◌≡◌, ◌<◌, ◌≤◌, ◌+◌, ◌==◌, ◌&&◌, ℕ, Bool, List, Some}
use Rattle.std.specs.Prelude.{length, slice_index}
use Rattle.std.specs.Map.{lookup}
use Rattle.lru.specs.LruCache.{LruCache}
use Rattle.pk_cache.specs.declared.key.BlockKey.{BlockKey}

-- whether two keys are the same
abbrev pub is_key : BlockKey → BlockKey → Bool
is_key a b = (a.segment == b.segment) && ((a.at == b.at) && (a.block == b.block))

-- the numbers of a block rise
abbrev pub Rises : List ℕ → Type 0
Rises xs = (i : ℕ) → i < 127 → slice_index xs i < slice_index xs (i + 1)

-- no more is kept than there is room for, which is some, and the numbers of each block rise
pub record IsSound (kept : LruCache BlockKey (List ℕ)) : Type 0 where
  pub most : length kept.entries ≤ kept.cap
  pub some : 0 < kept.cap
  pub rise : (key : BlockKey) (xs : List ℕ) → lookup (is_key key) kept.entries ≡ Some xs → Rises xs
