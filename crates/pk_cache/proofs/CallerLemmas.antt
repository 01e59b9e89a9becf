-- What callers cite of what a cache keeps.
use Rattle.std.proofs.Common.{◌≡◌, ◌<◌, ◌⊎◌, inl, inr, ℕ, true, false, List, [], Some, refl, subst, arith}
use Rattle.std.specs.Map.{lookup}
use Rattle.lru.specs.LruCache.{LruCache}
use Rattle.pk_cache.specs.declared.key.BlockKey.{BlockKey}
use Rattle.pk_cache.specs.declared.cache.BlockCache.{BlockCache}
use Rattle.pk_cache.specs.Keys.{is_key}
use Rattle.pk_cache.specs.Kept.{IsBlockAt, Keeps, entries_after}
use Rattle.pk_cache.proofs.KeptLemmas.{found_after}
use Rattle.pk_cache.proofs.PlaceLemmas.{one_block_at}
use Rattle.pk_posting.specs.declared.fields.ListPlace.{ListPlace}
use Rattle.pk_posting.specs.declared.fields.Shape.{Shape}
use Rattle.pk_posting.specs.Posting.{Spells, block}
use Rattle.pk_posting.specs.Parts.{HasShape, bytes_at}

-- what is kept after a block was answered was kept before, or is that block
pub keeps_only : (old new : BlockCache) (key : BlockKey) (xs : List ℕ) → new.kept.entries ≡ entries_after new.unkept old key xs
    → (other : BlockKey) (ys : List ℕ) → Keeps new other ys → Keeps old other ys ⊎ ((other ≡ key) × (ys ≡ xs))
keeps_only old new key xs e other ys k = (elim new.unkept as (λ b. new.unkept ≡ b → Keeps old other ys ⊎ ((other ≡ key) × (ys ≡ xs))) [
  | true ↦ λ b. inl (rw (e, b) at k)
  | false ↦ λ b. found_after old.kept.cap key other xs ys old.kept.entries (rw (e, b) at k)
]) refl

-- whatever holds of each key and the block that is kept for it: it holds of all that is kept after a
-- block was answered of which it holds
pub each_after : (of : BlockKey → List ℕ → Type 0) (old new : BlockCache) (key : BlockKey) (xs : List ℕ) → new.kept.entries ≡ entries_after new.unkept old key xs
    → ((other : BlockKey) (ys : List ℕ) → Keeps old other ys → of other ys) → of key xs
    → (other : BlockKey) (ys : List ℕ) → Keeps new other ys → of other ys
each_after of old new key xs e all here other ys k = elim (keeps_only old new key xs e other ys k) [
  | inl h ↦ all other ys h
  | inr h ↦ rw (h.0, h.1) here
]

-- and of all that is kept after a refusal
pub each_still : (of : BlockKey → List ℕ → Type 0) (old new : BlockCache) → new.kept ≡ old.kept
    → ((other : BlockKey) (ys : List ℕ) → Keeps old other ys → of other ys)
    → (other : BlockKey) (ys : List ℕ) → Keeps new other ys → of other ys
each_still of old new e all other ys k = all other ys (subst (λ (kept : LruCache BlockKey (List ℕ)). lookup (is_key other) kept.entries ≡ Some ys) e k)

-- it holds of all that another cache keeps which keeps nothing else
pub each_of_fewer : (of : BlockKey → List ℕ → Type 0) (many few : BlockCache) → ((key : BlockKey) (xs : List ℕ) → Keeps few key xs → Keeps many key xs)
    → ((key : BlockKey) (xs : List ℕ) → Keeps many key xs → of key xs)
    → (key : BlockKey) (xs : List ℕ) → Keeps few key xs → of key xs
each_of_fewer of many few less all key xs k = all key xs (less key xs k)

-- of an empty cache anything holds
pub each_of_none : (of : BlockKey → List ℕ → Type 0) (cache : BlockCache) → cache.kept.entries ≡ []
    → (key : BlockKey) (xs : List ℕ) → Keeps cache key xs → of key xs
each_of_none of cache e key xs k = let h = rw e at k in cc

-- a block of a list is the one at its key
pub block_at : (content : List ℕ) (place : ListPlace) (shape : Shape) (ys : List ℕ) (key : BlockKey) → place.at ≡ key.at → HasShape (bytes_at content place) shape ys → key.block < shape.blocks
    → IsBlockAt content key (block key.block ys)
block_at content place shape ys key e l h bytes zs s m = one_block_at content place _ ys zs key.block e l.spelled s (omega (arith, l.blocks, h))

-- what is the block at a key is that of the list that lies there
pub at_block : (content : List ℕ) (place : ListPlace) (shape : Shape) (ys xs : List ℕ) (key : BlockKey) → place.at ≡ key.at → HasShape (bytes_at content place) shape ys → key.block < shape.blocks
    → IsBlockAt content key xs → xs ≡ block key.block ys
at_block content place shape ys xs key e l h is =
    let here : Spells (bytes_at content (record { at = key.at; bytes = place.bytes })) ys = subst (λ (at : ℕ). Spells (bytes_at content (record { at = at; bytes = place.bytes })) ys) e l.spelled in
    is place.bytes ys here (omega (arith, l.blocks, h))
