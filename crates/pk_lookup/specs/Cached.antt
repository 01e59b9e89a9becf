-- What a cache of decoded blocks keeps of stored segments.
use Rattle.std.specs.Prelude.{◌≡◌, ◌<◌, ◌⊎◌, ℕ, List, [], ◌∷◌, Option, Some, None}
use Rattle.pk_cache.specs.declared.cache.BlockCache.{BlockCache}
use Rattle.pk_cache.specs.declared.key.BlockKey.{BlockKey}
use Rattle.pk_cache.specs.Kept.{IsBlockAt, kept_at}
use Rattle.pk_disk.specs.Units.{extent_bytes}
use Rattle.pk_model.specs.Collection.{Doc}
use Rattle.pk_lookup.specs.declared.listed.PlannedSegment.{PlannedSegment}
use Rattle.pk_open.specs.declared.opened.OpenSegment.{OpenSegment}
use Rattle.pk_lookup.specs.Matching.{AreListsOf}
use Rattle.pk_segment.specs.Placed.{IsIndexedOf}
use Rattle.pk_segment.specs.Spelling.{IndexSpells}

-- the block that is kept for a key, if any; without a cache there is none
abbrev pub kept_in : Option BlockCache → BlockKey → Option (List ℕ)
kept_in None key = None
kept_in (Some cache) key = kept_at cache key

-- each block that is kept of the segment of this id is that of the list at its place in the bytes
pub record KeepsBlocksOf (id : ℕ) (bytes : List ℕ) (cache : Option BlockCache) : Type 0 where
  pub each : (key : BlockKey) (xs : List ℕ) → kept_in cache key ≡ Some xs → key.segment ≡ id
      → IsBlockAt bytes key xs

-- what is kept of the segments of other ids was kept before
pub record AddsOnlyOf (id : ℕ) (old new : Option BlockCache) : Type 0 where
  pub each : (key : BlockKey) (xs : List ℕ) → kept_in new key ≡ Some xs
      → (kept_in old key ≡ Some xs) ⊎ (key.segment ≡ id)

-- The bytes have the index of the documents, the posting lists are those of the words in them, and
-- so is what the cache keeps of them.
pub record AreServed (bytes : List ℕ) (lists : PlannedSegment) (words : List (List ℕ)) (docs : List Doc)
    (cache : Option BlockCache) : Type 0 where
  pub index : IndexSpells bytes docs
  pub are : AreListsOf lists words docs
  pub cached : KeepsBlocksOf lists.opened.now.entry.segment bytes cache

-- Whatever words and documents the lists are of before, they are so after, and no block of another
-- segment is put in.
pub record Serves (honest : Type 0) (lists : PlannedSegment) (before : List ℕ)
    (old : Option BlockCache) (after : List ℕ) (new : Option BlockCache) : Type 0 where
  pub served : honest → (words : List (List ℕ)) (docs : List Doc)
      → AreServed before lists words docs old → AreServed after lists words docs new
  pub adds : AddsOnlyOf lists.opened.now.entry.segment old new

-- what is kept of an open segment is what its entry's extent has, where that is the segment
abbrev pub AgreesAt : List ℕ → Option BlockCache → OpenSegment → Type 0
AgreesAt bytes cache o =
    (docs : List Doc) → IndexSpells (extent_bytes bytes o.entry.extent) docs
    → IsIndexedOf o.segment docs
    → KeepsBlocksOf o.entry.segment (extent_bytes bytes o.entry.extent) cache

-- THE CACHE AGREES with open segments: with each
abbrev pub CacheAgrees : List ℕ → Option BlockCache → List OpenSegment → Type 0
CacheAgrees bytes cache [] = Unit {0}
CacheAgrees bytes cache (o ∷ opened) = AgreesAt bytes cache o × CacheAgrees bytes cache opened

-- blocks are kept of segments of ids below this one alone
pub record KeepsBelow (next : ℕ) (cache : Option BlockCache) : Type 0 where
  pub each : (key : BlockKey) (xs : List ℕ) → kept_in cache key ≡ Some xs → key.segment < next
