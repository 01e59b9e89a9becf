-- The hashes of the words of a query.
use Rattle.std.specs.Prelude.{◌≡◌, ◌<◌, ℕ, List, [], get_or, length}
use Rattle.pk_filter.specs.declared.hash.WordHash.{WordHash}
use Rattle.pk_filter.specs.Hashed.{hashed}

-- each is that of the word at its place
pub record AreHashes (words : List (List ℕ)) (hashes : List WordHash) : Type 0 where
  pub long : length hashes ≡ length words
  pub each : (place : ℕ) (d : WordHash) → place < length words
      → get_or hashes place d ≡ hashed (get_or words place [])
