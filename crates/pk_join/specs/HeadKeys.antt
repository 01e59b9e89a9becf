-- The keys of the words at the heads of inputs, in groups, each with a floor.
use Rattle.std.specs.Prelude.{◌≤◌, ◌<◌, ◌+◌, ◌*◌, ◌/◌, ℕ, List, length, slice_index}

-- Each group of 64 keys has a floor, and none of its keys is below that.
pub record AreFloors (keys floors : List ℕ) : Type 0 where
  pub each : length keys < 64 * length floors
  pub few : 64 * length floors ≤ length keys + 64
  pub below : (k : ℕ) → k < length keys → slice_index floors (k / 64) ≤ slice_index keys k
