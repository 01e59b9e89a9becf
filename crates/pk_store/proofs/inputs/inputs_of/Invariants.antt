-- The inputs so far are those of the segments so far.
use Rattle.std.proofs.Common.{ℕ, List, take}
use Rattle.std.specs.Prelude.{All}
use Rattle.pk_manifest.specs.Bodies.{bodies_end}
use Rattle.pk_join.specs.Inputs.{HasKind, LiesInside, SpellsInputs}
use Rattle.pk_merge.specs.Output.{LiesApart}
use Rattle.pk_merge.specs.Streaming.{LiesBehind}
use Rattle.pk_open.specs.Opened.{AreOpenOf, entries_of}
use Rattle.pk_state.specs.Committed.{Stored}
use Rattle.pk_state.specs.Holds.{SpellsEntries}
use Rattle.pk_state.specs.Kept.{HaveKinds, LieInside}
use Rattle.pk_store.specs.Inputs.{AreOf, BeginsFrom, EntryApart}
use Rattle.pk_store.proofs.inputs.inputs_of.Given as goal

abbrev pub invariant-loop-segment : goal.invariant-loop-segment
invariant-loop-segment l = record {
  spelled : (bytes : List ℕ) (stored : List Stored) → SpellsEntries bytes (entries_of l.opened) stored → AreOpenOf l.opened stored → SpellsInputs bytes l.inputs.items (take l.segment-index stored);
  inside : (size : ℕ) → LieInside size (entries_of l.opened) → All (LiesInside size) l.inputs.items;
  kinds : HaveKinds (entries_of l.opened) → All HasKind l.inputs.items;
  apart : (start end : ℕ) → All (EntryApart start end) (entries_of l.opened) → All (LiesApart start end) l.inputs.items;
  each : AreOf l.inputs.items (take l.segment-index (entries_of l.opened));
  behind : All (BeginsFrom bodies_end) (entries_of l.opened) → All LiesBehind l.inputs.items;
}
