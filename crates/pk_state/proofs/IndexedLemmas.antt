-- What spells documents indexes them.
use Rattle.std.proofs.Common.{ℕ, List, [], ◌∷◌, subst}
use Rattle.pk_disk.specs.Units.{extent_bytes}
use Rattle.pk_manifest.specs.declared.manifest.Part.{Part as Entry}
use Rattle.pk_segment.proofs.ListingLemmas.{index_of}
use Rattle.pk_segment.specs.Spelling.{SegmentSpells}
use Rattle.pk_state.specs.Committed.{Stored}
use Rattle.pk_state.specs.Holds.{IndexesEntries, IndexesEntry, SpellsEntries, SpellsEntry}

entry_indexed : (bytes : List ℕ) (e : Entry) (s : Stored) → SpellsEntry bytes e s → IndexesEntry bytes e s
entry_indexed bytes e s spells = record {
  plain = λ other. spells.segment;
  indexed = λ two. index_of (extent_bytes bytes e.extent) s.documents (subst (λ (k : ℕ). SegmentSpells (extent_bytes bytes e.extent) s.documents k) two spells.segment);
  list = spells.list;
}

pub entries_indexed : (bytes : List ℕ) (es : List Entry) (stored : List Stored) → SpellsEntries bytes es stored → IndexesEntries bytes es stored
entries_indexed bytes [] [] spells = tt
entries_indexed bytes [] (s ∷ stored) spells = absurd spells
entries_indexed bytes (e ∷ es) [] spells = absurd spells
entries_indexed bytes (e ∷ es) (s ∷ stored) spells = (entry_indexed bytes e s spells.0, entries_indexed bytes es stored spells.1)
