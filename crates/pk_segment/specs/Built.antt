-- A segment of kind 2 that is built, and open.
use Rattle.std.specs.Prelude.{List, Result, Ok, Err}
use Rattle.pk_model.specs.Collection.{Doc}
use Rattle.pk_segment.specs.declared.building.BuildFault.{BuildFault}
use Rattle.pk_segment.specs.declared.building.Built.{Built}
use Rattle.pk_segment.specs.Building.{BuildFails}
use Rattle.pk_segment.specs.Placed.{IsIndexedOf}
use Rattle.pk_segment.specs.Spelling.{SegmentSpells}

-- its bytes spell the documents, and it is open as their segment; or there is none
abbrev pub BuiltOpenAs : List Doc → Result Built BuildFault → Type 0
BuiltOpenAs docs (Ok built) =
    SegmentSpells built.bytes.items docs 2 × IsIndexedOf built.segment docs
BuiltOpenAs docs (Err fault) = BuildFails docs 2 fault
