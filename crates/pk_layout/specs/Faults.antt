-- Which fault of planning another one becomes, and which refusal it becomes.
use Rattle.pk_layout.specs.declared.fault.LayoutFault.{LayoutFault}
use Rattle.pk_layout.specs.declared.fault.LayoutFault.TheVariants as layout
use Rattle.pk_model.specs.declared.commands.Refusal.{Refusal}
use Rattle.pk_model.specs.declared.commands.Refusal.TheVariants as refusal
use Rattle.pk_segment.specs.declared.building.BuildFault.{BuildFault}
use Rattle.pk_segment.specs.declared.building.BuildFault.TheVariants as building
use Rattle.pk_space.specs.declared.runs.Full.{Full}

-- that of a segment that was not built
abbrev pub built_fault : BuildFault → LayoutFault
built_fault building.TooLarge = layout.TooLarge
built_fault building.Memory = layout.Memory

-- that of bytes that find no room
abbrev pub full_fault : Full → LayoutFault
full_fault full = layout.Full full.need full.largest

-- the refusal of a command whose plan is not made
abbrev pub layout_refusal : LayoutFault → Refusal
layout_refusal layout.TooLarge = refusal.SegmentTooLarge
layout_refusal (layout.Full need largest) = refusal.Full need largest
layout_refusal layout.Damaged = refusal.Damaged
layout_refusal layout.Memory = refusal.Memory
