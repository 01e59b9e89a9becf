-- The memory for open segments.
use Rattle.std.specs.Prelude.{◌≤◌, vec_capacity}
use Rattle.std.specs.Global.{Vec}
use Rattle.pk_model.specs.Limits.{max_segments}
use Rattle.pk_open.specs.declared.opened.OpenSegment.{OpenSegment}

-- there is room for as many as a body may name
abbrev pub HasRoom : Vec OpenSegment → Type 0
HasRoom opened = max_segments ≤ vec_capacity opened
