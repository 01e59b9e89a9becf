-- What a call answers that puts numbers of a segment somewhere.
use Rattle.std.specs.Prelude.{ℕ, List, Result}
use Rattle.pk_posting.specs.declared.fault.ReadFault.{ReadFault}
use Rattle.pk_segment.specs.Reading.{IsNoDamage}
use Rattle.pk_sets.specs.Puts as Puts

-- the numbers are these, or the device or memory failed
abbrev pub PutsAs : {T : Type 0} → List ℕ → List ℕ → Result T ReadFault → Type 0
PutsAs wanted numbers result = Puts.PutsAs IsNoDamage wanted numbers result
