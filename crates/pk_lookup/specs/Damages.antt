-- What a call leaves of what notes damage.
use Rattle.std.specs.Prelude.{◌≡◌, Bool, true, Result, Ok, Err}
use Rattle.pk_posting.specs.declared.fault.ReadFault.{ReadFault}
use Rattle.pk_posting.specs.declared.fault.ReadFault.TheVariants.{Damaged, Disk, Memory}
use Rattle.pk_lookup.specs.declared.damage.Damage.{Damage}

-- whether damage was met, once a call answered this fault
abbrev pub met_by : Bool → ReadFault → Bool
met_by before Damaged = true
met_by before Disk = before
met_by before Memory = before

-- and once it answered so
abbrev pub met_after : {T : Type 0} → Bool → Result T ReadFault → Bool
met_after before (Ok v) = before
met_after before (Err fault) = met_by before fault

-- It is met from then on where the call answered `Damaged`, else as before.
abbrev pub NotesDamage : {T : Type 0} → Damage → Damage → Result T ReadFault → Type 0
NotesDamage old new result = new.met ≡ met_after old.met result
