-- What stops a call that puts numbers somewhere is no damage.
use Rattle.std.proofs.Common.{◌≡◌, ◌∙◌, ℕ, List, Result, Err, ap, subst, sym}
use Rattle.pk_posting.specs.declared.fault.ReadFault.{ReadFault}
use Rattle.pk_posting.specs.declared.source.SourceFault.{SourceFault}
use Rattle.pk_posting.specs.declared.source.SourceFault.TheVariants as source
use Rattle.pk_segment.specs.Puts.{PutsAs}
use Rattle.pk_segment.specs.Reading.{IsNoDamage, read_of}

pub puts_fault : {T : Type 0} (wanted now : List ℕ) (r : Result T ReadFault) (x y : ReadFault) → r ≡ Err x → x ≡ y → IsNoDamage y → PutsAs wanted now r
puts_fault wanted now r x y e same cause = subst (PutsAs wanted now) (sym e) (subst IsNoDamage (sym same) cause)

pub puts_disk : {T : Type 0} (wanted now : List ℕ) (r : Result T ReadFault) (x : ReadFault) (y : SourceFault) → r ≡ Err x → x ≡ read_of y → y ≡ source.Disk → PutsAs wanted now r
puts_disk wanted now r x y e same disk = puts_fault wanted now r x (read_of source.Disk) e (same ∙ ap read_of disk) tt
