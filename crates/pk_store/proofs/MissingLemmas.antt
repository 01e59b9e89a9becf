-- What is told of a number that no document has.
use Rattle.std.proofs.Common.{◌≡◌, Bool, true, false, refl}
use Rattle.pk_model.specs.declared.commands.Refusal.TheVariants.{NoSuchDocument}
use Rattle.pk_posting.specs.declared.fault.ReadFault.{ReadFault}
use Rattle.pk_posting.specs.declared.fault.ReadFault.TheVariants.{Damaged, Disk, Memory}
use Rattle.pk_store.specs.Refusing.{refusal_for}

-- a fault of a reader is never told so
pub never_missing : (why : ReadFault) → refusal_for why ≡ NoSuchDocument → ⊥
never_missing Damaged e = cc
never_missing Disk e = cc
never_missing Memory e = cc

-- what is not false is true
pub not_false : (b : Bool) → (b ≡ false → ⊥) → b ≡ true
not_false true other = refl
not_false false other = absurd (other refl)
