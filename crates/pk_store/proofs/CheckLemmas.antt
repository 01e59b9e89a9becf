-- What a check answers: the half beside the spare one is in force, with the body that is kept.
use Rattle.std.proofs.Common.{◌≡◌, ℕ, true, false, List, length, refl, ap, ◌∙◌, Result, Ok, Err}
use Rattle.pk_check.specs.declared.body.Checked.{Checked}
use Rattle.pk_check.specs.Holding.{ChecksBodyAs, IsOfBody}
use Rattle.pk_disk.specs.declared.disk.Disk.{Ghosts}
use Rattle.pk_manifest.specs.Bodies.{other}
use Rattle.pk_manifest.specs.Current.{HasBody, units_of_disk}
use Rattle.pk_model.specs.Collection.{Collection}
use Rattle.pk_model.specs.declared.commands.Refusal.{Refusal}
use Rattle.pk_model.specs.declared.commands.Refusal.TheVariants.{Reopen, TextTooLong, BufferFull, NumbersUsedUp, NoSuchDocument, TooManySegments, SegmentTooLarge, Memory, Full, Damaged, Disk}
use Rattle.pk_segment.specs.Reading.{CountsReads}
use Rattle.pk_posting.specs.declared.fault.ReadFault.{ReadFault}
use Rattle.pk_posting.specs.declared.fault.ReadFault.TheVariants as fault
use Rattle.pk_state.specs.Holds.{Holds}
use Rattle.pk_replace.proofs.ClaimLemmas.{each_weaker}
use Rattle.pk_replace.specs.Claims.{IsThere, Stands}
use Rattle.pk_state.specs.Kept.{table_claims}
use Rattle.pk_state.proofs.HoldsLemmas.{holds_one, table_there}
use Rattle.pk_store.specs.Checking.{CheckCause, Checks, ChecksBytes, TellsOf}
use Rattle.pk_store.specs.Refusing.{refusal_for}
use Rattle.pk_store.specs.Steps.{refuses_find}
use Rattle.pk_store.specs.View.{IsReady, KeepsVolume, StoreView, VolumeView}
use Rattle.pk_store.proofs.ReadSteps.{means_read, on_volume}
use Rattle.pk_store.proofs.StoreSteps.{clear_flag}

-- the half beside the spare one is in force, and its body and its table are those that are kept
pub has_body : {D : Type 0} (d : Ghosts D) (v : VolumeView D) → IsReady d v → d.honest → v.reopen ≡ false → HasBody (d.content v.disk) (other v.spare) v.body
has_body d v ready h clear = record {
  in_force = (ready.firm h clear).in_force;
  spelled = ready.in_force h clear;
  tabled = table_there (d.content v.disk) (units_of_disk (d.content v.disk)) v.body ready.sound
      (each_weaker (Stands (d.content v.disk) (d.is_open v.disk)) (IsThere (d.content v.disk)) (λ c stands. stands.there) (table_claims v.body) (ready.tabled h clear));
  sound = ready.sound;
}

-- a fault as a refusal
pub refused_as : (bytes : List ℕ) (why : ReadFault) → ChecksBodyAs bytes (Err why) → ChecksBytes bytes (Err (refusal_for why))
refused_as bytes fault.Damaged h = h
refused_as bytes fault.Disk h = tt
refused_as bytes fault.Memory h = tt

pub refused_cause : {D T : Type 0} (d : Ghosts D) (old new : VolumeView D) (why : ReadFault) → KeepsVolume d old new → CountsReads {T = T} (d.failed_reads old.disk) (d.failed_reads new.disk) (Err why) → CheckCause d old.disk new.disk (Err (refusal_for why))
refused_cause d old new fault.Damaged keeps counts = record { reads = counts.damaged refl; writes = keeps.disk.writes }
refused_cause d old new fault.Disk keeps counts = record { reads = counts.disk refl; writes = keeps.disk.writes }
refused_cause d old new fault.Memory keeps counts = record { reads = counts.memory refl; writes = keeps.disk.writes }

pub refused_named : (why : ReadFault) → refuses_find (refusal_for why) ≡ true
refused_named fault.Damaged = refl
refused_named fault.Disk = refl
refused_named fault.Memory = refl

-- ---- a store that is checked

not_reopen : (why : ReadFault) (r : Result Checked Refusal) → r ≡ Err (refusal_for why) → r ≡ Err Reopen → ⊥
not_reopen fault.Damaged r is e = absurd (cc)
not_reopen fault.Disk r is e = absurd (cc)
not_reopen fault.Memory r is e = absurd (cc)

module _ {D : Type 0} (d : Ghosts D) (s : StoreView D) (clear : s.volume.reopen ≡ false) (v : VolumeView D) (keeps : KeepsVolume d s.volume v) where
  pub answers_checked : (c : Checked) → (d.honest → s.volume.reopen ≡ false → ChecksBodyAs (d.content s.volume.disk) (Ok c)) → IsOfBody s.volume.body c → d.failed_reads v.disk ≡ d.failed_reads s.volume.disk → Checks d s (Ok c) (on_volume s v)
  answers_checked c is body reads = record {
    checked = λ h flag. is h flag;
    means = λ h state m. means_read d s clear v keeps h state m;
    looked_at = record { volume = keeps; buffer = refl; next = refl };
    body = body;
    cause = record { reads = reads; writes = keeps.disk.writes };
    reopen = (λ e. absurd (cc), λ flag. absurd (clear_flag s.volume.reopen clear flag));
    untouched = λ flag. absurd (clear_flag s.volume.reopen clear flag);
    refused = tt;
  }

  pub refuses_checked : {T : Type 0} (why : ReadFault) → (d.honest → s.volume.reopen ≡ false → ChecksBodyAs (d.content s.volume.disk) (Err why)) → CountsReads {T = T} (d.failed_reads s.volume.disk) (d.failed_reads v.disk) (Err why) → Checks d s (Err (refusal_for why)) (on_volume s v)
  refuses_checked {T} why is counts = record {
    checked = λ h flag. refused_as (d.content s.volume.disk) why (is h flag);
    means = λ h state m. means_read d s clear v keeps h state m;
    looked_at = record { volume = keeps; buffer = refl; next = refl };
    body = tt;
    cause = refused_cause {T = T} d s.volume v why keeps counts;
    reopen = (λ e. absurd (not_reopen why (Err (refusal_for why)) refl e), λ flag. absurd (clear_flag s.volume.reopen clear flag));
    untouched = λ flag. absurd (clear_flag s.volume.reopen clear flag);
    refused = refused_named why;
  }

-- ---- what is told is what is there
pub tells_of : (bytes : List ℕ) (c : Collection) (r : Result Checked Refusal) → Holds bytes c → ChecksBytes bytes r → TellsOf c r
tells_of bytes c (Ok x) holds is =
    let same = holds_one bytes is.collection c is.holds holds in
    (is.documents ∙ ap (λ (k : Collection). length k.documents) same, is.next ∙ ap (λ (k : Collection). k.next) same)
tells_of bytes c (Err Reopen) holds is = tt
tells_of bytes c (Err TextTooLong) holds is = tt
tells_of bytes c (Err BufferFull) holds is = tt
tells_of bytes c (Err NumbersUsedUp) holds is = tt
tells_of bytes c (Err NoSuchDocument) holds is = tt
tells_of bytes c (Err TooManySegments) holds is = tt
tells_of bytes c (Err SegmentTooLarge) holds is = tt
tells_of bytes c (Err Memory) holds is = tt
tells_of bytes c (Err (Full need largest)) holds is = tt
tells_of bytes c (Err Damaged) holds is = is c holds
tells_of bytes c (Err Disk) holds is = tt
