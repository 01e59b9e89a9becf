-- Why a reader tells that the disk failed: from the calls of the file up to what it answers.
use Rattle.std.proofs.Common.{◌≡◌, inl, inr, ⊎_elim, ℕ, ◌+◌, ◌<◌, ◌≤◌, ◌^◌, Bool, true, false, List, length, Option, Some, None, Result, Ok, Err, refl, sym, subst, arith}
use Rattle.std.specs.Prelude.{IfSome, IsSomeAnd, MatchOption, cond}
use Rattle.pk_disk.specs.declared.disk.Disk.{Ghosts}
use Rattle.pk_disk.specs.Disk.{Rose}
use Rattle.pk_disk.specs.Sizes.{least_units}
use Rattle.pk_manifest.specs.Current.{units_of_disk}
use Rattle.pk_model.specs.Steps.{Answer, Request}
use Rattle.pk_model.specs.Views.{reply_of}
use Rattle.pk_model.specs.declared.commands.Refusal.{Refusal}
use Rattle.pk_model.specs.declared.commands.Refusal.TheVariants.{Disk}
use Rattle.pk_model.specs.declared.commands.Reply.{Reply}
use Rattle.pk_reader.specs.Causes.{HasCause, IsCausedBy, OnDisk}
use Rattle.pk_reader.specs.Faults.{showing_fault}
use Rattle.pk_reader.specs.Refused.{RefusedOpening}
use Rattle.pk_reader.specs.Without.{refusal_without}
use Rattle.pk_snapshot.specs.Counted.{FailsByCalls, count_after, is_disk}
use Rattle.pk_snapshot.specs.declared.fault.SnapshotFault.{SnapshotFault}
use Rattle.pk_snapshot.specs.declared.fault.SnapshotFault.TheVariants as shown
use Rattle.pk_store.specs.Opening.{DiskFailed, OpenCause}
use Rattle.pk_store.specs.Steps.{IsCauseOf, Steps}
use Rattle.pk_store.specs.View.{StoreView, VolumeView}
use Rattle.pk_store.specs.declared.refused.OpenFault.{OpenFault}
use Rattle.pk_store.specs.declared.refused.OpenFault.TheVariants as opened

pub on_disk : (why : Refusal) (P : Type 0) → why ≡ Disk → OnDisk (Err why) P → P
on_disk why P is on = subst (λ (w : Refusal). OnDisk (Err w) P) is on

-- A STORE THAT IS ONLY READ: where it tells so, a read failed
read_of : {D : Type 0} (d : Ghosts D) (failed : Bool) (old new : VolumeView D) → IsCauseOf d (Err Disk) failed old new → new.reopen ≡ false → Rose (d.failed_reads old.disk) (d.failed_reads new.disk)
read_of d true old new cause clear = absurd (let set : new.reopen ≡ true = cause.2 in cc)
read_of d false old new cause clear = cause.0.reads

pub asked_failed : {D : Type 0} (d : Ghosts D) (old new : StoreView D) (request : Request) (reply : Result Answer Refusal) → Steps d old request reply new → new.volume.reopen ≡ false → OnDisk reply (Rose (d.failed_reads old.volume.disk) (d.failed_reads new.volume.disk))
asked_failed d old new request (Ok answer) step clear = tt
asked_failed d old new request (Err Disk) step clear = read_of d step.failed old.volume new.volume step.cause clear
asked_failed d old new request (Err why) step clear = tt

-- as it is opened
pub opened_failed : {D : Type 0} (d : Ghosts D) (old new : D) (why : OpenFault) → OpenCause {T = StoreView D} d old new (Err why) → why ≡ opened.Disk → DiskFailed d old new
opened_failed {D} d old new why cause is = subst (λ (w : OpenFault). OpenCause {T = StoreView D} d old new (Err w)) is cause

-- where nothing was written
pub rose_up : (old new : ℕ) → Rose old new → 0 < new
rose_up old new rose = ⊎_elim (λ more. omega (arith, more)) (λ full. omega (arith, full)) rose

pub read_failed : {D : Type 0} (d : Ghosts D) (old new : D) → d.failed_writes new ≡ 0 → DiskFailed d old new → 0 < d.failed_reads new
read_failed d old new none failed = ⊎_elim
    (λ read. rose_up (d.failed_reads old) (d.failed_reads new) read.reads)
    (λ write. let some = rose_up (d.failed_writes old) (d.failed_writes new) write.writes in absurd (omega (arith, some, none)))
    failed

-- A SNAPSHOT: where it was refused so, a call failed, or was interrupted
counted : (n : ℕ) → 0 < count_after n 1
counted n = grind arith

called : {F : Type 0} (failed interrupted : F → ℕ) (old new : F) → FailsByCalls failed interrupted (2 ^ 32) true old new → 0 < failed new + interrupted new
called failed interrupted old new fails = ⊎_elim
    (λ last. let some = counted (failed old) in omega (arith, last, some))
    (λ spent. omega (arith, spent.1))
    (fails.refused refl)

pub shown_called : {F : Type 0} (failed interrupted : F → ℕ) (old new : F) (why : SnapshotFault) → FailsByCalls failed interrupted (2 ^ 32) (is_disk why) old new → why ≡ shown.Disk → 0 < failed new + interrupted new
shown_called failed interrupted old new why fails is = called failed interrupted old new (subst (λ (w : SnapshotFault). FailsByCalls failed interrupted (2 ^ 32) (is_disk w) old new) is fails)

-- AN OPENING
pub is_caused : (old new marked : List ℕ) (count : ℕ) (why : SnapshotFault) → RefusedOpening old new marked why → (why ≡ shown.Disk → 0 < count) → IsCausedBy old count why
is_caused old new marked count shown.TooSmall is disk = is
is_caused old new marked count shown.NotAStore is disk = tt
is_caused old new marked count shown.Changed is disk = tt
is_caused old new marked count shown.Damaged is disk = tt
is_caused old new marked count shown.Memory is disk = tt
is_caused old new marked count shown.Disk is disk = disk refl

pub store_disk : (outdated : Bool) (why : OpenFault) → cond outdated shown.Changed (showing_fault why) ≡ shown.Disk → (outdated ≡ false) × (why ≡ opened.Disk)
store_disk true why is = absurd (cc)
store_disk false opened.TooSmall is = absurd (cc)
store_disk false opened.NotAStore is = absurd (cc)
store_disk false opened.Damaged is = absurd (cc)
store_disk false opened.Disk is = (refl, refl)
store_disk false opened.Memory is = absurd (cc)

-- of bytes that were no more, earlier
pub fewer : (first asked : List ℕ) → length first ≤ length asked → units_of_disk asked < least_units → units_of_disk first < least_units
fewer first asked long few = grind (arith, long, few)

pub caused_earlier : (first asked : List ℕ) (count : ℕ) (why : SnapshotFault) → length first ≤ length asked → IsCausedBy asked count why → IsCausedBy first count why
caused_earlier first asked count shown.TooSmall long is = fewer first asked long is
caused_earlier first asked count shown.NotAStore long is = tt
caused_earlier first asked count shown.Changed long is = tt
caused_earlier first asked count shown.Damaged long is = tt
caused_earlier first asked count shown.Memory long is = tt
caused_earlier first asked count shown.Disk long is = is

pub cause_earlier : (first asked : List ℕ) (count : ℕ) (outcome : Result Answer Refusal) → length first ≤ length asked → HasCause asked count outcome → HasCause first count outcome
cause_earlier first asked count (Ok answer) long is = tt
cause_earlier first asked count (Err Disk) long is = ⊎_elim (λ some. inl some) (λ few. inr (fewer first asked long few)) is
cause_earlier first asked count (Err why) long is = tt

-- A REPLY where there is no store
told_cause : (asked : List ℕ) (count : ℕ) (why : SnapshotFault) (outcome : Result Answer Refusal) → IsSomeAnd (refusal_without why) (λ it. outcome ≡ Err it) → IsCausedBy asked count why → HasCause asked count outcome
told_cause asked count shown.TooSmall outcome told is = subst (HasCause asked count) (sym told) (inr is)
told_cause asked count shown.NotAStore outcome told is = absurd told
told_cause asked count shown.Changed outcome told is = absurd told
told_cause asked count shown.Damaged outcome told is = subst (HasCause asked count) (sym told) tt
told_cause asked count shown.Memory outcome told is = subst (HasCause asked count) (sym told) tt
told_cause asked count shown.Disk outcome told is = subst (HasCause asked count) (sym told) (inl is)

pub without_cause : (asked : List ℕ) (count : ℕ) (why : SnapshotFault) (given : Option Reply) → MatchOption given (refusal_without why ≡ None) (λ reply. IsSomeAnd (refusal_without why) (λ it. reply_of reply ≡ Err it)) → IsCausedBy asked count why → IfSome given (λ reply. HasCause asked count (reply_of reply))
without_cause asked count why None told is = tt
without_cause asked count why (Some reply) told is = told_cause asked count why (reply_of reply) told is

-- of a store that was asked, and is closed then
pub closed_cause : (outdated : Bool) (asked : List ℕ) (count : ℕ) → (outdated ≡ false → 0 < count) → IsCausedBy asked count (cond outdated shown.Changed shown.Disk)
closed_cause true asked count some = tt
closed_cause false asked count some = some refl
