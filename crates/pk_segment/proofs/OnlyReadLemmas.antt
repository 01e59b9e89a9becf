-- Calls one after the other leave of what they read what each of them leaves.
use Rattle.std.proofs.Common.{◌≡◌, ◌∙◌, ℕ, Result, Ok, Err, refl, ap, subst, arith}
use Rattle.std.specs.Prelude.{IsErrAnd, OnOk}
use Rattle.std.proofs.lemmas.Result.{err_from_is_err_and}
use Rattle.pk_disk.specs.declared.disk.Disk.{Ghosts as DiskGhosts}
use Rattle.pk_disk.proofs.FrameLemmas.{keeps_disk_none, keeps_disk_then}
use Rattle.pk_posting.specs.declared.source.ByteSource.{Ghosts as SourceGhosts}
use Rattle.pk_posting.specs.Frames.{ReadsSource}
use Rattle.pk_posting.proofs.SourceLemmas.{answered, answered_then, source_as}
use Rattle.pk_posting.specs.declared.fault.ReadFault.{ReadFault}
use Rattle.pk_posting.specs.declared.fault.ReadFault.TheVariants.{Damaged, Disk, Memory}
use Rattle.pk_segment.specs.OnlyRead.{ReadsDisk}
use Rattle.pk_segment.specs.Reading.{CountsReads}

-- a count that did not rise, with an answer
pub counts_same : {T : Type 0} {v : T} {before now : ℕ} → now ≡ before → CountsReads before now (Ok v)
counts_same same = record {
  later = omega (arith, same);
  ok = same;
  damaged = λ e. same;
  memory = λ e. same;
  disk = λ e. absurd (cc);
}

counts_still : {T U : Type 0} {v : U} {result : Result T ReadFault} {before now : ℕ}
    → CountsReads before now (Ok v) → (result ≡ Err Disk → ⊥) → CountsReads before now result
counts_still {result = result} counts other = record {
  later = counts.later;
  ok = on_ok result counts.ok;
  damaged = λ e. counts.ok;
  memory = λ e. counts.ok;
  disk = λ e. absurd (other e);
}
  where
    on_ok : {T : Type 0} {P : Type 0} (r : Result T ReadFault) → P → OnOk r P
    on_ok (Ok v) p = p
    on_ok (Err fault) p = tt

-- the count of a fault that is passed on
counts_fault : {T U : Type 0} {fault : ReadFault} {result : Result T ReadFault} {before now : ℕ}
    → CountsReads {T = U} before now (Err fault) → IsErrAnd result (λ y. y ≡ fault)
    → CountsReads before now result
counts_fault {fault = fault} {result = result} counts is =
    let p = err_from_is_err_and result is in
    let e : result ≡ Err fault = p.1 ∙ ap Err p.2 in
    rw e (record {
      later = counts.later;
      ok = tt;
      damaged = λ f. (let x : fault ≡ Damaged = cc in counts.damaged (ap Err x));
      memory = λ f. (let x : fault ≡ Memory = cc in counts.memory (ap Err x));
      disk = λ f. (let x : fault ≡ Disk = cc in counts.disk (ap Err x));
    })

-- a source that was not read
pub source_none : {S T : Type 0} {s : SourceGhosts S} {v : T} {a : S}
    → s.keeps a a → ReadsSource s CountsReads (Ok v) a a
source_none kept = record { same = λ h. refl; size = refl; kept = kept; faults = counts_same refl }

-- a call after one that was answered
pub source_then : {S T U E : Type 0} {s : SourceGhosts S} {counts : ℕ → ℕ → Result T E → Type 0}
    {v : U} {result : Result T E} {a b c : S}
    → ((x y z : S) → s.keeps x y → s.keeps y z → s.keeps x z)
    → ReadsSource s CountsReads (Ok v) a b → ReadsSource s counts result b c
    → ReadsSource s counts result a c
source_then keeps_then one two = answered_then keeps_then (answered one one.faults.ok) two

-- an answer after a call that was answered, with nothing read since
pub source_still : {S T U : Type 0} {s : SourceGhosts S} {v : U} {result : Result T ReadFault}
    {a b : S} → ReadsSource s CountsReads (Ok v) a b → (result ≡ Err Disk → ⊥)
    → ReadsSource s CountsReads result a b
source_still left other = source_as left (counts_still left.faults other)

-- a fault that is passed on
pub source_fault : {S T U : Type 0} {s : SourceGhosts S} {fault : ReadFault}
    {result : Result T ReadFault} {a b : S}
    → ReadsSource {T = U} s CountsReads (Err fault) a b → IsErrAnd result (λ y. y ≡ fault)
    → ReadsSource s CountsReads result a b
source_fault left is = source_as left (counts_fault left.faults is)

-- a disk that was not read
pub disk_none : {D T : Type 0} {d : DiskGhosts D} {v : T} {a : D}
    → ReadsDisk d CountsReads (Ok v) a a
disk_none {d = d} {a = a} = record { keeps = keeps_disk_none d a; reads = counts_same refl }

-- a call after one that was answered
pub disk_then : {D T U E : Type 0} {d : DiskGhosts D} {counts : ℕ → ℕ → Result T E → Type 0}
    {v : U} {result : Result T E} {a b c : D}
    → ReadsDisk d CountsReads (Ok v) a b → ReadsDisk d counts result b c
    → ReadsDisk d counts result a c
disk_then {d = d} {counts = counts} {result = result} {c = c} one two = record {
  keeps = keeps_disk_then d _ _ _ one.keeps two.keeps;
  reads = subst (λ (n : ℕ). counts n (d.failed_reads c) result) one.reads.ok two.reads;
}

-- an answer after a call that was answered, with nothing read since
pub disk_still : {D T U : Type 0} {d : DiskGhosts D} {v : U} {result : Result T ReadFault} {a b : D}
    → ReadsDisk d CountsReads (Ok v) a b → (result ≡ Err Disk → ⊥) → ReadsDisk d CountsReads result a b
disk_still left other = record { keeps = left.keeps; reads = counts_still left.reads other }

-- a fault that is passed on
pub disk_fault : {D T U : Type 0} {d : DiskGhosts D} {fault : ReadFault}
    {result : Result T ReadFault} {a b : D}
    → ReadsDisk {T = U} d CountsReads (Err fault) a b → IsErrAnd result (λ y. y ≡ fault)
    → ReadsDisk d CountsReads result a b
disk_fault left is = record { keeps = left.keeps; reads = counts_fault left.reads is }
