-- The steps of a scan.
use Rattle.std.proofs.Common.{arith, refl, sym, ap, subst, ◌∙◌, ◌≡◌, ◌<◌, ◌+◌, ◌-◌, ℕ, suc, List, Option, Ok, Err, Result}
use Rattle.pk_posting.specs.declared.source.SourceFault.{SourceFault}
use Rattle.pk_posting.specs.declared.source.SourceFault.TheVariants as faults
use Rattle.pk_dict.specs.declared.entry.Entry.{Entry}
use Rattle.pk_dict.specs.declared.head.Step.{Step}
use Rattle.pk_dict.specs.declared.head.Scan.{Scan}
use Rattle.pk_dict.specs.Reading.{◌>>=◌, Fails, going_on, next_at, number_at, scan_at, step_at}
use Rattle.pk_dict.specs.Scan.{Leaves}

one_more : (n i : ℕ) → i < n → n - i ≡ suc (n - (i + 1))
one_more n i h = omega arith

-- what a scan gives whose first step is known
pub scan_by : (n : ℕ) (bytes term : List ℕ) (m at : ℕ) (r : Result Step SourceFault) → next_at bytes term m at ≡ r
    → scan_at (suc n) bytes term m at ≡ (r >>= going_on (scan_at n bytes term))
unfolding scan_at
scan_by n bytes term m at r e = rw e refl

-- one step of a scan of which i of the terms are done
pub scan_step : (n i : ℕ) (bytes term : List ℕ) (m at : ℕ) (r : Result Step SourceFault) (all : Result (Option Entry) SourceFault) → i < n → scan_at (n - i) bytes term m at ≡ all → next_at bytes term m at ≡ r
    → all ≡ (r >>= going_on (scan_at (n - (i + 1)) bytes term))
scan_step n i bytes term m at r all h e s =
    sym e ∙ ap (λ (k : ℕ). scan_at k bytes term m at) (one_more n i h) ∙ scan_by (n - (i + 1)) bytes term m at r s

-- a fault of a step is the fault of the scan
pub scan_fails : (n i : ℕ) (bytes term : List ℕ) (m at : ℕ) (f : SourceFault) (all : Result (Option Entry) SourceFault) → i < n → scan_at (n - i) bytes term m at ≡ all → Fails f (next_at bytes term m at) → Fails f all
scan_fails n i bytes term m at faults.Damaged all h e s = scan_step n i bytes term m at (Err faults.Damaged) all h e s
scan_fails n i bytes term m at faults.Disk all h e s = tt

-- a term whose first number is damaged
pub next_damaged : (bytes term : List ℕ) (m at : ℕ) → number_at bytes at ≡ Err faults.Damaged → next_at bytes term m at ≡ Err faults.Damaged
unfolding next_at
next_damaged bytes term m at e = rw e refl

-- a term whose first number was read
pub next_is : (bytes term : List ℕ) (m at kept start : ℕ) → number_at bytes at ≡ Ok (kept, start) → next_at bytes term m at ≡ step_at bytes term kept m start
unfolding next_at
next_is bytes term m at kept start e = rw e refl

-- the first step of a scan
pub scan_first : (n : ℕ) (bytes term : List ℕ) (m at : ℕ) (r : Result Step SourceFault) → 0 < n → next_at bytes term m at ≡ r
    → scan_at n bytes term m at ≡ (r >>= going_on (scan_at (n - 1) bytes term))
scan_first n bytes term m at r h s =
    let more : n ≡ suc (n - 1) = omega arith in
    ap (λ (k : ℕ). scan_at k bytes term m at) more ∙ scan_by (n - 1) bytes term m at r s

-- a fault of the first step is the fault of the scan
pub first_fails : (n : ℕ) (bytes term : List ℕ) (m at : ℕ) (f : SourceFault) → 0 < n → Fails f (next_at bytes term m at) → Fails f (scan_at n bytes term m at)
first_fails n bytes term m at faults.Damaged h s = scan_first n bytes term m at (Err faults.Damaged) h s
first_fails n bytes term m at faults.Disk h s = tt

-- what is left after a step
pub leaves_by : (bytes term : List ℕ) (all after : Result (Option Entry) SourceFault) (scan : Scan) → all ≡ after → Leaves bytes term after scan → Leaves bytes term all scan
leaves_by bytes term all after scan e h = subst (λ (r : Result (Option Entry) SourceFault). Leaves bytes term r scan) (sym e) h
