-- The steps of a search among the groups, for any bytes.
use Rattle.std.proofs.Common.{arith, refl, sym, ◌∙◌, ◌≡◌, ◌≤◌, ◌<◌, ◌+◌, ◌-◌, ◌/◌, ℕ, zero, suc, List, Ok, Err, Result}
use Rattle.std.proofs.lemmas.Bool.{lt-ltb, le-ltb}
use Rattle.pk_posting.specs.declared.source.SourceFault.{SourceFault}
use Rattle.pk_posting.specs.declared.source.SourceFault.TheVariants as faults
use Rattle.pk_dict.specs.declared.entry.Entry.{Entry}
use Rattle.pk_dict.specs.declared.head.Standing.{Standing}
use Rattle.pk_dict.specs.declared.head.Standing.TheVariants.{First, After}
use Rattle.pk_dict.specs.declared.head.Step.{Step}
use Rattle.pk_dict.specs.declared.head.Step.TheVariants.{Less, Found, Past}
use Rattle.pk_dict.specs.LookUp.{halved, narrow_at}
use Rattle.pk_dict.specs.Reading.{◌>>=◌, Fails, group_at}

-- the group in the middle
abbrev pub middle_of : ℕ → ℕ → ℕ
middle_of low high = low + (high - low) / 2

-- one step of which the group in the middle is read
pub narrow_by : (n : ℕ) (bytes : List ℕ) (base : ℕ) (term : List ℕ) (low high matched next : ℕ) (r : Result Step SourceFault) → low < high → group_at bytes base (middle_of low high) term ≡ r
    → narrow_at (suc n) bytes base term low high matched next ≡ (r >>= halved (narrow_at n bytes base term) low high matched next (middle_of low high))
unfolding narrow_at
narrow_by n bytes base term low high matched next r lt e = rw (lt-ltb low high lt) (rw e refl)

-- nothing is left between
pub narrow_done : (n : ℕ) (bytes : List ℕ) (base : ℕ) (term : List ℕ) (low high matched next : ℕ) → high ≤ low → narrow_at n bytes base term low high matched next ≡ Ok (After low matched next)
unfolding narrow_at
narrow_done zero bytes base term low high matched next h = refl
narrow_done (suc n) bytes base term low high matched next h = rw (le-ltb low high h) refl

-- what is left of the search gives what all of it gives
pub record Narrowing (bytes : List ℕ) (base : ℕ) (term : List ℕ) (low high matched next : ℕ) (all : Result Standing SourceFault) : Type 0 where
  pub left : ℕ
  pub enough : high - low ≤ left
  pub same : narrow_at left bytes base term low high matched next ≡ all

-- the steps that are left after one
record Stepped (bytes : List ℕ) (base : ℕ) (term : List ℕ) (low high matched next : ℕ) (r : Result Step SourceFault) (all : Result Standing SourceFault) : Type 0 where
  left : ℕ
  enough : high - low ≤ suc left
  same : (r >>= halved (narrow_at left bytes base term) low high matched next (middle_of low high)) ≡ all

stepped_by : (left : ℕ) (bytes : List ℕ) (base : ℕ) (term : List ℕ) (low high matched next : ℕ) (r : Result Step SourceFault) (all : Result Standing SourceFault) → high - low ≤ left
    → narrow_at left bytes base term low high matched next ≡ all → low < high → group_at bytes base (middle_of low high) term ≡ r → Stepped bytes base term low high matched next r all
stepped_by zero bytes base term low high matched next r all h s lt e = absurd (omega arith)
stepped_by (suc left) bytes base term low high matched next r all h s lt e =
    record { left = left; enough = h; same = sym (narrow_by left bytes base term low high matched next r lt e) ∙ s }

stepped : (bytes : List ℕ) (base : ℕ) (term : List ℕ) (low high matched next : ℕ) (r : Result Step SourceFault) (all : Result Standing SourceFault) → Narrowing bytes base term low high matched next all → low < high → group_at bytes base (middle_of low high) term ≡ r
    → Stepped bytes base term low high matched next r all
stepped bytes base term low high matched next r all n lt e = stepped_by n.left bytes base term low high matched next r all n.enough n.same lt e

pub narrowing_less : (bytes : List ℕ) (base : ℕ) (term : List ℕ) (low high matched next now after : ℕ) (all : Result Standing SourceFault) → Narrowing bytes base term low high matched next all → low < high
    → group_at bytes base (middle_of low high) term ≡ Ok (Less now after) → Narrowing bytes base term (middle_of low high + 1) high now after all
narrowing_less bytes base term low high matched next now after all n lt e =
    let s = stepped bytes base term low high matched next (Ok (Less now after)) all n lt e in
    record { left = s.left; enough = omega (arith, s.enough); same = s.same }

pub narrowing_past : (bytes : List ℕ) (base : ℕ) (term : List ℕ) (low high matched next : ℕ) (all : Result Standing SourceFault) → Narrowing bytes base term low high matched next all → low < high
    → group_at bytes base (middle_of low high) term ≡ Ok Past → Narrowing bytes base term low (middle_of low high) matched next all
narrowing_past bytes base term low high matched next all n lt e =
    let s = stepped bytes base term low high matched next (Ok Past) all n lt e in
    record { left = s.left; enough = omega (arith, s.enough); same = s.same }

pub narrowing_found : (bytes : List ℕ) (base : ℕ) (term : List ℕ) (low high matched next : ℕ) (entry : Entry) (all : Result Standing SourceFault) → Narrowing bytes base term low high matched next all → low < high
    → group_at bytes base (middle_of low high) term ≡ Ok (Found entry) → all ≡ Ok (First (middle_of low high) entry)
narrowing_found bytes base term low high matched next entry all n lt e = sym (stepped bytes base term low high matched next (Ok (Found entry)) all n lt e).same

-- a fault of a step is the fault of the search
pub narrowing_fails : (bytes : List ℕ) (base : ℕ) (term : List ℕ) (low high matched next : ℕ) (f : SourceFault) (all : Result Standing SourceFault) → Narrowing bytes base term low high matched next all → low < high
    → Fails f (group_at bytes base (middle_of low high) term) → Fails f all
narrowing_fails bytes base term low high matched next faults.Damaged all n lt e = sym (stepped bytes base term low high matched next (Err faults.Damaged) all n lt e).same
narrowing_fails bytes base term low high matched next faults.Disk all n lt e = tt

pub narrowing_done : (bytes : List ℕ) (base : ℕ) (term : List ℕ) (low high matched next : ℕ) (all : Result Standing SourceFault) → Narrowing bytes base term low high matched next all → high ≤ low → all ≡ Ok (After low matched next)
narrowing_done bytes base term low high matched next all n h = sym n.same ∙ narrow_done n.left bytes base term low high matched next h

-- the search among groups of which so much is known
pub narrowing_init : (bytes : List ℕ) (base : ℕ) (term : List ℕ) (low high matched next : ℕ) → Narrowing bytes base term low high matched next (narrow_at (high - low) bytes base term low high matched next)
narrowing_init bytes base term low high matched next = record { left = high - low; enough = omega arith; same = refl }
