-- The steps of a collection, for any bytes.
use Rattle.std.proofs.Common.{arith, refl, sym, ap, ◌∙◌, ◌≡◌, ◌≤◌, ◌<◌, ◌+◌, ◌-◌, ◌%◌, ◌++◌, ℕ, suc, List, length, Ok, Err, Result, true, false, eqb}
use Rattle.pk_posting.specs.declared.source.SourceFault.{SourceFault}
use Rattle.pk_posting.specs.Limits.{asks_for}
use Rattle.pk_posting.specs.declared.source.SourceFault.TheVariants as faults
use Rattle.pk_dict.specs.declared.entry.Entry.{Entry}
use Rattle.pk_posting.specs.declared.fault.ReadFault.{ReadFault}
use Rattle.pk_posting.specs.declared.fault.ReadFault.TheVariants.{Damaged, Disk, Memory}
use Rattle.pk_dict.specs.Dictionary.{Item}
use Rattle.pk_dict.specs.Entries.{ListGives, TermGives, asks_at, asked_for, collect_at, collected, goes_on, item_kept, term_at}
use Rattle.pk_dict.specs.Reading.{◌>>=◌}

one_more : (n i : ℕ) → i < n → n - i ≡ suc (n - (i + 1))
one_more n i h = omega arith

-- what a collection gives whose next term is known
pub collect_by : (n : ℕ) (bytes prefix : List ℕ) (i : ℕ) (before : List ℕ) (at : ℕ) (found : List Item) (r : Result (List ℕ × Entry × ℕ) SourceFault) → term_at bytes (eqb (i % 16) 0) before at ≡ r
    → collect_at (suc n) bytes prefix i before at found ≡ (r >>= collected (collect_at n bytes prefix (i + 1)) prefix found)
unfolding collect_at
collect_by n bytes prefix i before at found r e = rw e refl

collect_step : (n i : ℕ) (bytes prefix before : List ℕ) (at : ℕ) (found : List Item) (r : Result (List ℕ × Entry × ℕ) SourceFault) (all : Result (List Item) SourceFault) → i < n
    → collect_at (n - i) bytes prefix i before at found ≡ all → term_at bytes (eqb (i % 16) 0) before at ≡ r → (r >>= collected (collect_at (n - (i + 1)) bytes prefix (i + 1)) prefix found) ≡ all
collect_step n i bytes prefix before at found r all lt same e =
    sym (collect_by (n - (i + 1)) bytes prefix i before at found r e) ∙ ap (λ (k : ℕ). collect_at k bytes prefix i before at found) (sym (one_more n i lt)) ∙ same

-- a term was read
pub record Read (n i : ℕ) (bytes prefix before : List ℕ) (at : ℕ) (t : List ℕ) (entry : Entry) (next : ℕ) : Type 0 where
  pub inside : i < n
  pub term : term_at bytes (eqb (i % 16) 0) before at ≡ Ok (t, entry, next)

pub collect_more : (n i : ℕ) (bytes prefix before : List ℕ) (at : ℕ) (found : List Item) (all : Result (List Item) SourceFault) (t : List ℕ) (entry : Entry) (next : ℕ) (later : List Item)
    → collect_at (n - i) bytes prefix i before at found ≡ all → Read n i bytes prefix before at t entry next → goes_on prefix t ≡ true → later ≡ found ++ item_kept prefix t entry
    → collect_at (n - (i + 1)) bytes prefix (i + 1) t next later ≡ all
collect_more n i bytes prefix before at found all t entry next later same r more add =
    let on : (Ok (t, entry, next) >>= collected (collect_at (n - (i + 1)) bytes prefix (i + 1)) prefix found) ≡ collect_at (n - (i + 1)) bytes prefix (i + 1) t next (found ++ item_kept prefix t entry) = rw more refl in
    ap (collect_at (n - (i + 1)) bytes prefix (i + 1) t next) add ∙ sym on ∙ collect_step n i bytes prefix before at found (Ok (t, entry, next)) all r.inside same r.term

pub collect_last : (n i : ℕ) (bytes prefix before : List ℕ) (at : ℕ) (found : List Item) (all : Result (List Item) SourceFault) (t : List ℕ) (entry : Entry) (next : ℕ) (later : List Item)
    → collect_at (n - i) bytes prefix i before at found ≡ all → Read n i bytes prefix before at t entry next → goes_on prefix t ≡ false → later ≡ found ++ item_kept prefix t entry → all ≡ Ok later
collect_last n i bytes prefix before at found all t entry next later same r more add =
    let on : (Ok (t, entry, next) >>= collected (collect_at (n - (i + 1)) bytes prefix (i + 1)) prefix found) ≡ Ok (found ++ item_kept prefix t entry) = rw more refl in
    sym (collect_step n i bytes prefix before at found (Ok (t, entry, next)) all r.inside same r.term) ∙ on ∙ ap Ok (sym add)

-- a fault of a term is the fault of the collection
pub collect_fails : (n i : ℕ) (bytes prefix before : List ℕ) (at : ℕ) (found : List Item) (all : Result (List Item) SourceFault) (t : List ℕ) (e : ReadFault) → i < n → collect_at (n - i) bytes prefix i before at found ≡ all
    → TermGives (Err e) t (term_at bytes (eqb (i % 16) 0) before at) → ListGives (Err e) all
collect_fails n i bytes prefix before at found all t Damaged lt same g = sym (collect_step n i bytes prefix before at found (Err faults.Damaged) all lt same g)
collect_fails n i bytes prefix before at found all t Disk lt same g = tt
collect_fails n i bytes prefix before at found all t Memory lt same g = tt

pub collect_all : (n i : ℕ) (bytes prefix before : List ℕ) (at : ℕ) (found : List Item) (all : Result (List Item) SourceFault) → n ≤ i → collect_at (n - i) bytes prefix i before at found ≡ all → all ≡ Ok found
unfolding collect_at
collect_all n i bytes prefix before at found all h same =
    let none : n - i ≡ 0 = omega arith in
    sym same ∙ ap (λ (k : ℕ). collect_at k bytes prefix i before at found) none

-- how often a collection asks whose next term is known
pub asks_by : (n : ℕ) (bytes prefix : List ℕ) (i : ℕ) (before : List ℕ) (at : ℕ) (r : Result (List ℕ × Entry × ℕ) SourceFault) → term_at bytes (eqb (i % 16) 0) before at ≡ r
    → asks_at (suc n) bytes prefix i before at ≡ asked_for (asks_at n bytes prefix (i + 1)) prefix r
unfolding asks_at
asks_by n bytes prefix i before at r e = rw e refl

pub asks_more : (n i : ℕ) (bytes prefix before : List ℕ) (at : ℕ) (t : List ℕ) (entry : Entry) (next : ℕ) → Read n i bytes prefix before at t entry next → goes_on prefix t ≡ true
    → asks_at (n - i) bytes prefix i before at ≡ 5 + asks_for (length t) + asks_at (n - (i + 1)) bytes prefix (i + 1) t next
asks_more n i bytes prefix before at t entry next r more =
    ap (λ (k : ℕ). asks_at k bytes prefix i before at) (one_more n i r.inside) ∙ asks_by (n - (i + 1)) bytes prefix i before at (Ok (t, entry, next)) r.term ∙ (rw more refl)

pub asks_last : (n i : ℕ) (bytes prefix before : List ℕ) (at : ℕ) (t : List ℕ) (entry : Entry) (next : ℕ) → Read n i bytes prefix before at t entry next → goes_on prefix t ≡ false
    → asks_at (n - i) bytes prefix i before at ≡ 5 + asks_for (length t) + 0
asks_last n i bytes prefix before at t entry next r more =
    ap (λ (k : ℕ). asks_at k bytes prefix i before at) (one_more n i r.inside) ∙ asks_by (n - (i + 1)) bytes prefix i before at (Ok (t, entry, next)) r.term ∙ (rw more refl)
