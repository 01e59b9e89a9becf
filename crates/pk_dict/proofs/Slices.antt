-- A slice is a dictionary as a whole, and never fails.
use Rattle.std.proofs.lemmas.Bool.{lt-ltb, le-ltb}
use Rattle.std.proofs.Common.{◌+◌, ◌<◌, ◌≤◌, ◌^◌, arith, refl, ap, sym, subst, ◌∙◌, List, length, ◌≡◌, inl, inr, Result, Err, ℕ}
use Rattle.pk_posting.specs.declared.source.SourceFault.{SourceFault}
use Rattle.pk_posting.specs.declared.source.SourceFault.TheVariants.{Disk}
use Rattle.pk_posting.specs.declared.source.SourceFault.TheVariants as faults
use Rattle.pk_posting.specs.Source.{CountsFaults, Rose}
use Rattle.pk_dict.specs.declared.entry.DictPlace.{DictPlace}
use Rattle.pk_posting.specs.declared.fault.ReadFault.{ReadFault}
use Rattle.pk_posting.specs.declared.fault.ReadFault.TheVariants as entries
use Rattle.pk_dict.specs.Dictionary.{DictSpells, Item}
use Rattle.pk_dict.specs.Place.{bytes_at}
use Rattle.pk_dict.specs.Dict.{term_says, prefix_says}
use Rattle.pk_posting.specs.ReadFaults.{CountsReads}
use Rattle.pk_dict.specs.Entries.{ListGives, entries_at, entries_of}
use Rattle.pk_dict.specs.LookUp.{look_up_at, look_up_of}
use Rattle.pk_dict.specs.Reading.{Gives}
use Rattle.pk_dict.proofs.Parts.{whole_at}

not_risen : Rose 0 0 → ⊥
not_risen (inl h) = omega arith
not_risen (inr h) = omega arith

pub never_disk : {T : Type 0} (e : SourceFault) → CountsFaults {T = T} 0 0 (Err e) → e ≡ Disk → ⊥
never_disk {T} e f h = not_risen (f.disk (ap (λ (x : SourceFault). let r : Result T SourceFault = Err x in r) h))

pub never_disk_listed : {T : Type 0} (e : ReadFault) → CountsReads {T = T} 0 0 (Err e) → e ≡ entries.Disk → ⊥
never_disk_listed {T} e f h = not_risen (f.disk (ap (λ (x : ReadFault). let r : Result T ReadFault = Err x in r) h))

-- what the slice shows as a whole
abbrev pub place_of : ℕ → ℕ → DictPlace
place_of bytes terms = record { at = 0; bytes = bytes; terms = terms }

pub whole : (given bytes : List ℕ) (n terms : ℕ) (es : List Item) → given ≡ bytes → n ≡ length bytes → DictSpells bytes es → DictSpells (bytes_at given (place_of n terms)) es
whole given bytes n terms es same size d =
    subst (λ (l : List ℕ). DictSpells l es) (sym (whole_at given (place_of n terms) refl (size ∙ ap (λ (l : List ℕ). length l) (sym same)) ∙ same)) d

all_of : (given bytes : List ℕ) (n terms : ℕ) → given ≡ bytes → n ≡ length bytes → bytes_at given (place_of n terms) ≡ bytes
all_of given bytes n terms same size = whole_at given (place_of n terms) refl (size ∙ ap (λ (l : List ℕ). length l) (sym same)) ∙ same

-- what a slice says as a whole
pub whole_term : (given bytes : List ℕ) (n terms : ℕ) (term : List ℕ) → given ≡ bytes → n ≡ length bytes → length bytes < 2 ^ 32 → look_up_of given (place_of n terms) term ≡ term_says bytes terms term
unfolding look_up_of term_says
whole_term given bytes n terms term same size short =
    rw (le-ltb (length given) (0 + n) (omega (arith, size, ap (λ (l : List ℕ). length l) same))) (rw (lt-ltb (length bytes) (2 ^ 32) short) (ap (λ (l : List ℕ). look_up_at l terms term) (all_of given bytes n terms same size)))

pub whole_prefix : (given bytes : List ℕ) (n terms : ℕ) (prefix : List ℕ) → given ≡ bytes → n ≡ length bytes → length bytes < 2 ^ 32 → entries_of given (place_of n terms) prefix ≡ prefix_says bytes terms prefix
unfolding entries_of prefix_says
whole_prefix given bytes n terms prefix same size short =
    rw (le-ltb (length given) (0 + n) (omega (arith, size, ap (λ (l : List ℕ). length l) same))) (rw (lt-ltb (length bytes) (2 ^ 32) short) (ap (λ (l : List ℕ). entries_at l terms prefix) (all_of given bytes n terms same size)))

-- a slice that no u32 counts
pub long_term : (bytes : List ℕ) (terms : ℕ) (term : List ℕ) → 2 ^ 32 ≤ length bytes → term_says bytes terms term ≡ Err faults.Damaged
unfolding term_says
long_term bytes terms term long = rw (le-ltb (length bytes) (2 ^ 32) long) refl

pub long_prefix : (bytes : List ℕ) (terms : ℕ) (prefix : List ℕ) → 2 ^ 32 ≤ length bytes → prefix_says bytes terms prefix ≡ Err faults.Damaged
unfolding prefix_says
long_prefix bytes terms prefix long = rw (le-ltb (length bytes) (2 ^ 32) long) refl

-- a fault that is not of what lies below is damage that the bytes say
pub is_damaged : {A : Type 0} (e : SourceFault) (read : Result A SourceFault) → Gives (Err e) read → (e ≡ Disk → ⊥) → read ≡ Err faults.Damaged
is_damaged faults.Damaged read g n = g
is_damaged faults.Disk read g n = absurd (n refl)

pub lists_damaged : (e : ReadFault) (read : Result (List Item) SourceFault) → ListGives (Err e) read → e ≡ entries.Damaged → read ≡ Err faults.Damaged
lists_damaged entries.Damaged read g h = g
lists_damaged entries.Disk read g h = absurd cc
lists_damaged entries.Memory read g h = absurd cc
