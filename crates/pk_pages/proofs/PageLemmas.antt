-- Pages as parts of a disk: read from, kept in slots, and left alone by writes elsewhere.
use Rattle.std.proofs.Common.{◌≡◌, ◌⊎◌, inl, inr, ⊎_elim, ℕ, ◌<◌, ◌≤◌, ◌+◌, ◌-◌, ◌*◌, ◌/◌, ◌%◌, ◌++◌, Bool, false, List, length, take, drop, get_or, min, sym, ◌∙◌, ap, subst, arith, length-drop, set}
use Rattle.std.specs.Prelude.{slice_range, slice_index, Result, Ok, Err, OnOk, OnErr}
use Rattle.std.proofs.lemmas.List.{drop-take, take-take, drop-drop, take_at, take_min, length-set, get_or-set_same, get_or-set_other}
use Rattle.std.proofs.lemmas.Bool.{cases_eq}
use Rattle.pk_disk.specs.Disk.{IsPartWritten, in_range, written}
use Rattle.pk_disk.specs.declared.disk.DiskFault.{DiskFault}
use Rattle.pk_disk.proofs.Images.{same_part}
use Rattle.pk_disk.proofs.Ranges.{outside_range, length-written, written_other}
use Rattle.pk_pages.specs.declared.slots.Slot.{Slot}
use Rattle.pk_pages.specs.Pages.{page_bytes, page_of, slot_for, IsIn, ArePagesOf, AreClear, KeepsOthers}

-- a part of a page is a part of the disk
pub part_of_page : (bytes : List ℕ) (at n : ℕ) → at % page_bytes + n ≤ page_bytes → slice_range (page_of bytes (at / page_bytes)) (at % page_bytes) (at % page_bytes + n) ≡ slice_range bytes at (at + n)
part_of_page bytes at n within =
    let from = at % page_bytes in
    let start = page_bytes * (at / page_bytes) in
    let xs = drop start bytes in
    let a : at % page_bytes + n - at % page_bytes ≡ n = omega arith in
    let b : at + n - at ≡ n = omega arith in
    let whole : page_bytes * (at / page_bytes) + at % page_bytes ≡ at = omega arith in
    rw (a, b) (sym (drop-take from n (take page_bytes xs)) ∙ ap (drop from) (take-take (from + n) page_bytes xs within)
    ∙ drop-take from n xs ∙ ap (take n) (drop-drop from start bytes) ∙ ap (λ (k : ℕ). take n (drop k bytes)) whole)

-- what was read of a page is all of it
pub page_read : (bytes out rest : List ℕ) (number n m : ℕ) → n ≡ min (length bytes - page_bytes * number) page_bytes → length out ≡ n → m ≡ n → out ≡ slice_range bytes (page_bytes * number) (page_bytes * number + m) → take n (out ++ rest) ≡ page_of bytes number
page_read bytes out rest number n m size long same is =
    let start = page_bytes * number in
    let k : start + m - start ≡ min page_bytes (length (drop start bytes)) = omega (arith, size, same, length-drop start bytes) in
    take_at out rest n long ∙ is ∙ ap (λ (j : ℕ). take j (drop start bytes)) k ∙ take_min page_bytes (drop start bytes)

-- what a slot reads as, after another was set
set_cases : (slots : List Slot) (k i : ℕ) (slot d : Slot) → k < length slots → ((i ≡ k) × (get_or (set slots k slot) i d ≡ slot)) ⊎ (get_or (set slots k slot) i d ≡ get_or slots i d)
set_cases slots k i slot d lt = ⊎_elim
    (λ same. inl (same, ap (λ (j : ℕ). get_or (set slots k slot) j d) same ∙ get_or-set_same slots k slot d lt))
    (λ other. inr (get_or-set_other slots k i slot d other))
    (cases_eq i k)

-- a slot that keeps that page or none, in the page's place
kept_in_place : (bytes : List ℕ) (slots : List Slot) (number : ℕ) (slot : Slot) → ArePagesOf bytes slots → ((p : ℕ) → IsIn slot p → p ≡ number) → ((p : ℕ) → IsIn slot p → slot.bytes.items ≡ page_of bytes number) → ArePagesOf bytes (set slots (number % length slots) slot)
kept_in_place bytes slots number slot are only is_page = λ p d some is.
    let m = length (set slots (number % length slots) slot) in
    let long : m ≡ length slots = length-set slots (number % length slots) slot in
    let any : 0 < length slots = omega (arith, some, long) in
    let lt : number % length slots < length slots = omega (arith, any) in
    ⊎_elim
    (λ here.
    let is_in = subst (λ (s : Slot). IsIn s p) here.1 is in
    ap (λ (s : Slot). s.bytes.items) here.1 ∙ is_page p is_in ∙ ap (page_of bytes) (sym (only p is_in)))
    (λ elsewhere.
    let was : slot_for (set slots (number % length slots) slot) p d ≡ slot_for slots p d = elsewhere ∙ ap (λ (n : ℕ). get_or slots (p % n) d) long in
    ap (λ (s : Slot). s.bytes.items) was ∙ are p d any (subst (λ (s : Slot). IsIn s p) was is))
    (set_cases slots (number % length slots) (p % m) slot d lt)

-- the same of a disk that was only read, by the number of slots
pub set_keeps : (bytes bytes' : List ℕ) (slots : List Slot) (number count : ℕ) (slot : Slot) → length slots ≡ count → bytes' ≡ bytes → ArePagesOf bytes slots → ((p : ℕ) → IsIn slot p → p ≡ number) → ((p : ℕ) → IsIn slot p → slot.bytes.items ≡ page_of bytes number) → ArePagesOf bytes' (set slots (number % count) slot)
set_keeps bytes bytes' slots number count slot long same are only is_page =
    subst (λ (b : List ℕ). ArePagesOf b (set slots (number % count) slot)) (sym same)
    (subst (λ (n : ℕ). ArePagesOf bytes (set slots (number % n) slot)) long (kept_in_place bytes slots number slot are only is_page))

-- the other slots stay
pub set_others : (slots : List Slot) (number count : ℕ) (slot : Slot) → length slots ≡ count → KeepsOthers slots (set slots (number % count) slot) number
set_others slots number count slot long =
    let same_count : length (set slots (number % count) slot) ≡ length slots = length-set slots (number % count) slot in
    record {
      count = same_count;
      same = λ q d apart. ap (λ (n : ℕ). get_or (set slots (number % count) slot) (q % n) d) same_count ∙ get_or-set_other slots (number % count) (q % length slots) slot d (λ eq. apart (eq ∙ ap (λ (n : ℕ). number % n) (sym long)));
    }

-- pages that have no position of a range are left alone by a change of the range
kept_elsewhere : (bytes bytes' : List ℕ) (slots : List Slot) (at n : ℕ) → length bytes' ≡ length bytes → ((p : ℕ) → in_range at n p ≡ false → slice_index bytes' p ≡ slice_index bytes p) → AreClear slots at n → ArePagesOf bytes slots → ArePagesOf bytes' slots
kept_elsewhere bytes bytes' slots at n long same clear are = λ p d some is.
    are p d some is ∙ sym (same_part bytes' bytes (page_bytes * p) page_bytes long (λ q le lt. same q (outside_range at n q (⊎_elim
    (λ before. inl (let near : q < at = omega (arith, before, lt) in near))
    (λ after. inr (let far : at + n ≤ q = omega (arith, after, le) in far))
    (clear p d some is)))))

-- pages that have no position of the range of a write are left alone by it, whatever it answers
pub after_write : (bytes bytes' : List ℕ) (is_open is_open' : ℕ → Bool) (slots : List Slot) (at : ℕ) (new : List ℕ) (result : Result (Unit {0}) DiskFault) → at + length new ≤ length bytes → OnOk result (bytes' ≡ written bytes at new) → OnErr result (IsPartWritten bytes is_open at (length new) bytes' is_open') → AreClear slots at (length new) → ArePagesOf bytes slots → ArePagesOf bytes' slots
after_write bytes bytes' is_open is_open' slots at new (Ok v) fits ok err clear are =
    kept_elsewhere bytes bytes' slots at (length new) (ap length ok ∙ length-written bytes at new fits)
    (λ p out. ap (λ (bs : List ℕ). get_or bs p 0) ok ∙ written_other bytes at new fits p out) clear are
after_write bytes bytes' is_open is_open' slots at new (Err e) fits ok err clear are =
    kept_elsewhere bytes bytes' slots at (length new) err.size err.same clear are
