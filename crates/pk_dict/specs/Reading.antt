-- What a reader finds at a place, as a function of a dictionary's bytes.
use Rattle.std.specs.Prelude.{◌≡◌, ◌≤◌, ◌+◌, ◌*◌, ℕ, zero, suc, List, length, take, drop, slice_index, Option, Some, None, Result, Ok, Err, nat_lt, nat_eq, if◌then◌else◌}
use Rattle.std.specs.Int.{w32, from_le_bytes}
use Rattle.pk_vbyte.specs.declared.variable.VFault.{VFault}
use Rattle.pk_vbyte.specs.VariableByte.{taken}
use Rattle.pk_posting.specs.declared.source.SourceFault.{SourceFault}
use Rattle.pk_posting.specs.declared.source.SourceFault.TheVariants as faults
use Rattle.pk_dict.specs.declared.entry.Entry.{Entry}
use Rattle.pk_dict.specs.declared.head.Head.{Head}
use Rattle.pk_dict.specs.declared.head.Step.{Step}
use Rattle.pk_dict.specs.declared.head.Step.TheVariants.{Less, Found, Past}
use Rattle.pk_dict.specs.Dictionary.{shared}

-- what follows where the part before was read
infixl 10 ◌>>=◌
abbrev pub ◌>>=◌ : {A B : Type 0} → Result A SourceFault → (A → Result B SourceFault)
    → Result B SourceFault
(Ok x) >>= f = f x
(Err e) >>= f = Err e

-- a fault is what the bytes give, unless what lies below failed
abbrev pub Fails : {A : Type 0} → SourceFault → Result A SourceFault → Type 0
Fails faults.Damaged read = read ≡ Err faults.Damaged
Fails faults.Disk read = Unit {0}

-- what a call returned is what the bytes give, unless what lies below failed
abbrev pub Gives : {A : Type 0} → Result A SourceFault → Result A SourceFault → Type 0
Gives (Ok x) read = read ≡ Ok x
Gives (Err e) read = Fails e read

-- a piece is what stands at a place
pub record IsPieceAt (bytes : List ℕ) (at : ℕ) (piece : List ℕ) : Type 0 where
  pub inside : at + length piece ≤ length bytes
  pub is : piece ≡ take (length piece) (drop at bytes)

-- a number that was taken, and the place after it
abbrev pub after : ℕ → Result (ℕ × ℕ) VFault → Result (ℕ × ℕ) SourceFault
after at (Ok r) = Ok (r.0, at + r.1)
after at (Err e) = Err faults.Damaged

-- the number at a place, and the place after it
unfoldable pub number_at : List ℕ → ℕ → Result (ℕ × ℕ) SourceFault
number_at bytes at = after at (taken (drop at bytes))

-- the numbers after a term, and the place after them
unfoldable pub entry_at : List ℕ → ℕ → Result (Entry × ℕ) SourceFault
entry_at bytes at = do
  f ← number_at bytes at
  p ← number_at bytes f.1
  n ← number_at bytes p.1
  Ok (record { frequency = f.0; place = record { at = p.0; bytes = n.0 } }, n.1)

-- the byte at a place
unfoldable pub byte_at : List ℕ → ℕ → Result ℕ SourceFault
byte_at bytes at =
    if nat_lt at (length bytes) then Ok (slice_index bytes at) else Err faults.Damaged

-- the u32 at a place
unfoldable pub offset_at : List ℕ → ℕ → Result ℕ SourceFault
offset_at bytes at =
    if nat_lt (length bytes) (at + 4) then Err faults.Damaged
    else Ok (from_le_bytes w32 (take 4 (drop at bytes)))

-- how many bytes the n bytes at a place share with a term
unfoldable pub shared_at : List ℕ → ℕ → ℕ → List ℕ → Result ℕ SourceFault
shared_at bytes at n term =
    if nat_lt (length bytes) (at + n) then Err faults.Damaged
    else Ok (shared (take n (drop at bytes)) term)

-- where the rest of a term lies, what is said of the term, and where the next one begins
unfoldable pub head_at : List ℕ → ℕ → Result Head SourceFault
head_at bytes at = do
  n ← number_at bytes at
  e ← entry_at bytes (n.1 + n.0)
  Ok (record { rest = n.1; size = n.0; entry = e.0; next = e.1 })

-- what a term's rest says, where it and the wanted term share the first m bytes
unfoldable pub compared_at : List ℕ → Head → List ℕ → ℕ → Result Step SourceFault
compared_at bytes h term m = do
  c ← shared_at bytes h.rest h.size (drop m term)
  if nat_eq c h.size
      then (if nat_eq (m + c) (length term) then Ok (Found h.entry) else Ok (Less (m + c) h.next))
      else (if nat_eq (m + c) (length term) then Ok Past else (do
        b ← byte_at bytes (h.rest + c)
        if nat_lt (slice_index term (m + c)) b then Ok Past else Ok (Less (m + c) h.next)))

-- a term that shares only s bytes with the one before, where the wanted term shares more
unfoldable pub apart_at : List ℕ → ℕ → ℕ → List ℕ → Result Step SourceFault
apart_at bytes at s term = do
  b ← byte_at bytes at
  if nat_lt (slice_index term s) b then Ok Past else Err faults.Damaged

-- what the term at a place is to the wanted one: it keeps s bytes of the term before, which shares
-- m with the wanted one and is less
unfoldable pub step_at : List ℕ → List ℕ → ℕ → ℕ → ℕ → Result Step SourceFault
step_at bytes term s m at = do
  h ← head_at bytes at
  if nat_lt m s then Ok (Less m h.next)
      else (if nat_lt s m then apart_at bytes h.rest s term else compared_at bytes h term m)

-- what the next term of a group is to the wanted one: it says first how much it keeps
unfoldable pub next_at : List ℕ → List ℕ → ℕ → ℕ → Result Step SourceFault
next_at bytes term m at = do
  s ← number_at bytes at
  step_at bytes term s.0 m s.1

-- how a scan goes on after a term
abbrev pub going_on : (ℕ → ℕ → Result (Option Entry) SourceFault) → Step
    → Result (Option Entry) SourceFault
going_on more (Less m next) = more m next
going_on more (Found entry) = Ok (Some entry)
going_on more Past = Ok None

-- the wanted term among the next terms of a group
unfoldable pub scan_at : ℕ → List ℕ → List ℕ → ℕ → ℕ → Result (Option Entry) SourceFault
scan_at zero bytes term m at = Ok None
scan_at (suc n) bytes term m at = do
  step ← next_at bytes term m at
  going_on (scan_at n bytes term) step

-- no more is matched than the wanted term has
abbrev pub IsWithin : ℕ → Step → Type 0
IsWithin n (Less m next) = m ≤ n
IsWithin n (Found entry) = Unit {0}
IsWithin n Past = Unit {0}

-- the next term begins at a place or after it
abbrev pub IsFrom : ℕ → Step → Type 0
IsFrom start (Less m next) = start ≤ next
IsFrom start (Found entry) = Unit {0}
IsFrom start Past = Unit {0}

-- what the first term of a group is to the wanted one: the groups begin at base
unfoldable pub group_at : List ℕ → ℕ → ℕ → List ℕ → Result Step SourceFault
group_at bytes base g term = do
  o ← offset_at bytes (4 * g)
  step_at bytes term 0 0 (base + o)
