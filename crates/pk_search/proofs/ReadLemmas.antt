-- Segments of which each document was read, by their places.
use Rattle.std.proofs.Common.{◌≡◌, ◌∙◌, ℕ, ◌<◌, List, Result, Ok, Err, arith, get_or, length, subst}
use Rattle.std.proofs.lemmas.List.{get_or_default}
use Rattle.std.specs.Prelude.{OnOk}
use Rattle.pk_open.specs.declared.opened.OpenSegment.{OpenSegment}
use Rattle.pk_search.specs.Read.{AreRead, IsRead}

-- what holds whether a call fails or not
pub ok_always : {T E P : Type 0} (r : Result T E) → P → OnOk r P
ok_always (Ok v) p = p
ok_always (Err e) p = tt

-- the segment at a place
abbrev pub IsReadAt : List ℕ → List OpenSegment → ℕ → Type 0
IsReadAt bytes opened i = (d : OpenSegment) → IsRead bytes (get_or opened i d)

pub read_at : (bytes : List ℕ) (opened : List OpenSegment) (i : ℕ) (o : OpenSegment) → i < length opened → o ≡ get_or opened i o → IsRead bytes o → IsReadAt bytes opened i
read_at bytes opened i o lt is read d = subst (IsRead bytes) (is ∙ get_or_default opened i o d lt) read

-- all of them
pub read_all : (bytes : List ℕ) (opened : List OpenSegment) (n : ℕ) → n ≡ length opened → ((i : ℕ) → i < n → IsReadAt bytes opened i) → AreRead bytes opened
read_all bytes opened n ends each i d lt = each i (omega (arith, lt, ends)) d
