-- What a piece at hand says, the dictionary's bytes say.
use Rattle.std.proofs.Common.{◌≡◌, ◌≤◌, ◌∷◌, ◌<◌, ◌+◌, ◌-◌, ◌∙◌, ◌^◌, ℕ, List, length, take, drop, sym, ap, arith, refl, get_or, Ok}
use Rattle.std.proofs.lemmas.Bool.{lt-ltb, le-ltb, ne_eqb}
use Rattle.std.proofs.lemmas.List.{drop-take, take-take, drop-drop, take-append-drop, take_rest, drop_more, get_or-take, get_or-drop}
use Rattle.pk_vbyte.specs.VariableByte.{ended, taken, taken_on}
use Rattle.pk_vbyte.proofs.CallerLemmas.{taken_longer}
use Rattle.pk_dict.specs.declared.entry.DictPlace.{DictPlace}
use Rattle.pk_dict.specs.Dictionary.{shared}
use Rattle.pk_dict.specs.Place.{bytes_at}
use Rattle.pk_dict.specs.Reading.{IsPieceAt, after, number_at, shared_at, byte_at}
use Rattle.pk_dict.proofs.Parts.{Lent, lent_part, length_bytes_at}
use Rattle.pk_dict.proofs.Shared.{shared_value}

-- what a piece has from a place on
pub piece_from : (bytes : List ℕ) (start at : ℕ) (piece : List ℕ) → IsPieceAt bytes start piece → start ≤ at → at ≤ start + length piece → drop (at - start) piece ≡ take (start + length piece - at) (drop at bytes)
piece_from bytes start at piece p le inside =
    let from : ℕ = at - start in
    let left : ℕ = start + length piece - at in
    let all : length piece ≡ from + left = omega arith in
    let whole : start + from ≡ at = omega arith in
    ap (drop from) (p.is ∙ ap (λ (k : ℕ). take k (drop start bytes)) all)
    ∙ drop-take from left (drop start bytes)
    ∙ ap (take left) (drop-drop from start bytes ∙ ap (λ (k : ℕ). drop k bytes) whole)

-- a number that the piece has
pub number_near : (bytes : List ℕ) (start at : ℕ) (piece : List ℕ) (r : ℕ × ℕ) → IsPieceAt bytes start piece → start ≤ at → at ≤ start + length piece → Ok r ≡ taken (take (length piece - (at - start)) (drop (at - start) piece)) → number_at bytes at ≡ Ok (r.0, at + r.1)
unfolding number_at
number_near bytes start at piece r p le inside t =
    let left : ℕ = start + length piece - at in
    ap (after at) (ap taken (sym (take-append-drop left (drop at bytes)))
    ∙ taken_longer (take left (drop at bytes)) (drop left (drop at bytes)) r (ap taken (sym (piece_from bytes start at piece p le inside) ∙ sym (take_rest piece (at - start))) ∙ sym t))

-- a rest that the piece has
pub rest_near : (bytes : List ℕ) (start at n : ℕ) (piece : List ℕ) → IsPieceAt bytes start piece → start ≤ at → at + n ≤ start + length piece → take n (drop (at - start) piece) ≡ take n (drop at bytes)
rest_near bytes start at n piece p le inside =
    ap (take n) (piece_from bytes start at piece p le (omega arith)) ∙ take-take n (start + length piece - at) (drop at bytes) (omega arith)

-- what the rest of a term shares with a rest that the piece has
pub shared_near : (bytes : List ℕ) (start at n : ℕ) (piece term : List ℕ) (m v : ℕ) → IsPieceAt bytes start piece → start ≤ at → at + n ≤ start + length piece
    → v ≡ shared (take (at - start + n - (at - start)) (drop (at - start) piece)) (take (length term - m) (drop m term)) → shared_at bytes at n (drop m term) ≡ Ok v
shared_near bytes start at n piece term m v p le inside e =
    let size : at - start + n - (at - start) ≡ n = omega arith in
    shared_value bytes at n (drop m term) v (omega (arith, p.inside)) (e
    ∙ ap (λ (k : ℕ). shared (take k (drop (at - start) piece)) (take (length term - m) (drop m term))) size
    ∙ ap (λ (l : List ℕ). shared (take n (drop (at - start) piece)) l) (take_rest term m)
    ∙ ap (λ (l : List ℕ). shared l (drop m term)) (rest_near bytes start at n piece p le inside))

-- the byte at a place that the piece has
same_byte : (bytes : List ℕ) (start at : ℕ) (piece : List ℕ) → IsPieceAt bytes start piece → start ≤ at → at < start + length piece → get_or piece (at - start) 0 ≡ get_or bytes at 0
same_byte bytes start at piece p le inside =
    let k : ℕ = at - start in
    let whole : start + k ≡ at = omega arith in
    ap (λ (l : List ℕ). get_or l k 0) p.is ∙ get_or-take (length piece) (drop start bytes) k 0 (omega arith)
    ∙ get_or-drop start bytes k 0 ∙ ap (λ (i : ℕ). get_or bytes i 0) whole

-- a byte that the piece has
pub byte_near : (bytes : List ℕ) (start at : ℕ) (piece : List ℕ) → IsPieceAt bytes start piece → start ≤ at → at < start + length piece → byte_at bytes at ≡ Ok (get_or piece (at - start) 0)
unfolding byte_at
byte_near bytes start at piece p le inside =
    rw (lt-ltb at (length bytes) (omega (arith, p.inside))) (ap Ok (sym (same_byte bytes start at piece p le inside)))

ended_well : (v k : ℕ) → v < 2 ^ 32 → ended v k ≡ Ok (v, k)
unfolding ended
ended_well v k few = rw (lt-ltb v (2 ^ 32) few) refl

one_taken : (b : ℕ) (rest : List ℕ) → 128 ≤ b → b < 256 → taken (b ∷ rest) ≡ Ok (b - 128, 1)
unfolding taken taken_on
one_taken b rest last few =
    let same : 0 + (b - 128) ≡ b - 128 = omega arith in
    rw (ne_eqb b 0 (λ (q : b ≡ 0). omega arith)) (rw (le-ltb b 128 last) (ended_well (0 + (b - 128)) 1 (omega arith) ∙ ap (λ (v : ℕ). Ok (v, 1)) same))

-- a number of one byte that the piece has
pub one_near : (bytes : List ℕ) (start at v : ℕ) (piece : List ℕ) → IsPieceAt bytes start piece → start ≤ at → at < start + length piece → get_or piece (at - start) 0 ≡ v + 128 → v < 128 → number_at bytes at ≡ Ok (v, at + 1)
unfolding number_at
one_near bytes start at v piece p le inside last few =
    let less : v + 128 - 128 ≡ v = omega arith in
    ap (after at) (ap taken (drop_more bytes at 0 (omega (arith, p.inside)) ∙ ap (λ (x : ℕ). x ∷ drop (at + 1) bytes) (sym (same_byte bytes start at piece p le inside) ∙ last))
    ∙ one_taken (v + 128) (drop (at + 1) bytes) (omega arith) (omega arith) ∙ ap (λ (n : ℕ). Ok (n, 1)) less)

-- a byte after so many of a rest
pub next_near : (bytes : List ℕ) (start at k : ℕ) (piece : List ℕ) → IsPieceAt bytes start piece → start ≤ at → at + k < start + length piece → byte_at bytes (at + k) ≡ Ok (get_or piece (at - start + k) 0)
next_near bytes start at k piece p le inside =
    let there : at + k - start ≡ at - start + k = omega arith in
    byte_near bytes start (at + k) piece p (omega arith) inside ∙ ap (λ (i : ℕ). Ok (get_or piece i 0)) there

-- a piece that was lent
pub lent_piece : (content : List ℕ) (place : DictPlace) (n at : ℕ) (piece : List ℕ) → Lent content place n at piece → length piece ≡ n → IsPieceAt (bytes_at content place) at piece
lent_piece content place n at piece l size = record {
  inside = omega (arith, l.inside, size, length_bytes_at content place l.lies);
  is = sym (lent_part content place n at piece l) ∙ ap (λ (k : ℕ). take k (drop at (bytes_at content place))) (sym size);
}
