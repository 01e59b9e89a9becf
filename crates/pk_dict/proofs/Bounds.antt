-- Groups, and the search among them.
use Rattle.std.proofs.Common.{arith, refl, sym, ap, subst, ◌∙◌, ◌≡◌, ◌≤◌, ◌<◌, ◌+◌, ◌*◌, ◌%◌, ◌^◌, ◌++◌, ◌∷◌, [], ℕ, zero, suc, List, length, take, drop, Ok, Err, append_assoc, append-nil, inl, inr}
use Rattle.std.specs.Int.{w32, to_le_bytes, from_le_bytes}
use Rattle.std.specs.List.{AllByRecursion}
use Rattle.std.proofs.lemmas.Nat.{from_le_bytes-to_le_bytes_4}
use Rattle.std.proofs.lemmas.List.{drop_at, take-append-drop, length-append, length-take}
use Rattle.std.proofs.lemmas.Bool.{cases_eq, eq-eqb, le-ltb}
use Rattle.pk_dict.specs.Dictionary.{Item, rest_of, spelled_item, spelled_items, groups, offsets, group_count, spelling, DictSpells, Fits}
use Rattle.pk_dict.specs.Lists.{last_of}
use Rattle.pk_dict.specs.Reading.{offset_at, group_at, step_at, head_at}
use Rattle.pk_posting.specs.declared.source.SourceFault.TheVariants as faults
use Rattle.pk_dict.proofs.Shared.{number_past}
use Rattle.pk_dict.proofs.Numbers.{moved}
use Rattle.pk_dict.proofs.Terms.{told, first_law}

pub pieces_append : (i : ℕ) (b : List ℕ) (xs ys : List Item) → spelled_items i b (xs ++ ys) ≡ spelled_items i b xs ++ spelled_items (i + length xs) (last_of b xs) ys
pieces_append i b [] ys = ap (λ (k : ℕ). spelled_items k b ys) (omega arith)
pieces_append i b (x ∷ xs) ys =
    ap (λ (l : List ℕ). spelled_item i b x ++ l) (pieces_append (i + 1) x.term xs ys ∙ ap (λ (k : ℕ). spelled_items (i + 1) x.term xs ++ spelled_items k (last_of x.term xs) ys) (omega arith))
    ∙ sym (append_assoc (spelled_item i b x) (spelled_items (i + 1) x.term xs) (spelled_items (i + length (x ∷ xs)) (last_of x.term xs) ys))

pub piece_first : (i : ℕ) (b : List ℕ) (e : Item) → i % 16 ≡ 0 → spelled_item i b e ≡ rest_of [] e
unfolding spelled_item
piece_first i b e h = rw (eq-eqb (i % 16) 0 h) refl

pub offsets_size : (es : List Item) (n : ℕ) → length (offsets es n) ≡ 4 * n
offsets_size es zero = refl
offsets_size es (suc n) = omega (arith, length-append (offsets es n) (to_le_bytes w32 (length (groups (take (16 * n) es)))), offsets_size es n)

pub offset_there : (es : List Item) (n g : ℕ) (more : List ℕ) → g < n → take 4 (drop (4 * g) (offsets es n ++ more)) ≡ to_le_bytes w32 (length (groups (take (16 * g) es)))
offset_there es zero g more h = absurd (omega arith)
offset_there es (suc n) g more h =
    elim (cases_eq g n) [
      | inl e ↦ subst (λ (k : ℕ). take 4 (drop (4 * k) (offsets es (suc n) ++ more)) ≡ to_le_bytes w32 (length (groups (take (16 * k) es)))) (sym e)
          (ap (λ (l : List ℕ). take 4 (drop (4 * n) l)) (append_assoc (offsets es n) (to_le_bytes w32 (length (groups (take (16 * n) es)))) more) ∙ ap (take 4) (drop_at (offsets es n) (to_le_bytes w32 (length (groups (take (16 * n) es))) ++ more) (4 * n) (offsets_size es n)))
      | inr k ↦ ap (λ (l : List ℕ). take 4 (drop (4 * g) l)) (append_assoc (offsets es n) (to_le_bytes w32 (length (groups (take (16 * n) es)))) more) ∙ offset_there es n g _ (omega (arith, k))
    ]

fits_drop : (n : ℕ) (es : List Item) → AllByRecursion Fits es → AllByRecursion Fits (drop n es)
fits_drop zero es h = h
fits_drop (suc n) [] h = h
fits_drop (suc n) (e ∷ es) h = fits_drop n es h.1

-- where a group begins
pub record Group (bytes : List ℕ) (es : List Item) (g : ℕ) (term : List ℕ) (e : Item) (rest : List Item) : Type 0 where
  pub next : ℕ
  pub step : group_at bytes (4 * group_count (length es)) g term ≡ Ok (told term e.term e.entry next)
  pub place : next ≤ length bytes
  pub stands : drop next bytes ≡ spelled_items (16 * g + 1) e.term rest ++ []

pub offset_is : (bytes : List ℕ) (at o : ℕ) → o < 2 ^ 32 → at + 4 ≤ length bytes → take 4 (drop at bytes) ≡ to_le_bytes w32 o → offset_at bytes at ≡ Ok o
unfolding offset_at
offset_is bytes at o h k e = rw (le-ltb (length bytes) (at + 4) k) (ap (λ (l : List ℕ). Ok (from_le_bytes w32 l)) e ∙ ap Ok (from_le_bytes-to_le_bytes_4 o h))

group_is : (bytes : List ℕ) (base g o : ℕ) (term : List ℕ) → offset_at bytes (4 * g) ≡ Ok o → group_at bytes base g term ≡ step_at bytes term 0 0 (base + o)
unfolding group_at
group_is bytes base g o term e = rw e refl

pub group_law : (bytes : List ℕ) (es : List Item) (g : ℕ) (term : List ℕ) (e : Item) (rest : List Item) → DictSpells bytes es → 16 * g < length es → drop (16 * g) es ≡ e ∷ rest → Group bytes es g term e rest
unfolding spelling groups
group_law bytes es g term e rest d lt split =
    let G : ℕ = group_count (length es) in
    let inside : g < G = omega arith in
    let before : List Item = take (16 * g) es in
    let size : length before ≡ 16 * g = omega (arith, length-take (16 * g) es) in
    let o : ℕ = length (groups before) in
    let whole : es ≡ before ++ (e ∷ rest) = sym (take-append-drop (16 * g) es) ∙ ap (λ (l : List Item). before ++ l) split in
    let b : List ℕ = last_of [] before in
    let tail : List ℕ = spelled_items (16 * g + 1) e.term rest in
    let parts : groups es ≡ groups before ++ (rest_of [] e ++ tail) =
    ap (spelled_items 0 []) whole ∙ pieces_append 0 [] before (e ∷ rest)
    ∙ ap (λ (k : ℕ). groups before ++ (spelled_item k b e ++ spelled_items (k + 1) e.term rest)) (omega (arith, size))
    ∙ ap (λ (l : List ℕ). groups before ++ (l ++ tail)) (piece_first (16 * g) b e (omega arith)) in
    let base : ℕ = 4 * G in
    let all : bytes ≡ (offsets es G ++ groups before) ++ (rest_of [] e ++ tail) = d.same ∙ ap (λ (l : List ℕ). offsets es G ++ l) parts ∙ sym (append_assoc (offsets es G) (groups before) (rest_of [] e ++ tail)) in
    let front : length (offsets es G ++ groups before) ≡ base + o = omega (arith, length-append (offsets es G) (groups before), offsets_size es G) in
    let total = ap length all ∙ length-append (offsets es G ++ groups before) (rest_of [] e ++ tail) in
    let at : drop (base + o) bytes ≡ rest_of [] e ++ tail = ap (drop (base + o)) all ∙ drop_at (offsets es G ++ groups before) (rest_of [] e ++ tail) (base + o) front in
    let fits = subst (λ (l : List Item). AllByRecursion Fits l) split (fits_drop (16 * g) es d.fits) in
    let there : take 4 (drop (4 * g) bytes) ≡ to_le_bytes w32 o = ap (λ (l : List ℕ). take 4 (drop (4 * g) l)) d.same ∙ offset_there es G g (groups es) inside in
    let oi : offset_at bytes (4 * g) ≡ Ok o = offset_is bytes (4 * g) o (omega (arith, total, front, d.size)) (omega (arith, total, front)) there in
    record {
      next = base + o + length (rest_of [] e);
      step = group_is bytes base g o term oi ∙ first_law bytes term (base + o) e tail fits.0 (omega (arith, total, front)) at;
      place = omega (arith, total, front, length-append (rest_of [] e) tail);
      stands = moved bytes (base + o) (rest_of [] e) tail at ∙ sym (append-nil tail);
    }

-- nothing stands past the end
pub group_beyond : (bytes : List ℕ) (base g o : ℕ) (term : List ℕ) → offset_at bytes (4 * g) ≡ Ok o → length bytes < base + o → group_at bytes base g term ≡ Err faults.Damaged
unfolding step_at head_at
group_beyond bytes base g o term e h = group_is bytes base g o term e ∙ (rw (number_past bytes (base + o) h) refl)
