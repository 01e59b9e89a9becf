-- Words in a row, in the text of the document of a number.
use Rattle.std.proofs.Common.{◌≡◌, ◌∙◌, ◌<◌, ◌≤◌, ◌||◌, ℕ, zero, suc, Bool, true, false, true≢false, cond, nat_eq, List, [], ◌∷◌, ◌++◌, ◌+◌, length, take, get_or, add-one, eq-eqb, refl, sym, ap, arith}
use Rattle.std.specs.List.{filter}
use Rattle.std.specs.List.Sorted.{IsStrictlyIncreasing}
use Rattle.std.specs.Simd.Lanes.{Each1}
use Rattle.std.proofs.lemmas.Bool.{ne_eqb}
use Rattle.pk_model.specs.Collection.{Doc, answer, numbers_of}
use Rattle.pk_model.specs.Tree.{Phrase, stand_in}
use Rattle.pk_model.specs.Words.{words_of}
use Rattle.pk_plan.proofs.FoundLemmas.{hit_here, hit_later}
use Rattle.pk_plan.specs.Plans.{Both, InRow, Operation, found}
use Rattle.pk_sets.proofs.IntersectionLemmas.{Rising}
use Rattle.pk_sets.proofs.PartLemmas.{rising_all}
use Rattle.pk_sets.specs.Sets.{has, intersection}
use Rattle.pk_live.specs.InRow.{stands}

-- ---- THE PLACE of a number
above : (m : ℕ) (live : List ℕ) (place n d : ℕ) → Each1 (λ y. m < y) live → place < length live → get_or live place d ≡ n → m < n
above m [] place n d a l e = absurd (omega arith)
above m (y ∷ live) zero n d a l e = omega (arith, a.0, e)
above m (y ∷ live) (suc place) n d a l e = above m live place n d a.1 (omega arith) e

other : (n m : ℕ) → m < n → nat_eq n m ≡ false
other n m l = ne_eqb n m (λ e. absurd (omega arith))

-- it is that of the document there
pub stands_there : (row : List (List ℕ)) (live : List ℕ) (docs : List Doc) (place n d : ℕ) (other_doc : Doc) → Rising live → place < length live → get_or live place d ≡ n → place < length docs
    → stands row live docs n ≡ stand_in row (words_of (get_or docs place other_doc).text)
stands_there row [] docs place n d o r l e k = absurd (omega arith)
stands_there row (m ∷ live) [] place n d o r l e k = absurd (omega arith)
stands_there row (m ∷ live) (x ∷ docs) zero n d o r l e k = ap (λ b. cond b (stand_in row (words_of x.text)) (stands row live docs n)) (eq-eqb n m (sym e))
stands_there row (m ∷ live) (x ∷ docs) (suc place) n d o r l e k =
    ap (λ b. cond b (stand_in row (words_of x.text)) (stands row live docs n)) (other n m (above m live place n d r.0 (omega arith) e))
    ∙ stands_there row live docs place n d o r.1 (omega arith) e (omega arith)

-- without a document there, it stands nowhere
pub stands_past : (row : List (List ℕ)) (live : List ℕ) (docs : List Doc) (place n d : ℕ) → Rising live → place < length live → get_or live place d ≡ n → length docs ≤ place → false ≡ stands row live docs n
stands_past row [] docs place n d r l e k = absurd (omega arith)
stands_past row (m ∷ live) [] place n d r l e k = refl
stands_past row (m ∷ live) (x ∷ docs) zero n d r l e k = absurd (omega arith)
stands_past row (m ∷ live) (x ∷ docs) (suc place) n d r l e k =
    stands_past row live docs place n d r.1 (omega arith) e (omega arith)
    ∙ sym (ap (λ b. cond b (stand_in row (words_of x.text)) (stands row live docs n)) (other n m (above m live place n d r.0 (omega arith) e)))

first_not : (b c : Bool) → (b || c) ≡ false → b ≡ false
first_not true c e = e
first_not false c e = refl

rest_not : (b c : Bool) → (b || c) ≡ false → c ≡ false
rest_not true c e = absurd (true≢false e)
rest_not false c e = e

-- nor without a place
pub stands_nowhere : (row : List (List ℕ)) (live : List ℕ) (docs : List Doc) (n : ℕ) → has live n ≡ false → false ≡ stands row live docs n
stands_nowhere row [] docs n e = refl
stands_nowhere row (m ∷ live) [] n e = refl
stands_nowhere row (m ∷ live) (x ∷ docs) n e =
    stands_nowhere row live docs n (rest_not (nat_eq n m) (has live n) e)
    ∙ sym (ap (λ b. cond b (stand_in row (words_of x.text)) (stands row live docs n)) (first_not (nat_eq n m) (has live n) e))

-- ---- DOCUMENTS in whose texts the words stand
stands_head : (row : List (List ℕ)) (d : Doc) (docs : List Doc) (n : ℕ) (b : Bool) → nat_eq n d.number ≡ b → Rising (numbers_of (d ∷ docs)) → stands row (numbers_of docs) docs n ≡ has (answer (Phrase row) docs) n
    → cond b (stand_in row (words_of d.text)) (stands row (numbers_of docs) docs n) ≡ has (answer (Phrase row) (d ∷ docs)) n
stands_head row d docs n true e r h = sym (hit_here (Phrase row) d docs n r e)
stands_head row d docs n false e r h = h ∙ sym (hit_later (Phrase row) d docs n e)

stands_is : (row : List (List ℕ)) (docs : List Doc) (n : ℕ) → Rising (numbers_of docs) → stands row (numbers_of docs) docs n ≡ has (answer (Phrase row) docs) n
stands_is row [] n r = refl
stands_is row (d ∷ docs) n r = stands_head row d docs n (nat_eq n d.number) refl r (stands_is row docs n r.1)

same_filter : (p q : ℕ → Bool) → ((n : ℕ) → p n ≡ q n) → (ns : List ℕ) → filter p ns ≡ filter q ns
same_filter p q e [] = refl
same_filter p q e (n ∷ ns) = ap (λ b. cond b (n ∷ filter p ns) (filter p ns)) (e n) ∙ ap (λ ms. cond (q n) (n ∷ ms) ms) (same_filter p q e ns)

-- what is left of numbers that an operation finds
pub kept_is : (row : List (List ℕ)) (live : List ℕ) (here docs : List Doc) (o : Operation) (ns : List ℕ) → IsStrictlyIncreasing (numbers_of docs) → live ≡ numbers_of docs → here ≡ docs → ns ≡ found o docs
    → filter (stands row live here) ns ≡ found (Both o (InRow row)) docs
kept_is row live here docs o ns h same given is =
    ap (λ ls. filter (stands row ls here) ns) same ∙ ap (λ ds. filter (stands row (numbers_of docs) ds) ns) given
    ∙ same_filter (stands row (numbers_of docs) docs) (has (answer (Phrase row) docs)) (λ n. stands_is row docs n (rising_all (numbers_of docs) h)) ns
    ∙ ap (λ ms. intersection ms (answer (Phrase row) docs)) is

-- ---- ONE NUMBER MORE
front : (b : Bool) (y : ℕ) (ns more : List ℕ) → cond b (y ∷ (ns ++ more)) (ns ++ more) ≡ cond b (y ∷ ns) ns ++ more
front true y ns more = refl
front false y ns more = refl

kept_step : (p : ℕ → Bool) (ns : List ℕ) (i x : ℕ) (b : Bool) → i < length ns → x ≡ get_or ns i x → p x ≡ b → filter p (take (suc i) ns) ≡ filter p (take i ns) ++ cond b (x ∷ []) []
kept_step p [] i x b lt at e = absurd (omega arith)
kept_step p (y ∷ ns) zero x b lt at e = ap (λ z. cond (p z) (z ∷ []) []) (sym at) ∙ ap (λ c. cond c (x ∷ []) []) e
kept_step p (y ∷ ns) (suc i) x b lt at e =
    ap (λ ms. cond (p y) (y ∷ ms) ms) (kept_step p ns i x b (omega arith) at e) ∙ front (p y) y (filter p (take i ns)) (cond b (x ∷ []) [])

pub kept_more : (p : ℕ → Bool) (ns : List ℕ) (i x : ℕ) (b : Bool) → i < length ns → x ≡ get_or ns i x → p x ≡ b → filter p (take (i + 1) ns) ≡ filter p (take i ns) ++ cond b (x ∷ []) []
kept_more p ns i x b lt at e = rw add-one (kept_step p ns i x b lt at e)
