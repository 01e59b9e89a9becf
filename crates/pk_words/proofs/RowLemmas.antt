-- How much of a row is begun, word by word.
use Rattle.std.proofs.Common.{◌≡◌, ℕ, ◌+◌, ◌<◌, ◌≤◌, Bool, true, false, not, ◌&&◌, ◌||◌, List, [], ◌∷◌, ◌++◌, suc, zero, length, map, take, drop, get_or, refl, sym, ap, subst, ◌∙◌, arith, append_assoc, append-nil, take_all, length-append, length-take, nat_lt, Bor, slice_range}
use Rattle.std.specs.List.{starts_with}
use Rattle.std.specs.Str.{bytes_eq}
use Rattle.std.proofs.lemmas.Bool.{ltb-false, ltb-true}
use Rattle.std.proofs.lemmas.List.{drop_all, map-append, take_more}
use Rattle.std.proofs.lemmas.Slice.Eq.{bytes_eq-Decides}
use Rattle.pk_model.specs.Tree.{stand_in}
use Rattle.pk_model.specs.Words.{folded, words_of}
use Rattle.pk_model.proofs.TreeLemmas.{phrase}
use Rattle.pk_pieces.proofs.CallerLemmas.{words_nil}
use Rattle.unicode_segmentation.specs.Word.{words}
use Rattle.pk_words.specs.Rows.{Continues, IsShorter, AreShorter, texts}

pub and_false : (b : Bool) → (b && false) ≡ false
and_false true = refl
and_false false = refl

not_true : (b : Bool) → (b ≡ true → ⊥) → b ≡ false
not_true true f = absurd (f refl)
not_true false f = refl

-- a row whose next word is another one does not stand where it was begun
not_here : (row : List (List ℕ)) (n : ℕ) (word : List ℕ) (rest : List (List ℕ)) → n < length row → bytes_eq (get_or row n []) word ≡ false → starts_with bytes_eq (take n row ++ word ∷ rest) row ≡ false
not_here [] n word rest l e = absurd (omega (arith, l))
not_here (v ∷ row) zero word rest l e = ap (λ b. b && starts_with bytes_eq rest row) e
not_here (v ∷ row) (suc n) word rest l e =
    ap (λ b. bytes_eq v v && b) (not_here row n word rest (omega (arith, l)) e) ∙ and_false (bytes_eq v v)

-- no word of the row is begun, and its first one is another
pub none_begun : (row : List (List ℕ)) (word : List ℕ) → 0 < length row → bytes_eq (get_or row 0 []) word ≡ false → Continues row 0 (word ∷ []) 0
none_begun [] word l e = absurd (omega (arith, l))
none_begun (v ∷ row) word l e = λ rest. ap (λ b. b || stand_in (v ∷ row) rest) (not_here (v ∷ row) 0 word rest l e)

-- the next word is another one: as many are begun as the table has
pub fewer_begun : (row : List (List ℕ)) (n begun : ℕ) (word : List ℕ) → 0 < n → n < length row → bytes_eq (get_or row n []) word ≡ false → IsShorter row n begun → (rest : List (List ℕ)) → stand_in row (take n row ++ word ∷ rest) ≡ stand_in row (take begun row ++ word ∷ rest)
fewer_begun [] n begun word some l e s rest = absurd (omega (arith, l))
fewer_begun (v ∷ row) zero begun word some l e s rest = absurd (omega (arith, some))
fewer_begun (v ∷ row) (suc n) begun word some l e s rest =
    ap (λ b. b || stand_in (v ∷ row) (take n row ++ word ∷ rest)) (not_here (v ∷ row) (suc n) word rest l e) ∙ s.same (word ∷ rest)

-- the next word is this one
pub one_more : (row : List (List ℕ)) (n : ℕ) (word : List ℕ) (rest : List (List ℕ)) → n < length row → bytes_eq (get_or row n []) word ≡ true → take n row ++ word ∷ rest ≡ take (n + 1) row ++ rest
one_more row n word rest l e =
    let same = (bytes_eq-Decides (get_or row n []) word).0 e in
    ap (λ w. take n row ++ w ∷ rest) (sym same) ∙ sym (append_assoc (take n row) (get_or row n [] ∷ []) rest)
    ∙ ap (λ ws. ws ++ rest) (sym (take_more row n [] l))

-- ---- from one word to the next
pub nothing_read : (row : List (List ℕ)) (n : ℕ) → Continues row n [] n
nothing_read row n = λ rest. refl

pub more_read : (row : List (List ℕ)) (a b c : ℕ) (xs ys : List (List ℕ)) → Continues row a xs b → Continues row b ys c → Continues row a (xs ++ ys) c
more_read row a b c xs ys f g = λ rest. ap (λ ws. stand_in row (take a row ++ ws)) (append_assoc xs ys rest) ∙ f (ys ++ rest) ∙ g rest

pub stands_whole : (row rest : List (List ℕ)) → stand_in row (take (length row) row ++ rest) ≡ true
stands_whole row rest = (phrase row (take (length row) row ++ rest)).1 ([], rest, ap (λ ws. ws ++ rest) (take_all (length row) row (omega arith)))

-- all of the row is begun: it stands there, whatever follows
pub all_read : (row : List (List ℕ)) (a : ℕ) (xs ys : List (List ℕ)) → Continues row a xs (length row) → Continues row a (xs ++ ys) (length row)
all_read row a xs ys f = λ rest. ap (λ ws. stand_in row (take a row ++ ws)) (append_assoc xs ys rest) ∙ f (ys ++ rest) ∙ stands_whole row (ys ++ rest) ∙ sym (stands_whole row rest)

-- ---- at the end
pub found : (row words : List (List ℕ)) → Continues row 0 words (length row) → true ≡ stand_in row words
found row words f = sym (ap (stand_in row) (sym (append-nil words)) ∙ f [] ∙ stands_whole row [])

too_short : (row words : List (List ℕ)) → length words < length row → stand_in row words ≡ true → ⊥
too_short row words l h =
    let s = (phrase row words).0 h in
    let n : length words ≡ length s.0 + (length row + length s.1) = ap length s.2 ∙ length-append s.0 (row ++ s.1) ∙ ap (λ k. length s.0 + k) (length-append row s.1) in
    omega (arith, l, n)

pub not_found : (row words : List (List ℕ)) (n : ℕ) → n < length row → Continues row 0 words n → false ≡ stand_in row words
not_found row words n l f =
    let few : length (take n row) < length row = let k = length-take n row in omega (arith, l, k) in
    let none : stand_in row (take n row) ≡ false = not_true _ (too_short row (take n row) few) in
    sym (ap (stand_in row) (sym (append-nil words)) ∙ f [] ∙ ap (stand_in row) (append-nil (take n row)) ∙ none)

pub no_row : (row words : List (List ℕ)) → length row ≡ 0 → true ≡ stand_in row words
no_row [] [] e = refl
no_row [] (w ∷ words) e = refl
no_row (v ∷ row) words e = absurd (omega (arith, e))

-- ---- the table
pub first_shorter : (row : List (List ℕ)) → IsShorter row 0 0
first_shorter row = record { less = λ l. absurd (omega (arith, l)); same = λ rest. refl }

pub second_shorter : (row : List (List ℕ)) → 0 < length row → IsShorter row 1 0
second_shorter [] l = absurd (omega (arith, l))
second_shorter (v ∷ row) l = record { less = λ m. omega arith; same = λ rest. refl }

front_more : (row : List (List ℕ)) (place : ℕ) → 0 < place → place < length row → drop 1 (take (place + 1) row) ≡ drop 1 (take place row) ++ get_or row place [] ∷ []
front_more [] place some l = absurd (omega (arith, l))
front_more (v ∷ row) zero some l = absurd (omega (arith, some))
front_more (v ∷ row) (suc n) some l = ap (drop 1) (take_more (v ∷ row) (suc n) [] l)

pub more_shorter : (row : List (List ℕ)) (place before begun : ℕ) (word : List ℕ) → 0 < place → place < length row → word ≡ get_or row place [] → IsShorter row place before → begun ≤ before + 1 → Continues row before (word ∷ []) begun → IsShorter row (place + 1) begun
more_shorter row place before begun word some l is s le f = record {
  less = λ m. let n = s.less some in omega (arith, n, le);
  same = λ rest.
      ap (λ ws. stand_in row (ws ++ rest)) (front_more row place some l ∙ ap (λ w. drop 1 (take place row) ++ w ∷ []) (sym is))
      ∙ ap (stand_in row) (append_assoc (drop 1 (take place row)) (word ∷ []) rest)
      ∙ s.same (word ∷ rest) ∙ f rest;
}

-- ---- lent words
pub text_of : (row : List (Bor (List ℕ))) (n : ℕ) (other : Bor (List ℕ)) → n < length row → (get_or row n other).now ≡ get_or (texts row) n []
text_of [] n d l = absurd (omega (arith, l))
text_of (y ∷ row) zero d l = refl
text_of (y ∷ row) (suc n) d l = text_of row n d (omega (arith, l))

pub was_false : (b : Bool) → not b ≡ true → b ≡ false
was_false true e = sym e
was_false false e = refl

pub was_true : (b : Bool) → not b ≡ false → b ≡ true
was_true true e = refl
was_true false e = sym e

-- all of the row is begun after some of the words
pub ended : (row : List (List ℕ)) (a n : ℕ) (all xs ys : List (List ℕ)) → all ≡ xs ++ ys → n ≡ length row → Continues row a xs n → Continues row a all n
ended row a n all xs ys e full f =
    let whole = all_read row a xs ys (subst (λ k. Continues row a xs k) full f) in
    subst (λ ws. Continues row a ws n) (sym e) (subst (λ k. Continues row a (xs ++ ys) k) (sym full) whole)

-- ---- part by part
pub parted : (s : List ℕ) (at end : ℕ) → words (drop at s) ≡ words (slice_range s at end) ++ words (drop end s) → words_of (drop at s) ≡ words_of (slice_range s at end) ++ words_of (drop end s)
unfolding words_of
parted s at end e = ap (map folded) e ∙ map-append folded (words (slice_range s at end)) (words (drop end s))

pub no_words : words_of [] ≡ []
unfolding words_of
no_words = ap (map folded) words_nil

-- the parts before a place are read
pub record IsPartedAt (row : List (List ℕ)) (s : List ℕ) (begun at left : ℕ) : Type 0 where
  pub done : List (List ℕ)
  pub split : words_of s ≡ done ++ words_of (drop at s)
  pub read : Continues row begun done left

pub part_read : (row : List (List ℕ)) (s part : List ℕ) (begun at end left more : ℕ) → part ≡ slice_range s at end → words (drop at s) ≡ words (slice_range s at end) ++ words (drop end s)
    → Continues row left (words_of part) more → IsPartedAt row s begun at left → IsPartedAt row s begun end more
part_read row s part begun at end left more cut apart step r =
    let rest = words_of (drop end s) in
    let next : words_of (drop at s) ≡ words_of part ++ rest = parted s at end apart ∙ ap (λ t. words_of t ++ rest) (sym cut) in
    record {
      done = r.done ++ words_of part;
      split = r.split ∙ ap (λ ws. r.done ++ ws) next ∙ sym (append_assoc r.done (words_of part) rest);
      read = more_read row begun left more r.done (words_of part) r.read step;
    }

-- behind the last part nothing is left
pub all_parts : (row : List (List ℕ)) (s : List ℕ) (begun at left : ℕ) → length s ≤ at → IsPartedAt row s begun at left → Continues row begun (words_of s) left
all_parts row s begun at left end r =
    let all : words_of s ≡ r.done = r.split ∙ ap (λ ws. r.done ++ ws) (ap words_of (drop_all at s end) ∙ no_words) ∙ append-nil r.done in
    subst (λ ws. Continues row begun ws left) (sym all) r.read

-- a list around one of its items
around : {X : Type 0} (xs : List X) (n : ℕ) (x : X) → n < length xs → x ≡ get_or xs n x → xs ≡ (take n xs ++ x ∷ []) ++ drop (n + 1) xs
around [] n x l e = absurd (omega (arith, l))
around (y ∷ xs) zero x l e = ap (λ z. z ∷ xs) (sym e)
around (y ∷ xs) (suc n) x l e =
    let k : suc n + 1 ≡ suc (n + 1) = omega arith in
    let P : ℕ → Type 0 = λ m. y ∷ xs ≡ (take (suc n) (y ∷ xs) ++ x ∷ []) ++ drop m (y ∷ xs) in
    subst P (sym k) (ap (λ zs. y ∷ zs) (around xs n x (omega (arith, l)) e))

-- the words around a piece
pub pieces_around : {B : Type 0} (f : B → List ℕ) (all : List B) (seen : List B) (x : B) → seen ≡ take (length seen) all → length seen < length all → x ≡ get_or all (length seen) x → map f all ≡ (map f seen ++ f x ∷ []) ++ map f (drop (length seen + 1) all)
pieces_around f all seen x so_far l e =
    let n = length seen in
    ap (map f) (around all n x l e ∙ ap (λ xs. (xs ++ x ∷ []) ++ drop (n + 1) all) (sym so_far))
    ∙ map-append f (seen ++ x ∷ []) (drop (n + 1) all) ∙ ap (λ xs. xs ++ map f (drop (n + 1) all)) (map-append f seen (x ∷ []))

-- ---- the table so far, and one place more
front_of : (xs : List ℕ) (x i : ℕ) → i < length xs → get_or (xs ++ x ∷ []) i 0 ≡ get_or xs i 0
front_of [] x i l = absurd (omega (arith, l))
front_of (y ∷ xs) x zero l = refl
front_of (y ∷ xs) x (suc i) l = front_of xs x i (omega (arith, l))

last_of : (xs : List ℕ) (x : ℕ) → get_or (xs ++ x ∷ []) (length xs) 0 ≡ x
last_of [] x = refl
last_of (y ∷ xs) x = last_of xs x

table_on : (b : Bool) (row : List (List ℕ)) (table : List ℕ) (begun place : ℕ) → nat_lt place (length table) ≡ b → AreShorter row table → IsShorter row (length table) begun → place < length (table ++ begun ∷ []) → IsShorter row place (get_or (table ++ begun ∷ []) place 0)
table_on true row table begun place e h s l =
    let within = ltb-true place (length table) e in
    subst (λ n. IsShorter row place n) (sym (front_of table begun place within)) (h place within)
table_on false row table begun place e h s l =
    let behind = ltb-false place (length table) e in
    let many = length-append table (begun ∷ []) in
    let here : place ≡ length table = omega (arith, l, behind, many) in
    subst (λ k. IsShorter row k (get_or (table ++ begun ∷ []) k 0)) (sym here) (subst (λ n. IsShorter row (length table) n) (sym (last_of table begun)) s)

pub table_more : (row : List (List ℕ)) (table : List ℕ) (begun : ℕ) → AreShorter row table → IsShorter row (length table) begun → AreShorter row (table ++ begun ∷ [])
table_more row table begun h s place l = table_on (nat_lt place (length table)) row table begun place refl h s l
