-- The words of a query at their places.
use Rattle.std.proofs.Common.{◌≡◌, ◌∙◌, ◌+◌, ◌<◌, ◌≤◌, ℕ, zero, suc, List, [], ◌∷◌, ◌++◌, length, get_or, ◌&&◌, ◌||◌, not, reverse, refl, sym, ap, ap₂, arith, append_assoc, append-nil, length-append, length-take, length-drop, get_or-take, get_or-drop, take, drop, map, Bool, true, false, cond, nat_lt, true≢false}
use Rattle.std.proofs.Math.Seq.{take-append_seam, drop-append_seam}
use Rattle.std.proofs.lemmas.List.{get_or_default, length-reverse, reverse-append, reverse-reverse}
use Rattle.std.specs.Borrow.{Bor}
use Rattle.std.proofs.lemmas.Bool.{le-ltb, ltb-false}
use Rattle.pk_model.proofs.TreeLemmas.{each}
use Rattle.pk_model.specs.Tree.{Tree, Term, Phrase, Prefix, And, Or, Not, satisfies}
use Rattle.pk_plan.specs.Operands.{query_takes}
use Rattle.pk_plan.specs.Plans.{WithPrefix, Holding, InRow, Nothing, prefix_at, row_at, takes, word_at}
use Rattle.pk_plan.specs.Words.{leaves, texts}

-- the word at a place, and none past the end
pub word_there : (words : List (Bor (List ℕ))) (place : ℕ) (other : Bor (List ℕ)) → place < length words → word_at (texts words) place ≡ Holding (get_or words place other).now
word_there [] place other lt = absurd (omega arith)
word_there (w ∷ words) zero other lt = refl
word_there (w ∷ words) (suc place) other lt = word_there words place other (omega arith)

pub no_word_there : (words : List (Bor (List ℕ))) (place : ℕ) → length words ≤ place → word_at (texts words) place ≡ Nothing
no_word_there [] place le = refl
no_word_there (w ∷ words) zero le = absurd (omega arith)
no_word_there (w ∷ words) (suc place) le = no_word_there words place (omega arith)

-- the word at a place of a phrase
pub same_row : {S : Type 0} (f : S → List ℕ) (xs : List S) (n : ℕ) (x : S) → n < length xs → x ≡ get_or xs n x → f x ≡ get_or (map f xs) n []
same_row f [] n x l e = absurd (omega arith)
same_row f (y ∷ xs) zero x l e = ap f e
same_row f (y ∷ xs) (suc n) x l e = same_row f xs n x (omega arith) e

-- words that were put the last one first, turned
pub texts_append : (a b : List (Bor (List ℕ))) → texts (a ++ b) ≡ texts a ++ texts b
texts_append [] b = refl
texts_append (w ∷ a) b = ap (λ ws. w.now ∷ ws) (texts_append a b)

texts_reverse : (words : List (Bor (List ℕ))) → texts (reverse words) ≡ reverse (texts words)
texts_reverse [] = refl
texts_reverse (w ∷ words) =
    ap texts (reverse-append (w ∷ []) words) ∙ texts_append (reverse words) (w ∷ [])
    ∙ ap (λ ws. ws ++ w.now ∷ []) (texts_reverse words) ∙ sym (reverse-append (w.now ∷ []) (texts words))

pub turned : (words back : List (Bor (List ℕ))) (ls : List (List ℕ)) → back ≡ reverse words → texts words ≡ reverse ls
    → texts (take (length words) (back ++ drop (length back) words)) ≡ ls
turned words back ls is put =
    let same : length words ≡ length back = sym (ap length is ∙ length-reverse words) in
    ap (λ n. texts (take n (back ++ drop (length back) words))) same
    ∙ ap texts (take-append_seam back (drop (length back) words))
    ∙ ap texts is ∙ texts_reverse words ∙ ap reverse put ∙ reverse-reverse ls

-- the word behind others
word_behind : (before : List (List ℕ)) (word : List ℕ) (behind : List (List ℕ)) → word_at (before ++ word ∷ behind) (length before) ≡ Holding word
word_behind [] word behind = refl
word_behind (w ∷ before) word behind = word_behind before word behind

prefix_behind : (before : List (List ℕ)) (word : List ℕ) (behind : List (List ℕ)) → prefix_at (before ++ word ∷ behind) (length before) ≡ WithPrefix word
prefix_behind [] word behind = refl
prefix_behind (w ∷ before) word behind = prefix_behind before word behind

-- the words of a phrase behind others
row_behind : (before row behind : List (List ℕ)) → row_at (before ++ (row ++ behind)) (length before) (length row) ≡ InRow row
row_behind before row behind =
    let all = before ++ (row ++ behind) in
    let rest = drop (length before) all in
    let n : length all ≡ length before + (length row + length behind) = length-append before (row ++ behind) ∙ ap (λ k. length before + k) (length-append row behind) in
    ap (λ b. cond b Nothing (InRow (take (length row) rest))) (le-ltb (length all) (length before + length row) (omega (arith, n)))
    ∙ ap (λ ws. InRow (take (length row) ws)) (drop-append_seam before (row ++ behind)) ∙ ap InRow (take-append_seam row behind)

-- the word at a place before the end
word_here : (words : List (List ℕ)) (place : ℕ) → place < length words → word_at words place ≡ Holding (get_or words place [])
word_here [] place l = absurd (omega arith)
word_here (w ∷ words) zero l = refl
word_here (w ∷ words) (suc place) l = word_here words place (omega arith)

row_has_on : (b : Bool) (asked words : List (List ℕ)) (first count i : ℕ) → nat_lt (length asked) (first + count) ≡ b → takes (cond b Nothing (InRow (take count (drop first asked)))) words ≡ true → i < count → takes (word_at asked (first + i)) words ≡ true
row_has_on true asked words first count i e h l = absurd (true≢false (sym h))
row_has_on false asked words first count i e h l =
    let row = take count (drop first asked) in
    let word = get_or asked (first + i) [] in
    let within : first + count ≤ length asked = ltb-false (length asked) (first + count) e in
    let a = length-take count (drop first asked) in
    let b = length-drop first asked in
    let there : i < length row = omega (arith, l, within, a, b) in
    let same : get_or row i word ≡ word = get_or-take count (drop first asked) i word l ∙ get_or-drop first asked i word ∙ get_or_default asked (first + i) word [] (omega (arith, l, within)) in
    ap (λ o. takes o words) (word_here asked (first + i) (omega (arith, l, within))) ∙ each row words word h (i, there, same)

-- where a phrase stands, each of its words is
pub row_has : (asked words : List (List ℕ)) (first count i : ℕ) → takes (row_at asked first count) words ≡ true → i < count → takes (word_at asked (first + i)) words ≡ true
row_has asked words first count i = row_has_on (nat_lt (length asked) (first + count)) asked words first count i refl

-- each side of a query at its place
on_left : (left right : List (List ℕ)) (query : Tree) (words : List (List ℕ)) → ((before behind : List (List ℕ)) → query_takes (before ++ (left ++ behind)) words (length before) query ≡ satisfies query words)
    → (before behind : List (List ℕ)) → query_takes (before ++ ((left ++ right) ++ behind)) words (length before) query ≡ satisfies query words
on_left left right query words placed before behind =
    ap (λ ws. query_takes (before ++ ws) words (length before) query) (append_assoc left right behind) ∙ placed before (right ++ behind)

on_right : (left right : List (List ℕ)) (query : Tree) (words : List (List ℕ)) → ((before behind : List (List ℕ)) → query_takes (before ++ (right ++ behind)) words (length before) query ≡ satisfies query words)
    → (before behind : List (List ℕ)) → query_takes (before ++ ((left ++ right) ++ behind)) words (length before + length left) query ≡ satisfies query words
on_right left right query words placed before behind =
    let moved : before ++ ((left ++ right) ++ behind) ≡ (before ++ left) ++ (right ++ behind) = ap (λ ws. before ++ ws) (append_assoc left right behind) ∙ sym (append_assoc before left (right ++ behind)) in
    ap₂ (λ ws n. query_takes ws words n query) moved (sym (length-append before left)) ∙ placed (before ++ left) behind

-- where the words of a query stand behind others, it takes just what satisfies it
placed : (query : Tree) (words before behind : List (List ℕ)) → query_takes (before ++ (leaves query ++ behind)) words (length before) query ≡ satisfies query words
placed (Term word) words before behind = ap (λ o. takes o words) (word_behind before word behind)
placed (Phrase row) words before behind = ap (λ o. takes o words) (row_behind before row behind)
placed (Prefix prefix) words before behind = ap (λ o. takes o words) (prefix_behind before prefix behind)
placed (And left right) words before behind =
    ap₂ (λ a b. a && b) (on_left (leaves left) (leaves right) left words (placed left words) before behind) (on_right (leaves left) (leaves right) right words (placed right words) before behind)
placed (Or left right) words before behind =
    ap₂ (λ a b. a || b) (on_left (leaves left) (leaves right) left words (placed left words) before behind) (on_right (leaves left) (leaves right) right words (placed right words) before behind)
placed (Not part) words before behind = ap not (placed part words before behind)

-- by its own words a query takes just what satisfies it
pub by_its_words : (query : Tree) (words : List (List ℕ)) → query_takes (leaves query) words 0 query ≡ satisfies query words
by_its_words query words = ap (λ ws. query_takes ws words 0 query) (sym (append-nil (leaves query))) ∙ placed query words [] []
