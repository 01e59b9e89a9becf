-- For crates above: what is found of the beginning of a word, by the lists of the words that begin so; and what stands at the places of a query.
use Rattle.std.proofs.Common.{◌≡◌, ◌∙◌, ◌<◌, ◌≤◌, ◌+◌, ◌||◌, ◌⊎◌, inl, inr, ℕ, zero, suc, Bool, true, false, true≢false, cond, nat_eq, nat_lt, List, [], ◌∷◌, length, get_or, take, drop, refl, sym, ap, arith}
use Rattle.std.specs.Borrow.{Bor}
use Rattle.std.specs.Prelude.{filter}
use Rattle.std.specs.List.{list_any}
use Rattle.std.specs.List.Sorted.{IsStrictlyIncreasing}
use Rattle.std.specs.Str.{bytes_eq}
use Rattle.std.proofs.lemmas.Bool.{le-ltb}
use Rattle.std.proofs.lemmas.Bool.Decides.{nat_tests}
use Rattle.std.proofs.lemmas.Slice.Eq.{bytes_eq-Decides}
use Rattle.pk_model.specs.Collection.{Doc, answer, is_hit, numbers_of}
use Rattle.pk_model.specs.Tree.{Prefix, Term, begins_with}
use Rattle.pk_model.specs.Words.{words_of}
use Rattle.pk_model.proofs.CollectionLemmas.{rising-filter}
use Rattle.pk_sets.specs.Sets.{has}
use Rattle.pk_sets.proofs.CallerLemmas.{same_members}
use Rattle.pk_sets.proofs.PartLemmas.{rising_all}
use Rattle.pk_plan.specs.Plans.{WithPrefix, InRow, Nothing, prefix_at, row_at}
use Rattle.pk_plan.specs.Words.{texts}

-- ---- TRUTH
one_of : (a b : Bool) → (a || b) ≡ true → (a ≡ true) ⊎ (b ≡ true)
one_of true b h = inl refl
one_of false b h = inr h

or_left : (a b : Bool) → a ≡ true → (a || b) ≡ true
or_left a b e = ap (λ x. x || b) e

or_right : (a b : Bool) → b ≡ true → (a || b) ≡ true
or_right true b e = refl
or_right false b e = e

same_truth : (a b : Bool) → (a ≡ true → b ≡ true) → (b ≡ true → a ≡ true) → a ≡ b
same_truth true b f g = sym (f refl)
same_truth false true f g = g refl
same_truth false false f g = refl

-- ---- WORDS that begin so
word_begins : (prefix word : List ℕ) → begins_with prefix word ≡ true → (words : List (List ℕ)) → list_any (bytes_eq word) words ≡ true → list_any (begins_with prefix) words ≡ true
word_begins prefix word e [] h = h
word_begins prefix word e (v ∷ words) h = elim (one_of (bytes_eq word v) (list_any (bytes_eq word) words) h) [
  | inl same ↦ or_left (begins_with prefix v) (list_any (begins_with prefix) words) (ap (begins_with prefix) (sym ((bytes_eq-Decides word v).0 same)) ∙ e)
  | inr more ↦ or_right (begins_with prefix v) (list_any (begins_with prefix) words) (word_begins prefix word e words more)
]

prefix_word : (prefix : List ℕ) (words : List (List ℕ)) → list_any (begins_with prefix) words ≡ true → (word : List ℕ) × (begins_with prefix word ≡ true) × (list_any (bytes_eq word) words ≡ true)
prefix_word prefix [] h = absurd (true≢false (sym h))
prefix_word prefix (v ∷ words) h = elim (one_of (begins_with prefix v) (list_any (begins_with prefix) words) h) [
  | inl here ↦ (v, here, or_left (bytes_eq v v) (list_any (bytes_eq v) words) ((bytes_eq-Decides v v).1 refl))
  | inr later ↦ (let w = prefix_word prefix words later in (w.0, w.1, or_right (bytes_eq w.0 v) (list_any (bytes_eq w.0) words) w.2))
]

-- ---- DOCUMENTS that pass a test
kept_head : (p q : Bool) (d : Doc) (xs ys : List Doc) (n : ℕ) → (p ≡ true → q ≡ true) → (has (numbers_of xs) n ≡ true → has (numbers_of ys) n ≡ true)
    → has (numbers_of (cond p (d ∷ xs) xs)) n ≡ true → has (numbers_of (cond q (d ∷ ys) ys)) n ≡ true
kept_head true true d xs ys n f g h = elim (one_of (nat_eq n d.number) (has (numbers_of xs) n) h) [
  | inl here ↦ or_left (nat_eq n d.number) (has (numbers_of ys) n) here
  | inr later ↦ or_right (nat_eq n d.number) (has (numbers_of ys) n) (g later)
]
kept_head true false d xs ys n f g h = absurd (true≢false (sym (f refl)))
kept_head false true d xs ys n f g h = or_right (nat_eq n d.number) (has (numbers_of ys) n) (g h)
kept_head false false d xs ys n f g h = g h

kept_by : (p q : Doc → Bool) → ((d : Doc) → p d ≡ true → q d ≡ true) → (docs : List Doc) (n : ℕ) → has (numbers_of (filter p docs)) n ≡ true → has (numbers_of (filter q docs)) n ≡ true
kept_by p q f [] n h = h
kept_by p q f (d ∷ docs) n h = kept_head (p d) (q d) d (filter p docs) (filter q docs) n (f d) (kept_by p q f docs n) h

here_in : (b : Bool) (d : Doc) (xs : List Doc) (n : ℕ) → b ≡ true → nat_eq n d.number ≡ true → has (numbers_of (cond b (d ∷ xs) xs)) n ≡ true
here_in true d xs n e same = or_left (nat_eq n d.number) (has (numbers_of xs) n) same
here_in false d xs n e same = absurd (true≢false (sym e))

later_in : (b : Bool) (d : Doc) (xs : List Doc) (n : ℕ) → has (numbers_of xs) n ≡ true → has (numbers_of (cond b (d ∷ xs) xs)) n ≡ true
later_in true d xs n h = or_right (nat_eq n d.number) (has (numbers_of xs) n) h
later_in false d xs n h = h

-- a word that begins so, and has the number
abbrev pub HasPrefix : List ℕ → List Doc → ℕ → Type 0
HasPrefix prefix docs n = (word : List ℕ) × (begins_with prefix word ≡ true) × (has (answer (Term word) docs) n ≡ true)

prefix_later : (prefix : List ℕ) (d : Doc) (docs : List Doc) (n : ℕ) → HasPrefix prefix docs n → HasPrefix prefix (d ∷ docs) n
prefix_later prefix d docs n w = (w.0, w.1, later_in (is_hit (Term w.0) d) d (filter (is_hit (Term w.0)) docs) n w.2)

prefix_head : (prefix : List ℕ) (d : Doc) (docs : List Doc) (n : ℕ) (hit : Bool) → is_hit (Prefix prefix) d ≡ hit → (has (answer (Prefix prefix) docs) n ≡ true → HasPrefix prefix docs n)
    → has (numbers_of (cond hit (d ∷ filter (is_hit (Prefix prefix)) docs) (filter (is_hit (Prefix prefix)) docs))) n ≡ true → HasPrefix prefix (d ∷ docs) n
prefix_head prefix d docs n true e more h = elim (one_of (nat_eq n d.number) (has (answer (Prefix prefix) docs) n) h) [
  | inl here ↦ (let w = prefix_word prefix (words_of d.text) e in (w.0, w.1, here_in (is_hit (Term w.0) d) d (filter (is_hit (Term w.0)) docs) n w.2 here))
  | inr later ↦ prefix_later prefix d docs n (more later)
]
prefix_head prefix d docs n false e more h = prefix_later prefix d docs n (more h)

with_prefix_of : (prefix : List ℕ) (docs : List Doc) (n : ℕ) → has (answer (Prefix prefix) docs) n ≡ true → HasPrefix prefix docs n
with_prefix_of prefix [] n h = absurd (true≢false (sym h))
with_prefix_of prefix (d ∷ docs) n h = prefix_head prefix d docs n (is_hit (Prefix prefix) d) refl (with_prefix_of prefix docs n) h

-- the numbers of all words that begin so are the answer
pub prefix_found : (prefix ns : List ℕ) (docs : List Doc) → IsStrictlyIncreasing (numbers_of docs) → IsStrictlyIncreasing ns
    → ((n : ℕ) → has ns n ≡ true → HasPrefix prefix docs n)
    → ((n : ℕ) → HasPrefix prefix docs n → has ns n ≡ true)
    → ns ≡ answer (Prefix prefix) docs
prefix_found prefix ns docs h rises some all =
    same_members ns (answer (Prefix prefix) docs) (rising_all ns rises) (rising_all (answer (Prefix prefix) docs) (rising-filter (is_hit (Prefix prefix)) docs h))
    (λ n. same_truth (has ns n) (has (answer (Prefix prefix) docs) n)
    (λ e. let w = some n e in kept_by (is_hit (Term w.0)) (is_hit (Prefix prefix)) (λ d k. word_begins prefix w.0 w.1 (words_of d.text) k) docs n w.2)
    (λ e. all n (with_prefix_of prefix docs n e)))

-- ---- PLACES
-- what a word is to begin with, at a place, and none past the end
pub prefix_there : (words : List (Bor (List ℕ))) (place : ℕ) (other : Bor (List ℕ)) → place < length words → prefix_at (texts words) place ≡ WithPrefix (get_or words place other).now
prefix_there [] place other lt = absurd (omega arith)
prefix_there (w ∷ words) zero other lt = refl
prefix_there (w ∷ words) (suc place) other lt = prefix_there words place other (omega arith)

pub no_prefix_there : (words : List (Bor (List ℕ))) (place : ℕ) → length words ≤ place → prefix_at (texts words) place ≡ Nothing
no_prefix_there [] place le = refl
no_prefix_there (w ∷ words) zero le = absurd (omega arith)
no_prefix_there (w ∷ words) (suc place) le = no_prefix_there words place (omega arith)

-- words in a row from a place on, and none where they pass the end
length_texts : (words : List (Bor (List ℕ))) → length (texts words) ≡ length words
length_texts [] = refl
length_texts (w ∷ words) = ap suc (length_texts words)

texts_drop : (n : ℕ) (words : List (Bor (List ℕ))) → texts (drop n words) ≡ drop n (texts words)
texts_drop zero words = refl
texts_drop (suc n) [] = refl
texts_drop (suc n) (w ∷ words) = texts_drop n words

texts_take : (n : ℕ) (words : List (Bor (List ℕ))) → texts (take n words) ≡ take n (texts words)
texts_take zero words = refl
texts_take (suc n) [] = refl
texts_take (suc n) (w ∷ words) = ap (λ ws. w.now ∷ ws) (texts_take n words)

pub row_there : (words : List (Bor (List ℕ))) (first count : ℕ) → first + count ≤ length words → row_at (texts words) first count ≡ InRow (texts (take count (drop first words)))
row_there words first count le =
    ap (λ b. cond b Nothing (InRow (take count (drop first (texts words))))) (le-ltb (length (texts words)) (first + count) (omega (arith, le, length_texts words)))
    ∙ ap InRow (ap (take count) (sym (texts_drop first words)) ∙ sym (texts_take count (drop first words)))

lt_true : (a b : ℕ) → a < b → nat_lt a b ≡ true
lt_true a b l = grind (arith, nat_tests)

pub no_row_there : (words : List (Bor (List ℕ))) (first count : ℕ) → length words < first + count → row_at (texts words) first count ≡ Nothing
no_row_there words first count lt =
    ap (λ b. cond b Nothing (InRow (take count (drop first (texts words))))) (lt_true (length (texts words)) (first + count) (omega (arith, lt, length_texts words)))
