-- The terms of documents are the words that occur in them, and there is one rising list of these.
use Rattle.std.proofs.Common.{Ordering, Less, Equal, Greater, ◌≡◌, ℕ, ◌<◌, ◌||◌, Bool, true, false, cond, List, [], ◌∷◌, length, refl, sym, ap, subst, ◌∙◌, arith}
use Rattle.std.specs.Prelude.{filter}
use Rattle.std.specs.Cmp.Lexicographic.{slice_cmp}
use Rattle.std.specs.List.{AllByRecursion, list_any}
use Rattle.std.specs.List.Sorted.{IsStrictlySortedBy}
use Rattle.std.specs.Ordering.{match_ordering, nat_cmp, ordering_reverse, is_eq}
use Rattle.std.specs.Str.{bytes_eq}
use Rattle.std.proofs.lemmas.Cmp.{nat_list_cmp_total}
use Rattle.std.proofs.lemmas.Map.Text.{is_eq-slice_cmp}
use Rattle.std.proofs.lemmas.Slice.Eq.{bytes_eq-Decides}
use Rattle.pk_model.specs.Collection.{Doc, answer, is_hit, numbers_of}
use Rattle.pk_model.specs.Terms.{AreTerms, terms_of, with_word, with_words}
use Rattle.pk_model.specs.Tree.{Term}
use Rattle.pk_model.specs.Words.{words_of}
use Rattle.pk_model.proofs.TreeLemmas.{term}

-- the order of words by their bytes
cmp : List ℕ → List ℕ → Ordering
cmp = slice_cmp nat_cmp

-- the word is one of the words
abbrev pub has : List ℕ → List (List ℕ) → Bool
has w ws = list_any (bytes_eq w) ws

-- of two words, one is less or both are the same
data Compared (w v : List ℕ) : Type 0 where
  below : slice_cmp nat_cmp w v ≡ Less → bytes_eq w v ≡ false → Compared w v
  same : slice_cmp nat_cmp w v ≡ Equal → w ≡ v → Compared w v
  above : slice_cmp nat_cmp w v ≡ Greater → slice_cmp nat_cmp v w ≡ Less → bytes_eq w v ≡ false → Compared w v

compare : (w v : List ℕ) → Compared w v
compare w v = by (slice_cmp nat_cmp w v) refl
  where
    by : (o : Ordering) → slice_cmp nat_cmp w v ≡ o → Compared w v
    by Less e = below e (sym (is_eq-slice_cmp w v) ∙ ap is_eq e)
    by Equal e = same e ((bytes_eq-Decides w v).0 (sym (is_eq-slice_cmp w v) ∙ ap is_eq e))
    by Greater e = above e (nat_list_cmp_total.antisymm v w ∙ ap ordering_reverse e) (sym (is_eq-slice_cmp w v) ∙ ap is_eq e)

-- what is below all is not among them
missing : (w : List ℕ) (vs : List (List ℕ)) → AllByRecursion (λ v. slice_cmp nat_cmp w v ≡ Less) vs → has w vs ≡ false
missing w [] all = refl
missing w (v ∷ vs) all = rw (sym (is_eq-slice_cmp w v) ∙ ap is_eq all.0) (missing w vs all.1)

-- what is below one is below what that one is below
lower : (w v : List ℕ) (vs : List (List ℕ)) → slice_cmp nat_cmp w v ≡ Less → AllByRecursion (λ x. slice_cmp nat_cmp v x ≡ Less) vs → AllByRecursion (λ x. slice_cmp nat_cmp w x ≡ Less) vs
lower w v [] lt all = tt
lower w v (x ∷ vs) lt all = (nat_list_cmp_total.trans w v x lt all.0, lower w v vs lt all.1)

-- a word put in is below nothing that it was not below
kept_below : (x w : List ℕ) (vs : List (List ℕ)) → slice_cmp nat_cmp x w ≡ Less → AllByRecursion (λ y. slice_cmp nat_cmp x y ≡ Less) vs → AllByRecursion (λ y. slice_cmp nat_cmp x y ≡ Less) (with_word w vs)
kept_below x w [] lt all = (lt, tt)
kept_below x w (v ∷ vs) lt all = at (kept_below x w vs lt all.1) (slice_cmp nat_cmp w v)
  where
    at : AllByRecursion (λ y. slice_cmp nat_cmp x y ≡ Less) (with_word w vs) → (o : Ordering) → AllByRecursion (λ y. slice_cmp nat_cmp x y ≡ Less) (match_ordering o (w ∷ v ∷ vs) (v ∷ vs) (v ∷ with_word w vs))
    at more Less = (lt, all)
    at more Equal = all
    at more Greater = (all.0, more)

-- words that rise still do with one more at its place
rising_with : (w : List ℕ) (vs : List (List ℕ)) → IsStrictlySortedBy (slice_cmp nat_cmp) vs → IsStrictlySortedBy (slice_cmp nat_cmp) (with_word w vs)
unfolding IsStrictlySortedBy
rising_with w [] rise = (tt, tt)
rising_with w (v ∷ vs) rise = elim (compare w v) [
  | below lt other ↦ rw lt ((lt, lower w v vs lt rise.0), rise)
  | same eq is ↦ rw eq rise
  | above gt lt other ↦ rw gt (kept_below v w vs lt rise.0, rising_with w vs rise.1)
]

-- the word and those that were there are there
has_with : (x w : List ℕ) (vs : List (List ℕ)) → has x (with_word w vs) ≡ (bytes_eq x w || has x vs)
has_with x w [] = refl
has_with x w (v ∷ vs) = elim (compare w v) [
  | below lt other ↦ rw lt refl
  | same eq is ↦ rw eq (subst (λ u. (bytes_eq x v || has x vs) ≡ (bytes_eq x u || (bytes_eq x v || has x vs))) (sym is) (twice (bytes_eq x v) (has x vs)))
  | above gt lt other ↦ rw gt (ap (λ b. bytes_eq x v || b) (has_with x w vs) ∙ turn (bytes_eq x v) (bytes_eq x w) (has x vs))
]
  where
    twice : (a b : Bool) → (a || b) ≡ (a || (a || b))
    twice true b = refl
    twice false b = refl

    turn : (a b c : Bool) → (a || (b || c)) ≡ (b || (a || c))
    turn true true c = refl
    turn true false c = refl
    turn false true c = refl
    turn false false c = refl

rising_words : (ws vs : List (List ℕ)) → IsStrictlySortedBy (slice_cmp nat_cmp) vs → IsStrictlySortedBy (slice_cmp nat_cmp) (with_words ws vs)
rising_words [] vs rise = rise
rising_words (w ∷ ws) vs rise = rising_with w (with_words ws vs) (rising_words ws vs rise)

has_words : (x : List ℕ) (ws vs : List (List ℕ)) → has x (with_words ws vs) ≡ (has x ws || has x vs)
has_words x [] vs = refl
has_words x (w ∷ ws) vs = has_with x w (with_words ws vs) ∙ ap (λ b. bytes_eq x w || b) (has_words x ws vs) ∙ grouped (bytes_eq x w) (has x ws) (has x vs)
  where
    grouped : (a b c : Bool) → (a || (b || c)) ≡ ((a || b) || c)
    grouped true b c = refl
    grouped false b c = refl

pub rising_terms : (docs : List Doc) → IsStrictlySortedBy (slice_cmp nat_cmp) (terms_of docs)
unfolding terms_of IsStrictlySortedBy
rising_terms [] = tt
rising_terms (d ∷ docs) = rising_words (words_of d.text) (terms_of docs) (rising_terms docs)

-- a word is a term exactly where a document has it
pub has_term : (w : List ℕ) (docs : List Doc) → has w (terms_of docs) ≡ true → 0 < length (answer (Term w) docs)
unfolding terms_of
has_term w [] there = absurd (let k : false ≡ true = there in cc)
has_term w (d ∷ docs) there = by (has_term w docs) (has w (words_of d.text)) (sym (has_words w (words_of d.text) (terms_of docs)) ∙ there)
  where
    by : (has w (terms_of docs) ≡ true → 0 < length (answer (Term w) docs)) → (b : Bool) → (b || has w (terms_of docs)) ≡ true → 0 < length (numbers_of (cond b (d ∷ filter (is_hit (Term w)) docs) (filter (is_hit (Term w)) docs)))
    by more true h = omega arith
    by more false h = more h

pub term_has : (w : List ℕ) (docs : List Doc) → 0 < length (answer (Term w) docs) → has w (terms_of docs) ≡ true
unfolding terms_of
term_has w [] some = absurd (omega arith)
term_has w (d ∷ docs) some = has_words w (words_of d.text) (terms_of docs) ∙ by (term_has w docs) (has w (words_of d.text)) some
  where
    by : (0 < length (answer (Term w) docs) → has w (terms_of docs) ≡ true) → (b : Bool) → 0 < length (numbers_of (cond b (d ∷ filter (is_hit (Term w)) docs) (filter (is_hit (Term w)) docs))) → (b || has w (terms_of docs)) ≡ true
    by more true h = refl
    by more false h = more h

pub are_terms : (docs : List Doc) → AreTerms (terms_of docs) docs
are_terms docs = record {
  rising = rising_terms docs;
  each = λ w. (
    λ h. has_term w docs ((term w (terms_of docs)).1 h),
    λ h. (term w (terms_of docs)).0 (term_has w docs h),
  );
}

-- two rising lists of the same words are the same
one_list : (xs ys : List (List ℕ)) → IsStrictlySortedBy (slice_cmp nat_cmp) xs → IsStrictlySortedBy (slice_cmp nat_cmp) ys → ((w : List ℕ) → has w xs ≡ has w ys) → xs ≡ ys
unfolding IsStrictlySortedBy
one_list [] [] rx ry all = refl
one_list [] (y ∷ ys) rx ry all = absurd (let k : false ≡ true = all y ∙ (rw ((bytes_eq-Decides y y).1 refl) refl) in cc)
one_list (x ∷ xs) [] rx ry all = absurd (let k : true ≡ false = sym (rw ((bytes_eq-Decides x x).1 refl) refl) ∙ all x in cc)
one_list (x ∷ xs) (y ∷ ys) rx ry all = elim (compare x y) [
  | below lt other ↦ absurd (let k : true ≡ false = sym (first x xs) ∙ all x ∙ missing x (y ∷ ys) (lt, lower x y ys lt ry.0) in cc)
  | above gt lt other ↦ absurd (let k : true ≡ false = sym (first y ys) ∙ sym (all y) ∙ missing y (x ∷ xs) (lt, lower y x xs lt rx.0) in cc)
  | same eq is ↦ rw is (ap (λ (vs : List (List ℕ)). y ∷ vs) (one_list xs ys rx.1 ry.1 (λ w. rest w is)))
]
  where
    first : (v : List ℕ) (vs : List (List ℕ)) → has v (v ∷ vs) ≡ true
    first v vs = rw ((bytes_eq-Decides v v).1 refl) refl

    rest : (w : List ℕ) → x ≡ y → has w xs ≡ has w ys
    rest w is = by (bytes_eq w x) refl
      where
        by : (b : Bool) → bytes_eq w x ≡ b → has w xs ≡ has w ys
        by true e =
            let here : w ≡ x = (bytes_eq-Decides w x).0 e in
            rw here (missing x xs rx.0 ∙ sym (subst (λ v. has v ys ≡ false) (sym is) (missing y ys ry.0)))
        by false e = let f : bytes_eq w y ≡ false = ap (bytes_eq w) (sym is) ∙ e in
            let both : (bytes_eq w x || has w xs) ≡ (bytes_eq w y || has w ys) = all w in
            ap (λ b. b || has w xs) (sym e) ∙ both ∙ ap (λ b. b || has w ys) f

-- so the terms of documents are one list
pub one_terms : (words : List (List ℕ)) (docs : List Doc) → AreTerms words docs → words ≡ terms_of docs
one_terms words docs is = one_list words (terms_of docs) is.rising (rising_terms docs) (λ w. by w (has w words) (has w (terms_of docs)) refl refl)
  where
    by : (w : List ℕ) (a b : Bool) → has w words ≡ a → has w (terms_of docs) ≡ b → has w words ≡ has w (terms_of docs)
    by w true true x y = x ∙ sym y
    by w false false x y = x ∙ sym y
    by w true false x y = absurd (let k : false ≡ true = sym y ∙ term_has w docs ((is.each w).0 ((term w words).0 x)) in cc)
    by w false true x y = absurd (let k : false ≡ true = sym x ∙ (term w words).1 ((is.each w).1 (has_term w docs y)) in cc)
