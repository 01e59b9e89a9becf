-- What a number noted at words leaves: none, one word, and one list of words behind another.
use Rattle.std.proofs.Common.{◌≡◌, ℕ, ◌<◌, ◌||◌, Bool, true, false, cond, List, [], ◌∷◌, ◌++◌, refl, sym, ap, ◌∙◌, All, append-nil, Result, Ok, Err, OnErr}
use Rattle.std.specs.List.{list_any}
use Rattle.std.specs.Str.{bytes_eq}
use Rattle.std.proofs.lemmas.List.Folds.{list_any-append}
use Rattle.pk_index.specs.Index.{Rows, list_of}
use Rattle.pk_index.specs.Lists.{Adds, IsBelow, Notes, is_last, with_last}
use Rattle.pk_index.proofs.LastLemmas.{last_there, not_last}
use Rattle.pk_index.proofs.TableLemmas.{or_false, turned}

pub no_words_noted : (n : ℕ) (lists : Rows) → Notes [] n lists lists
no_words_noted n lists word = refl

-- a list that ends in n stays
stays : (n : ℕ) (xs : List ℕ) → is_last n xs ≡ true → with_last n xs ≡ xs
stays n xs e = ap (λ b. cond b xs (xs ++ n ∷ [])) e

noted_once : (n : ℕ) (xs : List ℕ) (b : Bool) → is_last n xs ≡ b → with_last n (cond b xs (xs ++ n ∷ [])) ≡ cond b xs (xs ++ n ∷ [])
noted_once n xs true e = stays n xs e
noted_once n xs false e = stays n (xs ++ n ∷ []) (last_there xs n)

noted_twice : (a b : Bool) (n : ℕ) (xs : List ℕ) → cond b (with_last n (cond a (with_last n xs) xs)) (cond a (with_last n xs) xs) ≡ cond (a || b) (with_last n xs) xs
noted_twice true true n xs = noted_once n xs (is_last n xs) refl
noted_twice true false n xs = refl
noted_twice false true n xs = refl
noted_twice false false n xs = refl

pub more_noted : (ws vs : List (List ℕ)) (n : ℕ) (old mid new : Rows) → Notes ws n old mid → Notes vs n mid new → Notes (ws ++ vs) n old new
more_noted ws vs n old mid new first second word =
    let xs = list_of old word in
    let a = list_any (bytes_eq word) ws in
    let b = list_any (bytes_eq word) vs in
    second word ∙ ap (λ m. cond b (with_last n m) m) (first word) ∙ noted_twice a b n xs
    ∙ ap (λ c. cond c (with_last n xs) xs) (sym (list_any-append (bytes_eq word) ws vs))

-- the words noted so far, and one more
pub one_noted : (ws : List (List ℕ)) (w : List ℕ) (n : ℕ) (old mid new : Rows) → Notes ws n old mid
    → ((word : List ℕ) → list_of new word ≡ cond (bytes_eq w word) (with_last n (list_of mid word)) (list_of mid word)) → Notes (ws ++ w ∷ []) n old new
one_noted ws w n old mid new first second =
    more_noted ws (w ∷ []) n old mid new first
    (λ word. second word ∙ ap (λ b. cond b (with_last n (list_of mid word)) (list_of mid word)) (sym (or_false (bytes_eq word w) ∙ turned word w)))

-- a number above all others stands behind the lists
put_behind : (b : Bool) (n : ℕ) (xs : List ℕ) → All (λ k. k < n) xs → cond b (with_last n xs) xs ≡ xs ++ cond b (n ∷ []) []
put_behind true n xs h = ap (λ c. cond c xs (xs ++ n ∷ [])) (not_last xs n h)
put_behind false n xs h = sym (append-nil xs)

pub noted_adds : (ws : List (List ℕ)) (n : ℕ) (old new : Rows) → IsBelow n old → Notes ws n old new → Adds ws n old new
noted_adds ws n old new below noted word = noted word ∙ put_behind (list_any (bytes_eq word) ws) n (list_of old word) (below word)

pub on_err : {T E : Type 0} (r : Result T E) (P : Type 0) → P → OnErr r P
on_err (Ok x) P p = tt
on_err (Err e) P p = p
