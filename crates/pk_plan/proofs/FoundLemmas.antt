-- What an operation finds are the numbers of the documents that it takes.
use Rattle.std.proofs.Common.{◌≡◌, ◌<◌, ℕ, List, [], ◌∷◌, Bool, true, false, cond, not, ◌&&◌, ◌||◌, nat_eq, refl, sym, ap, ap₂, subst, ◌∙◌}
use Rattle.std.specs.Prelude.{filter}
use Rattle.std.specs.List.Sorted.{IsStrictlyIncreasing}
use Rattle.std.specs.Simd.Lanes.{Each1}
use Rattle.pk_model.specs.Collection.{Doc, answer, is_hit, numbers_of}
use Rattle.pk_model.specs.Tree.{Tree, satisfies}
use Rattle.pk_model.specs.Words.{words_of}
use Rattle.pk_model.proofs.CollectionLemmas.{numbers-filter, rising-filter}
use Rattle.pk_sets.specs.Sets.{difference, has, intersection, union}
use Rattle.pk_sets.proofs.CallerLemmas.{has_difference, has_intersection, has_union, same_members, union_rises}
use Rattle.pk_sets.proofs.IntersectionLemmas.{Rising, eq_true, none_above}
use Rattle.pk_sets.proofs.PartLemmas.{rising_all}
use Rattle.pk_plan.specs.Plans.{Operation, Holding, InRow, WithPrefix, Everything, Nothing, Both, Either, Without, found, takes}

-- the numbers of the documents that pass a test
abbrev passing : (Doc → Bool) → List Doc → List ℕ
passing test docs = numbers_of (filter test docs)

here : (kept : Bool) (d : Doc) (ds : List Doc) (n : ℕ) → nat_eq n d.number ≡ true → has (numbers_of ds) n ≡ false → has (numbers_of (cond kept (d ∷ ds) ds)) n ≡ kept
here true d ds n e h = ap (λ b. b || has (numbers_of ds) n) e
here false d ds n e h = h

there : (kept : Bool) (d : Doc) (ds : List Doc) (n : ℕ) → nat_eq n d.number ≡ false → has (numbers_of (cond kept (d ∷ ds) ds)) n ≡ has (numbers_of ds) n
there true d ds n e = ap (λ b. b || has (numbers_of ds) n) e
there false d ds n e = refl

above_one : (kept : Bool) (x : ℕ) (d : Doc) (ds : List Doc) → x < d.number → Each1 (λ y. x < y) (numbers_of ds) → Each1 (λ y. x < y) (numbers_of (cond kept (d ∷ ds) ds))
above_one true x d ds l a = (l, a)
above_one false x d ds l a = a

above : (test : Doc → Bool) (x : ℕ) (docs : List Doc) → Each1 (λ y. x < y) (numbers_of docs) → Each1 (λ y. x < y) (passing test docs)
above test x [] a = a
above test x (d ∷ docs) a = above_one (test d) x d (filter test docs) a.0 (above test x docs a.1)

none_here : (test : Doc → Bool) (d : Doc) (docs : List Doc) (n : ℕ) → Rising (numbers_of (d ∷ docs)) → nat_eq n d.number ≡ true → has (passing test docs) n ≡ false
none_here test d docs n r e = ap (has (passing test docs)) (eq_true n d.number e) ∙ none_above d.number (passing test docs) (above test d.number docs r.0)

-- two tests joined, at a first document
at_head : (f : Bool → Bool → Bool) (p q : Doc → Bool) (d : Doc) (docs : List Doc) (n : ℕ) (b : Bool) → nat_eq n d.number ≡ b → Rising (numbers_of (d ∷ docs))
    → has (passing (λ e. f (p e) (q e)) docs) n ≡ f (has (passing p docs) n) (has (passing q docs) n)
    → has (passing (λ e. f (p e) (q e)) (d ∷ docs)) n ≡ f (has (passing p (d ∷ docs)) n) (has (passing q (d ∷ docs)) n)
at_head f p q d docs n true e r h =
    here (f (p d) (q d)) d (filter (λ e. f (p e) (q e)) docs) n e (none_here (λ e. f (p e) (q e)) d docs n r e)
    ∙ sym (ap₂ f (here (p d) d (filter p docs) n e (none_here p d docs n r e)) (here (q d) d (filter q docs) n e (none_here q d docs n r e)))
at_head f p q d docs n false e r h =
    there (f (p d) (q d)) d (filter (λ e. f (p e) (q e)) docs) n e ∙ h
    ∙ sym (ap₂ f (there (p d) d (filter p docs) n e) (there (q d) d (filter q docs) n e))

-- a number is there just as the answers of the two tests say
joined : (f : Bool → Bool → Bool) → f false false ≡ false → (p q : Doc → Bool) (docs : List Doc) → Rising (numbers_of docs) → (n : ℕ)
    → has (passing (λ d. f (p d) (q d)) docs) n ≡ f (has (passing p docs) n) (has (passing q docs) n)
joined f z p q [] r n = sym z
joined f z p q (d ∷ docs) r n = at_head f p q d docs n (nat_eq n d.number) refl r (joined f z p q docs r.1 n)

filter_rises : (test : ℕ → Bool) (docs : List Doc) → IsStrictlyIncreasing (numbers_of docs) → Rising (filter test (numbers_of docs))
filter_rises test docs h = rw (numbers-filter test docs) at (rising_all (numbers_of (filter (λ d. test d.number) docs)) (rising-filter (λ d. test d.number) docs h))

passing_rises : (test : Doc → Bool) (docs : List Doc) → IsStrictlyIncreasing (numbers_of docs) → Rising (passing test docs)
passing_rises test docs h = rising_all (passing test docs) (rising-filter test docs h)

both : (p q : Doc → Bool) (docs : List Doc) → IsStrictlyIncreasing (numbers_of docs) → intersection (passing p docs) (passing q docs) ≡ passing (λ d. p d && q d) docs
both p q docs h =
    same_members (intersection (passing p docs) (passing q docs)) (passing (λ d. p d && q d) docs) (filter_rises (has (passing q docs)) (filter p docs) (rising-filter p docs h))
    (passing_rises (λ d. p d && q d) docs h)
    (λ n. has_intersection (passing p docs) (passing q docs) n ∙ sym (joined (λ b c. b && c) refl p q docs (rising_all (numbers_of docs) h) n))

either : (p q : Doc → Bool) (docs : List Doc) → IsStrictlyIncreasing (numbers_of docs) → union (passing p docs) (passing q docs) ≡ passing (λ d. p d || q d) docs
either p q docs h =
    same_members (union (passing p docs) (passing q docs)) (passing (λ d. p d || q d) docs) (rising_all (union (passing p docs) (passing q docs)) (union_rises (passing p docs) (passing q docs) (rising-filter q docs h)))
    (passing_rises (λ d. p d || q d) docs h)
    (λ n. has_union (passing p docs) (passing q docs) n ∙ sym (joined (λ b c. b || c) refl p q docs (rising_all (numbers_of docs) h) n))

without : (p q : Doc → Bool) (docs : List Doc) → IsStrictlyIncreasing (numbers_of docs) → difference (passing p docs) (passing q docs) ≡ passing (λ d. p d && not (q d)) docs
without p q docs h =
    same_members (difference (passing p docs) (passing q docs)) (passing (λ d. p d && not (q d)) docs) (filter_rises (λ x. not (has (passing q docs) x)) (filter p docs) (rising-filter p docs h))
    (passing_rises (λ d. p d && not (q d)) docs h)
    (λ n. has_difference (passing p docs) (passing q docs) n ∙ sym (joined (λ b c. b && not c) refl p q docs (rising_all (numbers_of docs) h) n))

all_pass : (docs : List Doc) → numbers_of docs ≡ passing (λ d. true) docs
all_pass [] = refl
all_pass (d ∷ docs) = ap (λ ns. d.number ∷ ns) (all_pass docs)

none_pass : (docs : List Doc) → [] ≡ passing (λ d. false) docs
none_pass [] = refl
none_pass (d ∷ docs) = none_pass docs

-- the documents that an operation takes
abbrev taken : Operation → Doc → Bool
taken o d = takes o (words_of d.text)

found_is : (o : Operation) (docs : List Doc) → IsStrictlyIncreasing (numbers_of docs) → found o docs ≡ passing (taken o) docs
found_is (Holding word) docs h = refl
found_is (InRow row) docs h = refl
found_is (WithPrefix prefix) docs h = refl
found_is Everything docs h = all_pass docs
found_is Nothing docs h = none_pass docs
found_is (Both left right) docs h = ap₂ intersection (found_is left docs h) (found_is right docs h) ∙ both (taken left) (taken right) docs h
found_is (Either left right) docs h = ap₂ union (found_is left docs h) (found_is right docs h) ∙ either (taken left) (taken right) docs h
found_is (Without left right) docs h = ap₂ difference (found_is left docs h) (found_is right docs h) ∙ without (taken left) (taken right) docs h

same_filter : (p q : Doc → Bool) → ((d : Doc) → p d ≡ q d) → (docs : List Doc) → filter p docs ≡ filter q docs
same_filter p q e [] = refl
same_filter p q e (d ∷ docs) = ap₂ (λ b ds. cond b (d ∷ ds) ds) (e d) (same_filter p q e docs)

-- an operation that takes what satisfies the query finds the answer
pub found_answer : (o : Operation) (query : Tree) → ((words : List (List ℕ)) → takes o words ≡ satisfies query words) → (docs : List Doc) → IsStrictlyIncreasing (numbers_of docs) → found o docs ≡ answer query docs
found_answer o query same docs h = found_is o docs h ∙ ap numbers_of (same_filter (taken o) (is_hit query) (λ d. same (words_of d.text)) docs)

-- operations that take the same find the same
pub found_same : (a b : Operation) → ((words : List (List ℕ)) → takes a words ≡ takes b words) → (docs : List Doc) → IsStrictlyIncreasing (numbers_of docs) → found a docs ≡ found b docs
found_same a b same docs h = found_is a docs h ∙ ap numbers_of (same_filter (taken a) (taken b) (λ d. same (words_of d.text)) docs) ∙ sym (found_is b docs h)

-- whether a number is found, by the document that has it
pub hit_here : (query : Tree) (d : Doc) (docs : List Doc) (n : ℕ) → Rising (numbers_of (d ∷ docs)) → nat_eq n d.number ≡ true → has (answer query (d ∷ docs)) n ≡ is_hit query d
hit_here query d docs n r e = here (is_hit query d) d (filter (is_hit query) docs) n e (none_here (is_hit query) d docs n r e)

pub hit_later : (query : Tree) (d : Doc) (docs : List Doc) (n : ℕ) → nat_eq n d.number ≡ false → has (answer query (d ∷ docs)) n ≡ has (answer query docs) n
hit_later query d docs n e = there (is_hit query d) d (filter (is_hit query) docs) n e

-- what an operation finds rises
pub found_rises : (o : Operation) (docs : List Doc) → IsStrictlyIncreasing (numbers_of docs) → IsStrictlyIncreasing (found o docs)
found_rises o docs h = subst IsStrictlyIncreasing (sym (found_is o docs h)) (rising-filter (taken o) docs h)
