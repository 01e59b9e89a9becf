-- Words in a row, in the text of the document of a number.
use Rattle.std.proofs.Common.{◌≡◌, ◌∙◌, ◌≤◌, take, drop, ◌&&◌, ◌||◌, ℕ, zero, suc, Bool, true, false, true≢false, cond, nat_eq, List, [], ◌∷◌, Option, Some, None, All, Result, Err, String, Global, string_bytes, eq-eqb, refl, sym, ap, subst, arith}
use Rattle.std.specs.Prelude.{IsErrAnd, IsUtf8, MatchResult, find, slice_get}
use Rattle.std.specs.List.Sorted.{IsStrictlyIncreasing}
use Rattle.std.specs.Option.{option_map}
use Rattle.std.proofs.lemmas.Bool.{eqb-false, ne_eqb}
use Rattle.std.proofs.lemmas.Result.{err_from_is_err_and}
use Rattle.pk_model.specs.Collection.{Doc, answer, has_number, numbers_of}
use Rattle.pk_model.specs.Tree.{Phrase, stand_in}
use Rattle.pk_model.specs.Words.{words_of}
use Rattle.pk_plan.proofs.FoundLemmas.{found_same, hit_here, hit_later}
use Rattle.pk_plan.specs.Plans.{Both, Everything, Operation, found}
use Rattle.pk_posting.specs.declared.fault.ReadFault.{ReadFault}
use Rattle.pk_segment.specs.Directory.{doc_in}
use Rattle.pk_segment.specs.Reading.{IsNoDamage, text_of}
use Rattle.pk_segment.specs.Spelling.{AreDocuments}
use Rattle.pk_segment.proofs.ReadLemmas.{text_is}
use Rattle.std.proofs.lemmas.List.{take-take}
use Rattle.std.proofs.lemmas.Option.{slice_get_within}
use Rattle.pk_phrase.specs.Hits.{IsTextFor}
use Rattle.pk_phrase.specs.Lent.{LiesAs}
use Rattle.pk_sets.proofs.CallerLemmas.{has_intersection}
use Rattle.pk_sets.proofs.IntersectionLemmas.{Rising, eq_true}
use Rattle.pk_sets.specs.Sets.{has, intersection}

abbrev bytes_in : Option Doc → Option (List ℕ)
bytes_in d = option_map (λ (x : Doc). x.text) d

-- ---- ITS TEXT, by the document
number_is : (n : ℕ) (d : Doc) (b : Bool) → nat_eq n d.number ≡ b → has_number n d ≡ b
number_is n d true e = eq-eqb d.number n (sym (eq_true n d.number e))
number_is n d false e = ne_eqb d.number n (λ same. eqb-false n d.number e (sym same))

stands_head : (row : List (List ℕ)) (d : Doc) (docs : List Doc) (n : ℕ) (t : List ℕ) (b : Bool) → nat_eq n d.number ≡ b → Rising (numbers_of (d ∷ docs))
    → bytes_in (cond b (Some d) (find (has_number n) docs)) ≡ Some t → (text_of docs n ≡ Some t → stand_in row (words_of t) ≡ has (answer (Phrase row) docs) n)
    → stand_in row (words_of t) ≡ has (answer (Phrase row) (d ∷ docs)) n
stands_head row d docs n t true e r is more =
    let same : d.text ≡ t = cc in
    ap (λ x. stand_in row (words_of x)) (sym same) ∙ sym (hit_here (Phrase row) d docs n r e)
stands_head row d docs n t false e r is more = more is ∙ sym (hit_later (Phrase row) d docs n e)

pub stands_text : (row : List (List ℕ)) (docs : List Doc) (n : ℕ) (t : List ℕ) → Rising (numbers_of docs) → text_of docs n ≡ Some t → stand_in row (words_of t) ≡ has (answer (Phrase row) docs) n
stands_text row [] n t r is = absurd (cc)
stands_text row (d ∷ docs) n t r is =
    stands_head row d docs n t (nat_eq n d.number) refl r (ap (λ b. bytes_in (cond b (Some d) (find (has_number n) docs))) (sym (number_is n d (nat_eq n d.number) refl)) ∙ is) (stands_text row docs n t r.1)

-- a number that a document has is not without a text
some_head : (d : Doc) (docs : List Doc) (n : ℕ) (b : Bool) → nat_eq n d.number ≡ b → has (numbers_of (d ∷ docs)) n ≡ true
    → bytes_in (cond b (Some d) (find (has_number n) docs)) ≡ None → (has (numbers_of docs) n ≡ true → text_of docs n ≡ None → ⊥) → ⊥
some_head d docs n true e h is more = cc
some_head d docs n false e h is more = more (sym (ap (λ b. b || has (numbers_of docs) n) e) ∙ h) is

some_text : (docs : List Doc) (n : ℕ) → has (numbers_of docs) n ≡ true → text_of docs n ≡ None → ⊥
some_text [] n h is = true≢false (sym h)
some_text (d ∷ docs) n h is = some_head d docs n (nat_eq n d.number) refl h (ap (λ b. bytes_in (cond b (Some d) (find (has_number n) docs))) (sym (number_is n d (nat_eq n d.number) refl)) ∙ is) (some_text docs n)

pub none_missing : (docs : List Doc) (n : ℕ) (found : Option (String Global)) → has (numbers_of docs) n ≡ true → option_map (λ (t : String Global). string_bytes t) found ≡ text_of docs n → found ≡ None → ⊥
none_missing docs n found h says is = some_text docs n h (sym says ∙ ap (option_map (λ (t : String Global). string_bytes t)) is)

-- ---- ITS TEXT, by a place
got_doc : (docs : List Doc) (i : ℕ) (d : Doc) → slice_get docs i ≡ Some d → doc_in docs i ≡ d
got_doc [] i d e = absurd (cc)
got_doc (x ∷ docs) zero d e = cc
got_doc (x ∷ docs) (suc i) d e = got_doc docs i d e

-- the document at a place is that of its number
pub text_got : (docs : List Doc) (i n : ℕ) (d : Doc) → AreDocuments docs → slice_get docs i ≡ Some d → d.number ≡ n → Some d.text ≡ text_of docs n
text_got docs i n d are got same =
    let e = got_doc docs i d got in
    text_is docs i n d.text are (slice_get_within docs i d got) (sym same ∙ ap (λ (x : Doc). x.number) (sym e)) (ap (λ (x : Doc). x.text) (sym e))

-- a text at the front of bytes that are lent
pub text_first : (content bytes : List ℕ) (docs : List Doc) (number len : ℕ) (place : ℕ × ℕ) → LiesAs content docs number place → bytes ≡ take len (drop place.0 content) → place.1 ≤ len
    → IsTextFor docs number (take place.1 bytes)
text_first content bytes docs number len place lies is few =
    let cut : take place.1 bytes ≡ take place.1 (drop place.0 content) = ap (take place.1) is ∙ take-take place.1 len (drop place.0 content) few in
    record {
      utf8 = subst IsUtf8 (sym cut) lies.utf8;
      same = lies.same ∙ ap Some (sym cut);
    }

-- ---- NUMBERS that an operation finds
left : (b c : Bool) → (b && c) ≡ true → b ≡ true
left true c e = refl
left false c e = e

all_has : (live xs : List ℕ) → ((n : ℕ) → has xs n ≡ true → has live n ≡ true) → All (λ n. has live n ≡ true) xs
all_has live [] f k d l = absurd (omega arith)
all_has live (x ∷ xs) f zero d l = f x (ap (λ b. b || has xs x) (eq-eqb x x refl))
all_has live (x ∷ xs) f (suc k) d l = all_has live xs (λ n e. f n (or_right (nat_eq n x) (has xs n) e)) k d (omega arith)
  where
    or_right : (a b : Bool) → b ≡ true → (a || b) ≡ true
    or_right true b e = refl
    or_right false b e = e

-- each is that of a document
pub found_live : (o : Operation) (docs : List Doc) (ns : List ℕ) → IsStrictlyIncreasing (numbers_of docs) → ns ≡ found o docs → All (λ n. has (numbers_of docs) n ≡ true) ns
found_live o docs ns h is = all_has (numbers_of docs) ns (λ n e.
    let among : ns ≡ intersection (numbers_of docs) ns = is ∙ found_same o (Both Everything o) (λ words. refl) docs h ∙ ap (intersection (numbers_of docs)) (sym is) in
    left (has (numbers_of docs) n) (has ns n) (sym (has_intersection (numbers_of docs) ns n) ∙ ap (λ xs. has xs n) (sym among) ∙ e))

-- ---- FAULTS that are passed on
pub fault_passed : {T : Type 0} (P : T → Type 0) (r : Result T ReadFault) (fault : ReadFault) → IsErrAnd r (λ y. y ≡ fault) → IsNoDamage fault → MatchResult r P IsNoDamage
fault_passed P r fault is cause =
    let p = err_from_is_err_and r is in
    subst (λ x. MatchResult x P IsNoDamage) (sym (p.1 ∙ ap Err p.2)) cause
