-- The live numbers in the list of a word, and what is cut from live numbers by it.
use Rattle.std.proofs.Common.{◌≡◌, ◌∙◌, ◌&&◌, ◌<◌, ℕ, List, Bool, true, false, length, get_or, refl, sym, ap}
use Rattle.std.specs.Borrow.{Bor}
use Rattle.std.specs.List.Sorted.{IsStrictlyIncreasing}
use Rattle.std.proofs.lemmas.List.Kept.{IsStrictlyIncreasing-filter}
use Rattle.pk_model.specs.Collection.{Doc, numbers_of}
use Rattle.pk_plan.proofs.FoundLemmas.{found_same}
use Rattle.pk_model.specs.Tree.{Term}
use Rattle.pk_plan.proofs.WordLemmas.{word_there}
use Rattle.pk_plan.specs.Plans.{Both, Everything, Operation, found, word_at}
use Rattle.pk_plan.specs.Words.{texts}
use Rattle.pk_sets.proofs.CallerLemmas.{has_intersection, same_members}
use Rattle.pk_sets.proofs.PartLemmas.{rising_all}
use Rattle.pk_sets.specs.Sets.{has, intersection}
use Rattle.pk_index.specs.Index.{Keeps, Rows, list_of}
use Rattle.pk_index.proofs.HitLemmas.{answer_is}

pub word_live : (rows : Rows) (docs : List Doc) (words : List (Bor (List ℕ))) (place : ℕ) (other : Bor (List ℕ)) (list : List ℕ) → place < length words → list ≡ list_of rows (get_or words place other).now → Keeps rows docs
    → intersection (numbers_of docs) list ≡ found (word_at (texts words) place) docs
word_live rows docs words place other list lt is keeps =
    let word = (get_or words place other).now in
    ap (intersection (numbers_of docs)) is ∙ answer_is (Term word) (numbers_of docs) (list_of rows word) docs refl (keeps.each word)
    ∙ sym (ap (λ (o : Operation). found o docs) (word_there words place other lt))

within : (f l i : Bool) → f ≡ (l && f) → (f && i) ≡ (f && (l && i))
within true true i e = refl
within true false i e = absurd (let k : true ≡ false = e in cc)
within false l i e = refl

pub cut_is : (o x : Operation) (list ns : List ℕ) (docs : List Doc) → IsStrictlyIncreasing (numbers_of docs) → IsStrictlyIncreasing ns → ns ≡ found o docs → intersection (numbers_of docs) list ≡ found x docs
    → intersection ns list ≡ found (Both o x) docs
cut_is o x list ns docs h rises is same =
    let live = numbers_of docs in
    let hit = found x docs in
    let inside : ns ≡ intersection live ns = is ∙ found_same o (Both Everything o) (λ words. refl) docs h ∙ ap (intersection live) (sym is) in
    same_members (intersection ns list) (intersection ns hit) (rising_all _ (IsStrictlyIncreasing-filter (has list) ns rises)) (rising_all _ (IsStrictlyIncreasing-filter (has hit) ns rises))
    (λ n. (
    has_intersection ns list n
    ∙ within (has ns n) (has live n) (has list n) (ap (λ xs. has xs n) inside ∙ has_intersection live ns n)
    ∙ ap (λ b. has ns n && b) (sym (has_intersection live list n) ∙ ap (λ xs. has xs n) same)
    ∙ sym (has_intersection ns hit n)))
    ∙ ap (λ xs. intersection xs hit) is
