-- For crates above: the words that begin with a prefix, as the dictionary of documents has them.
use Rattle.std.proofs.Common.{◌≡◌, ◌∙◌, ◌<◌, ◌||◌, ℕ, Bool, true, false, true≢false, cond, Less, List, [], ◌∷◌, length, Result, Ok, Err, Some, refl, sym, ap, subst}
use Rattle.std.specs.Cmp.Lexicographic.{slice_cmp}
use Rattle.std.specs.Global.{Vec}
use Rattle.std.specs.List.{AllByRecursion, list_any}
use Rattle.std.specs.List.Sorted.{IsStrictlySortedBy}
use Rattle.std.specs.Ordering.{is_eq, nat_cmp}
use Rattle.std.specs.Str.{bytes_eq}
use Rattle.std.proofs.lemmas.Map.Text.{is_eq-slice_cmp}
use Rattle.std.proofs.lemmas.Slice.Eq.{bytes_eq-Decides}
use Rattle.pk_dict.specs.declared.entry.Entry.{Entry}
use Rattle.pk_dict.specs.Dictionary.{Item, entry_of, items_with_prefix}
use Rattle.pk_dict.specs.Dictionary.{terms_of as item_terms}
use Rattle.pk_model.specs.Collection.{Doc}
use Rattle.pk_model.specs.Terms.{terms_of}
use Rattle.pk_model.specs.Tree.{begins_with}
use Rattle.pk_model.proofs.TermLemmas.{rising_terms, term_has}
use Rattle.pk_posting.specs.declared.fault.ReadFault.{ReadFault}
use Rattle.pk_segment.specs.Indexed.{items_of, list_with}
use Rattle.pk_segment.specs.Listing.{HasPrefixAs, IsEntryFor, LeadsTo, TermsAs}
use Rattle.pk_segment.proofs.IndexLemmas.{all_items, items_words, leads}

-- all words begin with nothing
pub all_with_prefix : (docs : List Doc) (result : Result (Vec (Vec ℕ × Entry)) ReadFault) → HasPrefixAs docs [] result → TermsAs docs result
all_with_prefix docs (Ok terms) says = says ∙ all_items (items_of docs)
all_with_prefix docs (Err fault) says = says

-- ---- EACH ITEM leads to the list of its term
other_word : (v w : List ℕ) → slice_cmp nat_cmp v w ≡ Less → bytes_eq v w ≡ false
other_word v w lt = sym (is_eq-slice_cmp v w) ∙ ap is_eq lt

later : (i : Item) (is xs : List Item) → AllByRecursion (λ (w : List ℕ). slice_cmp nat_cmp i.term w ≡ Less) (item_terms xs) → AllByRecursion (λ (x : Item). entry_of is x.term ≡ Some x.entry) xs
    → AllByRecursion (λ (x : Item). entry_of (i ∷ is) x.term ≡ Some x.entry) xs
later i is [] low all = tt
later i is (x ∷ xs) low all = (rw (other_word i.term x.term low.0) all.0, later i is xs low.1 all.1)

entries_own : (is : List Item) → IsStrictlySortedBy (slice_cmp nat_cmp) (item_terms is) → AllByRecursion (λ (x : Item). entry_of is x.term ≡ Some x.entry) is
unfolding IsStrictlySortedBy
entries_own [] rise = tt
entries_own (i ∷ is) rise = (rw ((bytes_eq-Decides i.term i.term).1 refl) refl, later i is is rise.0 (entries_own is rise.1))

abbrev Leads : List Doc → Item → Type 0
Leads docs x = LeadsTo docs x.term x.entry

each_leads : (docs : List Doc) (xs : List Item) → AllByRecursion (λ (x : Item). entry_of (items_of docs) x.term ≡ Some x.entry) xs → AllByRecursion (Leads docs) xs
each_leads docs [] all = tt
each_leads docs (x ∷ xs) all = (subst (IsEntryFor docs x.term) all.0 (leads docs x.term), each_leads docs xs all.1)

items_lead : (docs : List Doc) → AllByRecursion (Leads docs) (items_of docs)
items_lead docs =
    let rise = subst (λ (ws : List (List ℕ)). IsStrictlySortedBy (slice_cmp nat_cmp) ws) (sym (items_words docs 0 (terms_of docs))) (rising_terms docs) in
    each_leads docs (items_of docs) (entries_own (items_of docs) rise)

-- ---- THOSE that begin so
-- a word leads to its list, and begins so
abbrev pub LeadsWithPrefix : List Doc → List ℕ → Item → Type 0
LeadsWithPrefix docs prefix x = LeadsTo docs x.term x.entry × (begins_with prefix x.term ≡ true)

kept_head : (docs : List Doc) (prefix : List ℕ) (x : Item) (xs : List Item) (b : Bool) → begins_with prefix x.term ≡ b → Leads docs x → AllByRecursion (LeadsWithPrefix docs prefix) xs
    → AllByRecursion (LeadsWithPrefix docs prefix) (cond b (x ∷ xs) xs)
kept_head docs prefix x xs true e l rest = ((l, e), rest)
kept_head docs prefix x xs false e l rest = rest

kept_lead : (docs : List Doc) (prefix : List ℕ) (xs : List Item) → AllByRecursion (Leads docs) xs → AllByRecursion (LeadsWithPrefix docs prefix) (items_with_prefix prefix xs)
kept_lead docs prefix [] all = tt
kept_lead docs prefix (x ∷ xs) all = kept_head docs prefix x (items_with_prefix prefix xs) (begins_with prefix x.term) refl all.0 (kept_lead docs prefix xs all.1)

-- the words that begin so lead to their lists
pub prefix_lead : (docs : List Doc) (prefix : List ℕ) → AllByRecursion (LeadsWithPrefix docs prefix) (items_with_prefix prefix (items_of docs))
prefix_lead docs prefix = kept_lead docs prefix (items_of docs) (items_lead docs)

or_right : (a b : Bool) → b ≡ true → (a || b) ≡ true
or_right true b e = refl
or_right false b e = e

any_kept_head : (prefix word : List ℕ) → begins_with prefix word ≡ true → (x : Item) (xs : List Item) (same begins : Bool) → bytes_eq word x.term ≡ same → begins_with prefix x.term ≡ begins
    → (same || list_any (bytes_eq word) (item_terms xs)) ≡ true → (list_any (bytes_eq word) (item_terms xs) ≡ true → list_any (bytes_eq word) (item_terms (items_with_prefix prefix xs)) ≡ true)
    → list_any (bytes_eq word) (item_terms (cond begins (x ∷ items_with_prefix prefix xs) (items_with_prefix prefix xs))) ≡ true
any_kept_head prefix word e x xs true true s b h more = ap (λ c. c || list_any (bytes_eq word) (item_terms (items_with_prefix prefix xs))) s
any_kept_head prefix word e x xs true false s b h more = absurd (true≢false (sym e ∙ ap (begins_with prefix) ((bytes_eq-Decides word x.term).0 s) ∙ b))
any_kept_head prefix word e x xs false true s b h more = or_right (bytes_eq word x.term) (list_any (bytes_eq word) (item_terms (items_with_prefix prefix xs))) (more h)
any_kept_head prefix word e x xs false false s b h more = more h

any_kept : (prefix word : List ℕ) → begins_with prefix word ≡ true → (xs : List Item) → list_any (bytes_eq word) (item_terms xs) ≡ true → list_any (bytes_eq word) (item_terms (items_with_prefix prefix xs)) ≡ true
any_kept prefix word e [] h = h
any_kept prefix word e (x ∷ xs) h = any_kept_head prefix word e x xs (bytes_eq word x.term) (begins_with prefix x.term) refl refl h (any_kept prefix word e xs)

-- a word that a document has, and that begins so, is among them
pub prefix_every : (docs : List Doc) (prefix word : List ℕ) → begins_with prefix word ≡ true → 0 < length (list_with word docs) → list_any (bytes_eq word) (item_terms (items_with_prefix prefix (items_of docs))) ≡ true
prefix_every docs prefix word begins some =
    any_kept prefix word begins (items_of docs) (ap (list_any (bytes_eq word)) (items_words docs 0 (terms_of docs)) ∙ term_has word docs some)
