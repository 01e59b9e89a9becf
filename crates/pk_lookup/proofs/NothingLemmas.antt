-- What finds nothing: an intersection with a part that does, and a union of parts that do.
use Rattle.std.proofs.Common.{◌≡◌, ◌∙◌, ◌<◌, ◌++◌, ℕ, zero, suc, false, List, [], ◌∷◌, Option, Some, None, ap, arith, get_or, length, map, refl, slice_index}
use Rattle.std.specs.Option.{is_some}
use Rattle.pk_dict.specs.declared.entry.Entry.{Entry}
use Rattle.pk_model.specs.Collection.{Doc}
use Rattle.pk_plan.specs.Plans.{Operation, Both, Without, both_all, either_all, found, word_at}
use Rattle.pk_sets.specs.Sets.{difference, intersection, union}
use Rattle.pk_lookup.proofs.ListLemmas.{cut_by_none}

-- no entry
pub none_from : (o : Option Entry) → is_some o ≡ false → o ≡ None
none_from None e = refl
none_from (Some entry) e = absurd (cc)

-- one of the words at the places is in no document
pub one_nothing : (words : List (List ℕ)) (docs : List Doc) (places : List ℕ) (i : ℕ) (os : List Operation) → i < length places → found (word_at words (slice_index places i)) docs ≡ []
    → found (both_all (map (word_at words) places ++ os)) docs ≡ []
one_nothing words docs [] i os lt none = absurd (omega arith)
one_nothing words docs (p ∷ places) zero os lt none = ap (λ (ns : List ℕ). intersection ns (found (both_all (map (word_at words) places ++ os)) docs)) none
one_nothing words docs (p ∷ places) (suc i) os lt none = cut_by_none (found (word_at words p) docs) (found (both_all (map (word_at words) places ++ os)) docs) (one_nothing words docs places i os (omega arith) none)

-- each of these finds nothing
pub all_nothing : {X : Type 0} (f : X → Operation) (docs : List Doc) (xs : List X) → ((i : ℕ) (x : X) → i < length xs → x ≡ get_or xs i x → found (f x) docs ≡ []) → found (either_all (map f xs)) docs ≡ []
all_nothing f docs [] each = refl
all_nothing f docs (x ∷ xs) each =
    ap (λ (ns : List ℕ). union ns (found (either_all (map f xs)) docs)) (each zero x (omega arith) refl)
    ∙ all_nothing f docs xs (λ i y lt at. each (suc i) y (omega arith) at)

pub both_nothing : (docs : List Doc) (left right : Operation) → found left docs ≡ [] → found (Both left right) docs ≡ []
both_nothing docs left right none = ap (λ (ns : List ℕ). intersection ns (found right docs)) none

pub without_nothing : (docs : List Doc) (left right : Operation) → found left docs ≡ [] → found (Without left right) docs ≡ []
without_nothing docs left right none = ap (λ (ns : List ℕ). difference ns (found right docs)) none
