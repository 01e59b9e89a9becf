-- What operations take, as their operands grow.
use Rattle.std.proofs.Common.{◌≡◌, ℕ, List, [], ◌∷◌, ◌++◌, map, insert, Bool, true, false, ◌&&◌, ◌||◌, refl, sym, ap, ◌∙◌, zero, suc, true≢false}
use Rattle.std.proofs.lemmas.List.Folds.{list_all-append}
use Rattle.pk_plan.specs.declared.operands.PhrasePlaces.{PhrasePlaces}
use Rattle.pk_plan.specs.Operands.{phrases_take}
use Rattle.pk_plan.specs.Plans.{Operation, both_all, row_at, takes}

pub and_true : (b : Bool) → (b && true) ≡ b
and_true true = refl
and_true false = refl

pub or_false : (b : Bool) → (b || false) ≡ b
or_false true = refl
or_false false = refl

pub and_assoc : (b c d : Bool) → ((b && c) && d) ≡ (b && (c && d))
and_assoc true c d = refl
and_assoc false c d = refl

and_swap : (b c d : Bool) → (b && (c && d)) ≡ (c && (b && d))
and_swap true true d = refl
and_swap true false d = refl
and_swap false true d = refl
and_swap false false d = refl

pub or_assoc : (b c d : Bool) → ((b || c) || d) ≡ (b || (c || d))
or_assoc true c d = refl
or_assoc false c d = refl

-- one operation more among others
pub takes_more : (words : List (List ℕ)) (x : Operation) (before after : List Operation)
    → takes (both_all (before ++ x ∷ after)) words ≡ (takes x words && takes (both_all (before ++ after)) words)
takes_more words x [] after = refl
takes_more words x (y ∷ before) after =
    ap (λ b. takes y words && b) (takes_more words x before after) ∙ and_swap (takes y words) (takes x words) (takes (both_all (before ++ after)) words)

-- one word more among others
pub takes_term : (at : ℕ → Operation) (words : List (List ℕ)) (place k : ℕ) (places : List ℕ) (parts : List Operation)
    → takes (both_all (map at (insert places k place) ++ parts)) words ≡ (takes (at place) words && takes (both_all (map at places ++ parts)) words)
takes_term at words place zero places parts = refl
takes_term at words place (suc k) [] parts = refl
takes_term at words place (suc k) (p ∷ places) parts =
    ap (λ b. takes (at p) words && b) (takes_term at words place k places parts) ∙ and_swap (takes (at p) words) (takes (at place) words) (takes (both_all (map at places ++ parts)) words)

-- one phrase more behind others
pub takes_phrase : (asked words : List (List ℕ)) (phrases : List PhrasePlaces) (p : PhrasePlaces)
    → phrases_take asked words (phrases ++ p ∷ []) ≡ (phrases_take asked words phrases && takes (row_at asked p.first p.count) words)
takes_phrase asked words phrases p =
    let test : PhrasePlaces → Bool = λ q. takes (row_at asked q.first q.count) words in
    list_all-append test phrases (p ∷ []) ∙ ap (λ b. phrases_take asked words phrases && b) (and_true (test p))

-- a test that changes nothing where it holds may come first
pub and_last : (all phrases test old_all old_phrases : Bool) → (test ≡ true → (all && phrases) ≡ (old_all && old_phrases)) → (all && (phrases && test)) ≡ (test && (old_all && old_phrases))
and_last all phrases true a b h = ap (λ c. all && c) (and_true phrases) ∙ h refl
and_last true true false a b h = refl
and_last true false false a b h = refl
and_last false phrases false a b h = refl

-- a word that a document has anyway
pub and_held : (held all old : Bool) → held ≡ true → all ≡ old → (held && all) ≡ old
and_held true all old e f = f
and_held false all old e f = absurd (true≢false (sym e))
