-- A text parted at the first byte that a search found.
use Rattle.std.proofs.Common.{◌≡◌, ◌≢◌, ◌≤◌, ◌<◌, ◌+◌, ℕ, zero, suc, Bool, true, false, cond, ◌||◌, Some, None, List, [], ◌∷◌, ◌++◌, get_or, length, take, drop, refl, sym, ap, ◌∙◌, subst, arith, eq-eqb, eqb-true}
use Rattle.std.specs.Prelude.{◌==◌, codes}
use Rattle.std.specs.List.{flat_map, AllByRecursion}
use Rattle.std.proofs.Math.Seq.{take-length}
use Rattle.std.proofs.lemmas.List.{take_more, take-append-drop}
use Rattle.memchr.specs.Find.{IsFirstByte, Nowhere, Passes, is_byte, is_byte2}
use Rattle.pk_shell.specs.Lines.{HasNoFeed}
use Rattle.pk_shell.specs.ReplyText.{escaped}

-- what holds where the test fails holds of each byte of a front in which it fails
front_all : (test : ℕ → Bool) (P : ℕ → Type 0) → ((b : ℕ) → (test b ≡ true → ⊥) → P b)
    → (hay : List ℕ) (k : ℕ) → Nowhere (Passes test hay) 0 k → k ≤ length hay
    → AllByRecursion P (take k hay)
front_all test P f [] zero none within = tt
front_all test P f [] (suc k) none within = absurd (omega (arith, within))
front_all test P f (b ∷ bs) zero none within = tt
front_all test P f (b ∷ bs) (suc k) none within = (
  f b (none 0 (omega arith) (omega arith)),
  front_all test P f bs k (λ j low high. none (suc j) (omega arith) (omega (arith, high))) (omega (arith, within)),
)

split_at : (hay : List ℕ) (k : ℕ) → k < length hay
    → hay ≡ (take k hay ++ get_or hay k 0 ∷ []) ++ drop (k + 1) hay
split_at hay k within =
    sym (take-append-drop (k + 1) hay) ∙ ap (λ t. t ++ drop (k + 1) hay) (take_more hay k 0 within)

-- THE FIRST LINE FEED
no_feed_byte : (b : ℕ) → (is_byte 10 b ≡ true → ⊥) → b ≢ 10
no_feed_byte b not e = not (eq-eqb b 10 e)

pub no_feed_before : (hay : List ℕ) (k : ℕ) → IsFirstByte (is_byte 10) hay (Some k)
    → HasNoFeed (take k hay)
no_feed_before hay k found =
    front_all (is_byte 10) (λ b. b ≢ 10) no_feed_byte hay k found.0.before (omega (arith, found.0.high))

pub split_at_feed : (hay : List ℕ) (k : ℕ) → IsFirstByte (is_byte 10) hay (Some k)
    → hay ≡ (take k hay ++ 10 ∷ []) ++ drop (k + 1) hay
split_at_feed hay k found =
    split_at hay k found.0.high
    ∙ ap (λ b. (take k hay ++ b ∷ []) ++ drop (k + 1) hay) (eqb-true (get_or hay k 0) 10 found.1)

pub no_feed_at_all : (hay : List ℕ) → IsFirstByte (is_byte 10) hay None → HasNoFeed hay
no_feed_at_all hay none =
    subst HasNoFeed (take-length hay)
    (front_all (is_byte 10) (λ b. b ≢ 10) no_feed_byte hay (length hay) none (omega arith))

-- THE FIRST BYTE TO BE ESCAPED
as_it_is : (feed slash : Bool) (b : ℕ) → ((feed || slash) ≡ true → ⊥)
    → cond feed (codes "\\n") (cond slash (codes "\\\\") (b ∷ [])) ≡ b ∷ []
as_it_is true slash b not = absurd (not refl)
as_it_is false true b not = absurd (not refl)
as_it_is false false b not = refl

not_escaped : (b : ℕ) → (is_byte2 10 92 b ≡ true → ⊥) → escaped b ≡ b ∷ []
not_escaped b not = as_it_is (b == 10) (b == 92) b not

same_bytes : (bytes : List ℕ) → AllByRecursion (λ b. escaped b ≡ b ∷ []) bytes → flat_map escaped bytes ≡ bytes
same_bytes [] all = refl
same_bytes (b ∷ bs) all = ap (λ t. t ++ flat_map escaped bs) all.0 ∙ ap (λ t. b ∷ t) (same_bytes bs all.1)

pub same_before : (hay : List ℕ) (k : ℕ) → IsFirstByte (is_byte2 10 92) hay (Some k)
    → flat_map escaped (take k hay) ≡ take k hay
same_before hay k found =
    same_bytes (take k hay)
    (front_all (is_byte2 10 92) (λ b. escaped b ≡ b ∷ []) not_escaped hay k found.0.before (omega (arith, found.0.high)))

pub split_at_escape : (hay : List ℕ) (k : ℕ) → IsFirstByte (is_byte2 10 92) hay (Some k)
    → hay ≡ (take k hay ++ get_or hay k 0 ∷ []) ++ drop (k + 1) hay
split_at_escape hay k found = split_at hay k found.0.high

pub same_at_all : (hay : List ℕ) → IsFirstByte (is_byte2 10 92) hay None → flat_map escaped hay ≡ hay
same_at_all hay none =
    same_bytes hay
    (subst (AllByRecursion (λ b. escaped b ≡ b ∷ [])) (take-length hay)
    (front_all (is_byte2 10 92) (λ b. escaped b ≡ b ∷ []) not_escaped hay (length hay) none (omega arith)))
