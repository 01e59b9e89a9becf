-- How long and how deep a query may be, in words over texts, and the tests that the code makes.
use Rattle.std.specs.Prelude.{◌≡◌, ◌⊎◌, ◌||◌, nat_lt, ℕ, ◌+◌, ◌<◌, ◌≤◌, Bool, true, false, List, []}
use Rattle.std.specs.Prelude.{◌∷◌, ◌++◌, length, count_by, replicate}
use Rattle.pk_query.specs.Tokens.{Token, Open, Close, NotWord, tokens}
use Rattle.pk_query.specs.Limits.{max_bytes, max_depth}

-- the token is `(`
abbrev pub is_open : Token → Bool
is_open Open = true
is_open _ = false

-- the token is `)`
abbrev pub is_close : Token → Bool
is_close Close = true
is_close _ = false

-- up to some token the `(` exceed the `)` by more than 64
abbrev pub NestsTooDeep : List Token → Type 0
NestsTooDeep ts = (before : List Token) × (others : List Token) × (ts ≡ before ++ others)
    × (count_by is_close before + max_depth < count_by is_open before)

-- more than 64 NOT stand in a row
abbrev pub HasLongNots : List Token → Type 0
HasLongNots ts = (before : List Token) × (n : ℕ) × (others : List Token)
    × (ts ≡ before ++ (replicate n NotWord ++ others)) × (max_depth < n)

-- the text has more bytes than a query may have
abbrev pub IsTooLong : List ℕ → Type 0
IsTooLong text = max_bytes < length text

-- too many brackets are open at a token, or too many NOT stand in a row
abbrev pub IsTooDeep : List ℕ → Type 0
IsTooDeep text = NestsTooDeep (tokens text) ⊎ HasLongNots (tokens text)

-- neither too long nor too deep
pub record IsWithinLimits (text : List ℕ) : Type 0 where
  pub short : length text ≤ max_bytes
  pub flat : IsTooDeep text → ⊥

-- the test for brackets, where there were so many `(` and `)` before
abbrev pub nests_too_deep : ℕ → ℕ → List Token → Bool
nests_too_deep opens closes [] = nat_lt (closes + max_depth) opens
nests_too_deep opens closes (Open ∷ ts) = nat_lt (closes + max_depth) opens
    || nests_too_deep (opens + 1) closes ts
nests_too_deep opens closes (Close ∷ ts) = nat_lt (closes + max_depth) opens
    || nests_too_deep opens (closes + 1) ts
nests_too_deep opens closes (_ ∷ ts) = nat_lt (closes + max_depth) opens
    || nests_too_deep opens closes ts

-- the test for NOTs, where there were so many just before
abbrev pub has_long_nots : ℕ → List Token → Bool
has_long_nots nots [] = nat_lt max_depth nots
has_long_nots nots (NotWord ∷ ts) = nat_lt max_depth nots || has_long_nots (nots + 1) ts
has_long_nots nots (_ ∷ ts) = nat_lt max_depth nots || has_long_nots 0 ts
