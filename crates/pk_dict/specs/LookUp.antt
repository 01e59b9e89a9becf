-- What a look-up answers, as a function of any bytes.
use Rattle.std.specs.Prelude.{
  ◌≡◌,
  ◌<◌,
  ◌≤◌,
  ◌+◌,
  ◌-◌,
  ◌*◌,
  ◌/◌,
  ℕ,
  zero,
  suc,
  List,
  length,
  min,
  Option,
  Some,
  None,
  Result,
  Ok,
  Err,
  nat_lt,
  nat_eq,
  if◌then◌else◌,
}
use Rattle.pk_posting.specs.declared.source.SourceFault.{SourceFault}
use Rattle.pk_posting.specs.declared.source.SourceFault.TheVariants as faults
use Rattle.pk_dict.specs.declared.entry.DictPlace.{DictPlace}
use Rattle.pk_dict.specs.declared.entry.Entry.{Entry}
use Rattle.pk_dict.specs.declared.head.Search.{Search}
use Rattle.pk_dict.specs.declared.head.Search.TheVariants.{Open, Done}
use Rattle.pk_dict.specs.declared.head.Standing.{Standing}
use Rattle.pk_dict.specs.declared.head.Standing.TheVariants.{First, After}
use Rattle.pk_dict.specs.declared.head.Step.{Step}
use Rattle.pk_dict.specs.declared.head.Step.TheVariants.{Less, Found, Past}
use Rattle.pk_dict.specs.Dictionary.{group_count}
use Rattle.pk_dict.specs.Place.{bytes_at}
use Rattle.pk_dict.specs.Reading.{◌>>=◌, group_at, scan_at}

-- how a search among the groups from low to high goes on once the first term of the one in the
-- middle was read
abbrev pub halved : (ℕ → ℕ → ℕ → ℕ → Result Standing SourceFault) → ℕ → ℕ → ℕ → ℕ → ℕ → Step
    → Result Standing SourceFault
halved more low high matched next middle (Less now after) = more (middle + 1) high now after
halved more low high matched next middle (Found entry) = Ok (First middle entry)
halved more low high matched next middle Past = more low middle matched next

-- where a term stands among the first terms of the groups, which begin at base: those below low
-- are less, the last of these shares `matched` bytes with it, and the place after that is next. It
-- takes at most n steps
unfoldable pub narrow_at : ℕ → List ℕ → ℕ → List ℕ → ℕ → ℕ → ℕ → ℕ → Result Standing SourceFault
narrow_at zero bytes base term low high matched next = Ok (After low matched next)
narrow_at (suc n) bytes base term low high matched next =
    if nat_lt low high
    then (do
      step ← group_at bytes base (low + (high - low) / 2) term
      halved (narrow_at n bytes base term) low high matched next (low + (high - low) / 2) step)
    else Ok (After low matched next)

-- where a term stands among the first terms of the groups of so many terms
abbrev pub standing_at : List ℕ → ℕ → List ℕ → Result Standing SourceFault
standing_at bytes terms term =
    narrow_at (group_count terms) bytes (4 * group_count terms) term 0 (group_count terms) 0 0

-- what the group says in which the term may be
abbrev pub scanned : List ℕ → ℕ → List ℕ → Standing → Result (Option Entry) SourceFault
scanned bytes terms term (First group entry) = Ok (Some entry)
scanned bytes terms term (After groups matched next) =
    if nat_eq groups 0 then Ok None
    else scan_at (min (terms - (16 * (groups - 1) + 1)) 15) bytes term matched next

-- what bytes say of a term, as a dictionary of so many terms: its entry, none, or damage
unfoldable pub look_up_at : List ℕ → ℕ → List ℕ → Result (Option Entry) SourceFault
look_up_at bytes terms term = standing_at bytes terms term >>= scanned bytes terms term

-- the same where the bytes lie in others: a place that goes past their end is damage
unfoldable pub look_up_of : List ℕ → DictPlace → List ℕ → Result (Option Entry) SourceFault
look_up_of content place term =
    if nat_lt (length content) (place.at + place.bytes) then Err faults.Damaged
    else look_up_at (bytes_at content place) place.terms term

-- what first terms of groups say of the groups from low to high: the last one below shares so much
-- with the term and ends before next, and the first one from high on is greater
pub record AreTold (bytes : List ℕ) (terms : ℕ) (term : List ℕ) (low high matched next : ℕ)
    : Type 0 where
  pub under : 0 < low
      → group_at bytes (4 * group_count terms) (low - 1) term ≡ Ok (Less matched next)
  pub above : high < group_count terms
      → group_at bytes (4 * group_count terms) high term ≡ Ok Past

-- a term stands where first terms of groups say it
abbrev pub IsToldAt : List ℕ → ℕ → List ℕ → Standing → Type 0
IsToldAt bytes terms term (First group entry) =
    (group < group_count terms)
    × (group_at bytes (4 * group_count terms) group term ≡ Ok (Found entry))
IsToldAt bytes terms term (After groups matched next) =
    (groups ≤ group_count terms) × AreTold bytes terms term groups groups matched next

-- so does what a search knows
abbrev pub IsToldIn : List ℕ → ℕ → List ℕ → Search → Type 0
IsToldIn bytes terms term (Open b) =
    AreTold bytes terms term b.low b.high b.matched b.next
IsToldIn bytes terms term (Done standing) = IsToldAt bytes terms term standing

-- an answer is what the group says in which the term may be, as first terms of groups say it
pub record IsSaid (bytes : List ℕ) (terms : ℕ) (term : List ℕ) (answer : Option Entry)
    : Type 0 where
  pub standing : Standing
  pub told : IsToldAt bytes terms term standing
  pub said : scanned bytes terms term standing ≡ Ok answer
