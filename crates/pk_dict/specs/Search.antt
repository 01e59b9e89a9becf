-- What the search among the groups knows.
use Rattle.std.specs.Prelude.{
  ◌≡◌,
  ◌≤◌,
  ◌<◌,
  ◌+◌,
  ◌-◌,
  ◌*◌,
  ℕ,
  List,
  [],
  ◌∷◌,
  ◌++◌,
  length,
  drop,
  true,
  false,
  Ok,
}
use Rattle.std.specs.Str.{bytes_eq}
use Rattle.pk_dict.specs.declared.head.Between.{Between}
use Rattle.pk_dict.specs.declared.head.Search.{Search}
use Rattle.pk_dict.specs.declared.head.Search.TheVariants.{Open, Done}
use Rattle.pk_dict.specs.declared.head.Standing.{Standing}
use Rattle.pk_dict.specs.declared.head.Standing.TheVariants.{First, After}
use Rattle.pk_dict.specs.declared.head.Step.TheVariants.{Found}
use Rattle.pk_dict.specs.Dictionary.{Item, shared, spelled_items, group_count}
use Rattle.pk_dict.specs.Order.{less}
use Rattle.pk_dict.specs.Reading.{group_at}

-- a group's first term is less than the wanted one, with which it shares so much; the next term
-- stands at a place
pub record Under (bytes term : List ℕ) (g matched next : ℕ) (e : Item) (rest : List Item)
    : Type 0 where
  pub other : bytes_eq e.term term ≡ false
  pub before : less e.term term ≡ true
  pub shares : matched ≡ shared e.term term
  pub place : next ≤ length bytes
  pub stands : drop next bytes ≡ spelled_items (16 * g + 1) e.term rest ++ []

-- a group's first term is greater than the wanted one
pub record Above (term : List ℕ) (e : Item) : Type 0 where
  pub other : bytes_eq e.term term ≡ false
  pub after : less e.term term ≡ false

-- what is known of the groups below low and from high on
pub record Known (bytes : List ℕ) (es : List Item) (term : List ℕ) (low high matched next : ℕ)
    : Type 0 where
  pub under : 0 < low → (e : Item) (rest : List Item) → drop (16 * (low - 1)) es ≡ e ∷ rest
      → Under bytes term (low - 1) matched next e rest
  pub above : high < group_count (length es) → (e : Item) (rest : List Item)
      → drop (16 * high) es ≡ e ∷ rest → Above term e

-- where a term stands among the first terms of the groups
abbrev pub IsStanding : List ℕ → List Item → List ℕ → Standing → Type 0
IsStanding bytes es term (First group entry) =
    (group < group_count (length es))
    × (group_at bytes (4 * group_count (length es)) group term ≡ Ok (Found entry))
IsStanding bytes es term (After groups matched next) =
    (groups ≤ group_count (length es)) × Known bytes es term groups groups matched next

-- the groups are some of so many, and no more is matched than the term has
abbrev pub IsAmong : ℕ → ℕ → Standing → Type 0
IsAmong groups size (First group entry) = group < groups
IsAmong groups size (After count matched next) = (count ≤ groups) × (matched ≤ size)

-- a search goes on between some of so many groups, and no more is matched than the term has
pub record IsAmid (groups size : ℕ) (b : Between) : Type 0 where
  pub order : b.low ≤ b.high
  pub most : b.high ≤ groups
  pub within : b.matched ≤ size

-- a search is at its end, or goes on, among so many groups
abbrev pub Goes : ℕ → ℕ → Search → Type 0
Goes groups size (Open between) = IsAmid groups size between
Goes groups size (Done standing) = IsAmong groups size standing

-- what a search has found out is true of a dictionary
abbrev pub IsKnown : List ℕ → List Item → List ℕ → Search → Type 0
IsKnown bytes es term (Open b) = Known bytes es term b.low b.high b.matched b.next
IsKnown bytes es term (Done standing) = IsStanding bytes es term standing
