-- The order of the words of an intersection, and which parts it has.
use Rattle.std.specs.Prelude.{ℕ, Bool, true, false, ◌&&◌, ◌||◌, List, [], ◌∷◌, map, get_or, nat_eq, nat_lt}
use Rattle.std.specs.List.{list_all}
use Rattle.pk_plan.specs.declared.plans.Plan.{Plan}
use Rattle.pk_plan.specs.declared.plans.Plan.TheOpen.{Plan-F}
use Rattle.pk_plan.specs.declared.plans.Plan.TheFolds.{fold-Plan}

-- how many documents hold the word at a place; 0 where the table ends before it
abbrev pub frequency_of : List ℕ → ℕ → ℕ
frequency_of table place = get_or table place 0

-- the word at the one place goes before that at the other: it is rarer, or as rare and earlier in
-- the query
abbrev pub precedes : List ℕ → ℕ → ℕ → Bool
precedes table p q = nat_lt (frequency_of table p) (frequency_of table q)
    || (nat_eq (frequency_of table p) (frequency_of table q) && nat_lt p q)

-- each place goes before the next
abbrev pub in_order : List ℕ → List ℕ → Bool
in_order table [] = true
in_order table (p ∷ []) = true
in_order table (p ∷ q ∷ qs) = precedes table p q && in_order table (q ∷ qs)

-- what a plan is to the plan around it: whether its own intersections are in order, and whether it
-- is a union
pub record Standing : Type 0 where
  pub ordered : Bool
  pub union : Bool

-- One level of a plan, with the standing of each part in its place. The parts of an intersection are
-- unions, and a prefix is one: a word stands among its places, and what would be an intersection is
-- a part of it itself. A phrase stands around all else of its chain.
abbrev pub standing_step : List ℕ → Plan-F Standing → Standing
standing_step table (Plan-F.Term place) = record { ordered = true; union = false }
standing_step table (Plan-F.Prefix place) = record { ordered = true; union = true }
standing_step table Plan-F.All = record { ordered = true; union = false }
standing_step table (Plan-F.Intersect places parts) =
    record { ordered = in_order table places.items && list_all (λ s. s.ordered && s.union) parts.items; union = false }
standing_step table (Plan-F.Unite parts) = record { ordered = list_all (λ s. s.ordered) parts.items; union = true }
standing_step table (Plan-F.Exclude all less) = record { ordered = all.value.ordered && less.value.ordered; union = false }
standing_step table (Plan-F.Phrase all first count) = record { ordered = all.value.ordered; union = false }

abbrev pub standing : List ℕ → Plan → Standing
standing table = fold-Plan Standing (standing_step table)

-- THE WORDS OF EACH INTERSECTION STAND BY RISING FREQUENCY, those of one frequency in the query's
-- order, and all its other parts are unions
abbrev pub is_ordered : List ℕ → Plan → Bool
is_ordered table plan = (standing table plan).ordered

-- that of several plans
abbrev pub all_ordered : List ℕ → List Plan → Bool
all_ordered table plans = list_all (λ s. s.ordered) (map (standing table) plans)

-- several plans are parts of an intersection
abbrev pub all_parts : List ℕ → List Plan → Bool
all_parts table plans = list_all (λ s. s.ordered && s.union) (map (standing table) plans)
