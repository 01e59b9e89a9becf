-- For crates above: the operation of each kind of plan.
use Rattle.std.proofs.Common.{◌≡◌, ◌++◌, ℕ, List, true, map, sym, ap, ◌∙◌}
use Rattle.std.specs.Global.{Box, Vec}
use Rattle.pk_plan.specs.declared.plans.Plan.{Plan}
use Rattle.pk_plan.specs.declared.plans.Plan.TheOpen.{Plan-F}
use Rattle.pk_plan.specs.declared.plans.Plan.TheFolds.{fold-roll-Plan}
use Rattle.pk_plan.specs.declared.plans.Plan.TheVariants.{All, Term, Prefix, Unite, Intersect, Exclude, Phrase, rolls-All, rolls-Term, rolls-Prefix, rolls-Unite, rolls-Intersect, rolls-Exclude, rolls-Phrase}
use Rattle.pk_plan.specs.Order.{Standing, is_ordered, standing, standing_step}
use Rattle.pk_plan.specs.Plans.{Operation, Both, Everything, Without, prefix_at, both_all, either_all, operation_of, operation_step, row_at, word_at}

pub of_term : (asked : List (List ℕ)) (place : ℕ) → operation_of asked (Term place) ≡ word_at asked place
of_term asked place = ap (operation_of asked) (sym (rolls-Term place)) ∙ fold-roll-Plan Operation (operation_step asked) (Plan-F.Term place)

pub of_all : (asked : List (List ℕ)) → operation_of asked All ≡ Everything
of_all asked = ap (operation_of asked) (sym rolls-All) ∙ fold-roll-Plan Operation (operation_step asked) Plan-F.All

pub of_unite : (asked : List (List ℕ)) (parts : Vec Plan) → operation_of asked (Unite parts) ≡ either_all (map (operation_of asked) parts.items)
of_unite asked parts = ap (operation_of asked) (sym (rolls-Unite parts)) ∙ fold-roll-Plan Operation (operation_step asked) (Plan-F.Unite parts)

pub of_intersect : (asked : List (List ℕ)) (places : _) (parts : Vec Plan) → operation_of asked (Intersect places parts) ≡ both_all (map (word_at asked) places.items ++ map (operation_of asked) parts.items)
of_intersect asked places parts = ap (operation_of asked) (sym (rolls-Intersect places parts)) ∙ fold-roll-Plan Operation (operation_step asked) (Plan-F.Intersect places parts)

pub of_exclude : (asked : List (List ℕ)) (all less : Box Plan) → operation_of asked (Exclude all less) ≡ Without (operation_of asked all.value) (operation_of asked less.value)
of_exclude asked all less = ap (operation_of asked) (sym (rolls-Exclude all less)) ∙ fold-roll-Plan Operation (operation_step asked) (Plan-F.Exclude all less)

pub of_prefix : (asked : List (List ℕ)) (place : ℕ) → operation_of asked (Prefix place) ≡ prefix_at asked place
of_prefix asked place = ap (operation_of asked) (sym (rolls-Prefix place)) ∙ fold-roll-Plan Operation (operation_step asked) (Plan-F.Prefix place)

pub of_phrase : (asked : List (List ℕ)) (all : Box Plan) (first count : ℕ) → operation_of asked (Phrase all first count) ≡ Both (operation_of asked all.value) (row_at asked first count)
of_phrase asked all first count = ap (operation_of asked) (sym (rolls-Phrase all first count)) ∙ fold-roll-Plan Operation (operation_step asked) (Plan-F.Phrase all first count)

pub phrase_ordered : (table : List ℕ) (all : Box Plan) (first count : ℕ) → is_ordered table (Phrase all first count) ≡ is_ordered table all.value
phrase_ordered table all first count = ap (is_ordered table) (sym (rolls-Phrase all first count)) ∙ ap (λ (s : Standing). s.ordered) (fold-roll-Plan Standing (standing_step table) (Plan-F.Phrase all first count))

-- a prefix is a union, and in order by itself
pub prefix_standing : (table : List ℕ) (place : ℕ) → standing table (Prefix place) ≡ record { ordered = true; union = true }
prefix_standing table place = ap (standing table) (sym (rolls-Prefix place)) ∙ fold-roll-Plan Standing (standing_step table) (Plan-F.Prefix place)
