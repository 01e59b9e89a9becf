-- Each of the plans so far finds nothing.
use Rattle.std.proofs.Common.{◌≡◌, ◌<◌, ℕ, List, [], get_or}
use Rattle.pk_model.specs.Collection.{Doc}
use Rattle.pk_plan.specs.declared.plans.Plan.{Plan}
use Rattle.pk_plan.specs.Plans.{found, operation_of}
use Rattle.pk_lookup.specs.Matching.{AreEntriesOf}
use Rattle.pk_lookup.proofs.nothing.all_miss.Given as goal

abbrev pub invariant-loop-i : goal.invariant-loop-i
invariant-loop-i l =
    (words : List (List ℕ)) (docs : List Doc) → AreEntriesOf l.entries words docs → (j : ℕ) (part : Plan) → j < l.i → part ≡ get_or l.parts.items j part → found (operation_of words part) docs ≡ []
