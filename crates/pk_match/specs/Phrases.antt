-- Which plans are one phrase.
use Rattle.std.specs.Prelude.{◌≡◌, ℕ}
use Rattle.std.specs.Global.{Box}
use Rattle.pk_plan.specs.declared.plans.Plan.{Plan}
use Rattle.pk_plan.specs.declared.plans.Plan.TheVariants.{Phrase}

-- it keeps of what its part finds the documents in which words stand in a row
pub record IsPhrase (plan : Plan) : Type 0 where
  pub all : Box Plan
  pub first : ℕ
  pub count : ℕ
  pub is : plan ≡ Phrase all first count
