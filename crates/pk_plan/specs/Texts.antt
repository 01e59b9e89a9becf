-- Which plans read texts of documents.
use Rattle.std.specs.Prelude.{◌≡◌, Bool, true, false, ◌||◌, List}
use Rattle.std.specs.List.{list_any}
use Rattle.pk_model.specs.Tree.{Tree, Term, Phrase, Prefix, And, Or, Not}
use Rattle.pk_plan.specs.declared.plans.Plan.{Plan}
use Rattle.pk_plan.specs.declared.plans.Plan.TheOpen.{Plan-F}
use Rattle.pk_plan.specs.declared.plans.Plan.TheFolds.{fold-Plan}

-- one level of a plan, with what is so of each part in its place
abbrev pub texts_step : Plan-F Bool → Bool
texts_step (Plan-F.Term place) = false
texts_step (Plan-F.Prefix place) = false
texts_step Plan-F.All = false
texts_step (Plan-F.Intersect places parts) = list_any (λ b. b) parts.items
texts_step (Plan-F.Unite parts) = list_any (λ b. b) parts.items
texts_step (Plan-F.Exclude all less) = all.value || less.value
texts_step (Plan-F.Phrase all first count) = true

-- the plan has a phrase, for which texts are read
abbrev pub reads_texts : Plan → Bool
reads_texts = fold-Plan Bool texts_step

-- the texts are there where the plan reads them
abbrev pub MayRead : Bool → Plan → Type 0
MayRead texts plan = reads_texts plan ≡ true → texts ≡ true

-- or where one of the plans does
abbrev pub MayReadAll : Bool → List Plan → Type 0
MayReadAll texts plans = list_any reads_texts plans ≡ true → texts ≡ true

-- the query has a phrase
abbrev pub has_phrase : Tree → Bool
has_phrase (Term word) = false
has_phrase (Phrase row) = true
has_phrase (Prefix prefix) = false
has_phrase (And left right) = has_phrase left || has_phrase right
has_phrase (Or left right) = has_phrase left || has_phrase right
has_phrase (Not part) = has_phrase part
