-- For crates above: which kinds of plan read texts.
use Rattle.std.proofs.Common.{◌≡◌, ◌<◌, ◌≤◌, ◌||◌, ℕ, zero, suc, Bool, true, false, true≢false, List, [], ◌∷◌, map, drop, get_or, length, refl, sym, ap, ◌∙◌, arith}
use Rattle.std.specs.Global.{Box, Vec}
use Rattle.std.specs.List.{list_any}
use Rattle.pk_plan.specs.declared.plans.Plan.{Plan}
use Rattle.pk_plan.specs.declared.plans.Plan.TheOpen.{Plan-F}
use Rattle.pk_plan.specs.declared.plans.Plan.TheFolds.{fold-roll-Plan}
use Rattle.pk_plan.specs.declared.plans.Plan.TheVariants.{Prefix, rolls-Prefix, Unite, Intersect, Exclude, Phrase, rolls-Unite, rolls-Intersect, rolls-Exclude, rolls-Phrase}
use Rattle.pk_plan.specs.Texts.{reads_texts, texts_step}

any_of : (plans : List Plan) → list_any (λ b. b) (map reads_texts plans) ≡ list_any reads_texts plans
any_of [] = refl
any_of (p ∷ plans) = ap (λ b. reads_texts p || b) (any_of plans)

pub unite_reads : (parts : Vec Plan) → reads_texts (Unite parts) ≡ list_any reads_texts parts.items
unite_reads parts = ap reads_texts (sym (rolls-Unite parts)) ∙ fold-roll-Plan Bool texts_step (Plan-F.Unite parts) ∙ any_of parts.items

pub intersect_reads : (places : _) (parts : Vec Plan) → reads_texts (Intersect places parts) ≡ list_any reads_texts parts.items
intersect_reads places parts = ap reads_texts (sym (rolls-Intersect places parts)) ∙ fold-roll-Plan Bool texts_step (Plan-F.Intersect places parts) ∙ any_of parts.items

pub exclude_reads : (all less : Box Plan) → reads_texts (Exclude all less) ≡ (reads_texts all.value || reads_texts less.value)
exclude_reads all less = ap reads_texts (sym (rolls-Exclude all less)) ∙ fold-roll-Plan Bool texts_step (Plan-F.Exclude all less)

pub phrase_reads : (all : Box Plan) (first count : ℕ) → reads_texts (Phrase all first count) ≡ true
phrase_reads all first count = ap reads_texts (sym (rolls-Phrase all first count)) ∙ fold-roll-Plan Bool texts_step (Plan-F.Phrase all first count)

pub prefix_reads : (place : ℕ) → reads_texts (Prefix place) ≡ false
prefix_reads place = ap reads_texts (sym (rolls-Prefix place)) ∙ fold-roll-Plan Bool texts_step (Plan-F.Prefix place)

-- what may be read for both may be read for each
pub may_left : (texts a b : Bool) → ((a || b) ≡ true → texts ≡ true) → a ≡ true → texts ≡ true
may_left texts true b may e = may refl
may_left texts false b may e = absurd (true≢false (sym e))

pub may_right : (texts a b : Bool) → ((a || b) ≡ true → texts ≡ true) → b ≡ true → texts ≡ true
may_right texts true b may e = may refl
may_right texts false b may e = may e

-- and for one of the plans from a place on
pub may_part : (texts : Bool) (plans : List Plan) (from i : ℕ) (plan : Plan) → from ≤ i → i < length plans → plan ≡ get_or plans i plan → (list_any reads_texts (drop from plans) ≡ true → texts ≡ true) → reads_texts plan ≡ true → texts ≡ true
may_part texts [] from i plan le lt at may e = absurd (omega arith)
may_part texts (p ∷ plans) zero zero plan le lt at may e = may_left texts (reads_texts p) (list_any reads_texts plans) may (ap reads_texts (sym at) ∙ e)
may_part texts (p ∷ plans) zero (suc i) plan le lt at may e =
    may_part texts plans zero i plan (omega arith) (omega arith) at (may_right texts (reads_texts p) (list_any reads_texts plans) may) e
may_part texts (p ∷ plans) (suc from) zero plan le lt at may e = absurd (omega arith)
may_part texts (p ∷ plans) (suc from) (suc i) plan le lt at may e = may_part texts plans from i plan (omega arith) (omega arith) at may e

-- neither of two, and both where neither is
pub none_left : (a b : Bool) → (a || b) ≡ false → a ≡ false
none_left true b e = e
none_left false b e = refl

pub none_right : (a b : Bool) → (a || b) ≡ false → b ≡ false
none_right true b e = absurd (true≢false e)
none_right false b e = e

pub neither : (a b : Bool) → a ≡ false → b ≡ false → (a || b) ≡ false
neither a b e f = ap (λ c. c || b) e ∙ f
