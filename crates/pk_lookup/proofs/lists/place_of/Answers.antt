-- The list lies within the segment, whose length has 32 bits.
use Rattle.std.proofs.Common.{◌∙◌, ◌+◌, ℕ, ap, arith}
use Rattle.pk_segment.proofs.ListingLemmas.{most}
use Rattle.pk_lookup.proofs.ListLemmas.{lies_there}
use Rattle.pk_lookup.proofs.lists.place_of.Goals as goal

pub returns-in_default-clause-place : goal.returns-in_default-clause-place
returns-in_default-clause-place c = λ bytes word docs is of leads.
    absurd (c.in_default.ensures (omega (arith, most bytes docs is, leads.inside, c.postings.ensures.documents docs of)))

pub returns-clause-place : goal.returns-clause-place
returns-clause-place c = λ bytes word docs is of leads.
    lies_there bytes docs word c.args.entry c.in-Some.at is leads (c.in-Some.ensures.1 ∙ ap (λ (n : ℕ). n + c.args.entry.place.at) (c.postings.ensures.documents docs of))

pub returns-clause-at : goal.returns-clause-at
returns-clause-at c =
    ap (λ (n : ℕ). record { at = n; bytes = c.args.entry.place.bytes }) (c.in-Some.ensures.1 ∙ ap (λ (n : ℕ). n + c.args.entry.place.at) c.postings.ensures.value)
