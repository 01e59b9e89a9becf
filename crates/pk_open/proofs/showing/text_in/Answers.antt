-- What spells documents lies whole in its extent.
use Rattle.std.proofs.Common.{arith}
use Rattle.pk_open.proofs.PlaceLemmas.{whole_of_spelled}
use Rattle.pk_open.proofs.showing.text_in.Goals as goal

pub returns-then-opened-postings-clause-text : goal.returns-then-opened-postings-clause-text
returns-then-opened-postings-clause-text g c = λ h docs kind spells is.
    absurd (omega (arith, whole_of_spelled _ c.args.opened.now docs kind spells is, c.postings.ensures.value, c.if-opened-postings.true))
