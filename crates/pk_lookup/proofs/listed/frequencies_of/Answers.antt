-- One word more.
use Rattle.std.proofs.Common.{◌∙◌, ◌+◌, ◌∷◌, [], ℕ, List, ap, get_or, length}
use Rattle.std.proofs.lemmas.List.{length-append}
use Rattle.pk_lookup.specs.Frequencies.{sum_of}
use Rattle.pk_lookup.proofs.FrequencyLemmas.{sums_more}
use Rattle.pk_lookup.proofs.listed.frequencies_of.Goals as goal

pub loop-place-preserved : goal.loop-place-preserved
loop-place-preserved c =
    let put = c.in_ok-push.ensures.ok in
    let before = c.loop-place.invariant in
    let sums = c.loop-place.sums.items in
    record {
      long = ap length put ∙ length-append sums (c.sum_at.result ∷ []) ∙ ap (λ n. n + 1) before.long;
      each = λ p lt. ap (λ (ns : List ℕ). get_or ns p 0) put ∙ sums_more sums c.loop-place.place c.sum_at.result (sum_of c.args.table.now.words c.args.table.now.segments c.args.table.now.entries.now) before.long before.each c.sum_at.ensures p lt;
    }
